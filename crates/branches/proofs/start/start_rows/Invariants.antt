-- The terms of the lines before l are in the rows.
use Rattle.std.proofs.Common.{◌*◌, length}
use Rattle.rows.specs.Rows.{Holds}
use Rattle.rows.specs.Lent.{OnRows}
use Rattle.branches.specs.Started.{lines_of}
use Rattle.branches.proofs.start.start_rows.Given as goal

abbrev pub invariant-loop-l : goal.invariant-loop-l
invariant-loop-l l =
    let s = l.fn.rows in
    let o = l.fn.observable in
    OnRows (Holds (2 * s.w) (length o.weights.now) l.l (lines_of s.w o.keys.now o.weights.now l.l)) s l.rows
