-- The rows before i are done.
use Rattle.std.proofs.Common.{◌*◌}
use Rattle.terms.specs.Lists.{map_to}
use Rattle.terms.specs.Channel.{scaled_either}
use Rattle.rows.specs.Rows.{Holds}
use Rattle.rows.specs.Lent.{row_terms, OnRows}
use Rattle.branches.proofs.channels.scale_eithers.Given as goal

abbrev pub invariant-loop-i : goal.invariant-loop-i
invariant-loop-i l =
    let s = l.fn.rows in
    OnRows (Holds (2 * s.w) l.n l.n (map_to (scaled_either s.w l.a l.b l.f) l.i (row_terms s l.n))) s l.rows
