-- The rows before i are rotated, and the table says the partners of the others.
use Rattle.std.proofs.Common.{◌+◌, ◌*◌, ◌≤◌}
use Rattle.rows.specs.Rows.{Holds}
use Rattle.rows.specs.Lent.{row_terms, OnRows}
use Rattle.branches.specs.Rotated.{rows_by}
use Rattle.branches.specs.Index.{Tables}
use Rattle.branches.proofs.rotation.branch_rows.Given as goal

abbrev pub invariant-loop-i : goal.invariant-loop-i
invariant-loop-i l =
    let s = l.fn.rows in
    (l.i ≤ l.n) × (l.n ≤ l.m) × (l.m ≤ l.n + l.i)
    × OnRows (Holds (2 * s.w) l.m l.m (rows_by s.w l.rotation l.n l.i (row_terms s l.n))) s l.rows
    × Tables l.rotation.axis l.rows l.n l.i l.table
