-- The branches of the rows before row i are there, and the index is one of all the rows.
use Rattle.std.proofs.Common.{◌+◌, ◌*◌, ◌≤◌}
use Rattle.terms.specs.Channel.{branches_to}
use Rattle.rows.specs.Rows.{Holds}
use Rattle.rows.specs.Lent.{row_terms, OnRows}
use Rattle.branches.specs.declared.Sought.TheVariants.{Identity}
use Rattle.branches.specs.Index.{Indexes, SameIf}
use Rattle.branches.proofs.channels.add_identity_branches.Given as goal

abbrev pub invariant-loop-i : goal.invariant-loop-i
invariant-loop-i l = let s = l.fn.rows in
    record {
      count : (l.n ≤ l.m) × (l.m ≤ l.n + l.i);
      terms : OnRows (Holds (2 * s.w) l.m l.m (branches_to s.w l.q l.f l.i (row_terms s l.n))) s l.rows;
      same : SameIf l.fn.index l.index;
      index : Indexes (Identity l.q) l.rows l.m l.index;
    }
