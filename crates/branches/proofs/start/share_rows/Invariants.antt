-- The rows before row i are merged, and the index is one of them.
use Rattle.std.proofs.Common.{◌*◌}
use Rattle.rows.specs.Lent.{OnRows}
use Rattle.branches.specs.declared.Sought.TheVariants.{Same}
use Rattle.branches.specs.Index.{Indexes, SameIf}
use Rattle.branches.proofs.ShareLaws.{Merging}
use Rattle.branches.proofs.start.share_rows.Given as goal

abbrev pub invariant-loop-i : goal.invariant-loop-i
invariant-loop-i l = record {
  terms : OnRows (λ ws ws' cs cs'. Merging (2 * l.fn.rows.w) l.n ws ws' cs cs' l.m l.i) l.fn.rows l.rows;
  same : SameIf l.fn.index l.index;
  index : Indexes Same l.rows l.m l.index;
}
