-- The words before word k are hashed.
use Rattle.std.proofs.Common.{◌≡◌, drop}
use Rattle.rows.specs.Lent.{row_key}
use Rattle.branches.specs.Chains.{hashed, class_of}
use Rattle.branches.proofs.Index.bucket_of.Given as goal

abbrev pub invariant-loop-k : goal.invariant-loop-k
invariant-loop-k l = hashed l.h (drop l.k (class_of l.rows.w l.sought (row_key l.rows l.row))) ≡ hashed 0 (class_of l.rows.w l.sought (row_key l.rows l.row))
