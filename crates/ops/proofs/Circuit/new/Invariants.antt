-- The reals of the ops before the index are binary64.
use Rattle.std.proofs.Common.{ℕ, ◌<◌, get_or}
use Rattle.ops.specs.declared.Op.TheVariants.{Barrier}
use Rattle.ops.specs.Binary.{RealsAreBinary64}
use Rattle.ops.proofs.Circuit.new.Given as goal

abbrev pub invariant-loop-op : goal.invariant-loop-op
invariant-loop-op l = (k : ℕ) → k < l.op-index → RealsAreBinary64 (get_or l.ops k Barrier)
