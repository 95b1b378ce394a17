use Rattle.std.proofs.Common.{arith}
use Rattle.ops.proofs.BinaryLaws.{seen_fit}
use Rattle.ops.proofs.Circuit.new.Goals as goal

pub invariant_of-result : goal.invariant_of-result
invariant_of-result c = record { binary64 = seen_fit c.args.ops.now c.loop-op.op-index (omega arith) c.loop-op.invariant }
