-- The ops before i are written.
use Rattle.layout.proofs.LoadLaws.{Loading}
use Rattle.layout.proofs.loads.load_ops.Given as goal

abbrev pub invariant-loop-i : goal.invariant-loop-i
invariant-loop-i l = Loading l.s l.fn.sheet.head l.fn.ops l.i l.at l.ops
