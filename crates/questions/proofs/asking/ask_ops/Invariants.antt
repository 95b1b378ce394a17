-- No op before i is refused.
use Rattle.std.proofs.Common.{◌+◌}
use Rattle.questions.specs.Asking.{op_number}
use Rattle.questions.proofs.WalkLaws.{Walked}
use Rattle.questions.proofs.asking.ask_ops.Given as goal

abbrev pub invariant-loop-i : goal.invariant-loop-i
invariant-loop-i l = Walked (op_number l.asked l.laid.sheet.head) (8 + l.laid.sheet.head.terms) l.laid.ops.now l.i
