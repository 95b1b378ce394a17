-- The ops from i on are seen.
use Rattle.ops.proofs.MarkLaws.{Seen}
use Rattle.ops.proofs.marks.cone_from.Given as goal

abbrev pub invariant-loop-i : goal.invariant-loop-i
invariant-loop-i l = Seen l.fn.cone.members l.ops l.i l.cone.members l.fn.marks l.marks
