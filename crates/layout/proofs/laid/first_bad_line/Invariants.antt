-- The parts before this one are right.
use Rattle.text.specs.Bytes.{parts, newline}
use Rattle.std.proofs.Common.{length}
use Rattle.layout.specs.Layout.{bad_line}
use Rattle.layout.proofs.LineLaws.{Passing}
use Rattle.layout.proofs.laid.first_bad_line.Given as goal

abbrev pub invariant-loop-i : goal.invariant-loop-i
invariant-loop-i l = Passing l.terms l.ops l.s (bad_line l.terms l.ops (parts newline l.s) 1) (length l.yielded) l.rest
