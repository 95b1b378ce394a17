-- As much of the text as was passed stands on the page.
use Rattle.std.proofs.Common.{take}
use Rattle.replies.specs.Written.{Writes}
use Rattle.replies.proofs.Page.write_text.Given as goal

abbrev pub invariant-loop-b : goal.invariant-loop-b
invariant-loop-b l = Writes l.fn.self (take l.b-index l.s) l.self
