use Rattle.std.proofs.Common.{refl, arith}
use Rattle.std.proofs.lemmas.Grind.{common_steps}
use Rattle.replies.proofs.WriteLaws.{page_printed}
use Rattle.replies.proofs.printed.printed.Goals as goal

pub returns : goal.returns
returns c = page_printed c.write_reply.ensures refl refl (grind (arith, common_steps, c.write_reply.ensures.same_reference))
