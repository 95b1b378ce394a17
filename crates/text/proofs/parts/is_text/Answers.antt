use Rattle.std.proofs.Common.{◌∙◌}
use Rattle.text.proofs.PartLaws.{same_pointwise}
use Rattle.text.proofs.parts.is_text.Goals as goal

pub returns : goal.returns
returns c = c.eq.ensures ∙ same_pointwise _ _
