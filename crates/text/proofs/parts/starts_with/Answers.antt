use Rattle.std.proofs.Common.{◌∙◌}
use Rattle.text.proofs.PartLaws.{begins_starts}
use Rattle.text.proofs.parts.starts_with.Goals as goal

pub returns : goal.returns
returns c = c.starts_with.ensures.value ∙ begins_starts _ _
