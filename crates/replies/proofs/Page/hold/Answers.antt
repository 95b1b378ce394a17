use Rattle.std.proofs.Common.{rules}
use Rattle.std.proofs.Common.{refl}
use Rattle.replies.proofs.WriteLaws.{none}
use Rattle.replies.proofs.Page.hold.Goals as goal

pub returns : goal.returns
returns c = record { same_reference = refl; wrote = none _ (search rules) }
