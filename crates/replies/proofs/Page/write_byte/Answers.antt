use Rattle.std.proofs.Common.{refl}
use Rattle.replies.proofs.WriteLaws.{one_in, one_past}
use Rattle.replies.proofs.Page.write_byte.Goals as goal

pub returns-then-self : goal.returns-then-self
returns-then-self c = record { same_reference = refl; wrote = one_in _ _ _ c.if-self.true }

pub returns-else-self : goal.returns-else-self
returns-else-self c = record { same_reference = refl; wrote = one_past _ _ _ c.if-self.false }
