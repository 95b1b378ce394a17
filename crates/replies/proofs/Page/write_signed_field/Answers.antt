use Rattle.std.proofs.Common.{ap}
use Rattle.std.proofs.Common.{ℤ}
use Rattle.replies.specs.Printed.{int_text, field}
use Rattle.replies.proofs.WriteLaws.{both, put}
use Rattle.replies.proofs.TextLaws.{as_held}
use Rattle.replies.proofs.Page.write_signed_field.Goals as goal

pub returns : goal.returns
returns c = put (ap (λ (z : ℤ). field c.args.key.now (int_text z)) (as_held c.args.n c.ranges.n)) (both c.write_text.ensures (both c.write_signed.ensures c.write_byte.ensures))
