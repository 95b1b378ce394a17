use Rattle.replies.proofs.WriteLaws.{both, put}
use Rattle.replies.proofs.TextLaws.{hex_none, hex_more}
use Rattle.replies.proofs.Page.+write_hex_digits.Goals as goal

pub returns-then-d-eq0 : goal.returns-then-d-eq0
returns-then-d-eq0 t c = put (hex_none c.args.d c.args.n c.if-d-eq0.true) c.hold.ensures

pub returns-else-d-eq0 : goal.returns-else-d-eq0
returns-else-d-eq0 t c = put (hex_more c.args.d c.args.n _ c.if-d-eq0.false c.hex_digit.ensures) (both c.write_hex_digits.ensures c.write_byte.ensures)
