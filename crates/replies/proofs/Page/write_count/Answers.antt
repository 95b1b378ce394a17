use Rattle.replies.proofs.WriteLaws.{both}
use Rattle.replies.proofs.Page.write_count.Goals as goal

pub returns : goal.returns
returns c = both c.write_text.ensures (both c.write_decimal.ensures c.write_byte.ensures)
