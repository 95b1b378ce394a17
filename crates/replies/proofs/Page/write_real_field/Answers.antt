use Rattle.replies.proofs.WriteLaws.{both}
use Rattle.replies.proofs.Page.write_real_field.Goals as goal

pub returns : goal.returns
returns c = both c.write_text.ensures (both c.write_real.ensures c.write_byte.ensures)
