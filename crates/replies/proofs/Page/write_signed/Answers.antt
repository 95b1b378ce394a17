use Rattle.replies.proofs.WriteLaws.{both, put}
use Rattle.replies.proofs.TextLaws.{text_minus, text_plus}
use Rattle.replies.proofs.Page.write_signed.Goals.{then-n-lt0, else-n-lt0}
use Rattle.replies.proofs.Page.write_signed.Goals as goal

pub returns : goal.returns
returns c =
    elim c.if-n-lt0.branch [
      | then-n-lt0 w ↦ put (text_minus c.args.n c.ranges.n _ c.unsigned_abs.ensures.value w.if-n-lt0.true) (both w.write_byte.ensures (rw w.self-is at c.write_decimal.ensures))
      | else-n-lt0 w ↦ put (text_plus c.args.n c.ranges.n _ c.unsigned_abs.ensures.value w.if-n-lt0.false) (rw w.self-is at c.write_decimal.ensures)
    ]
