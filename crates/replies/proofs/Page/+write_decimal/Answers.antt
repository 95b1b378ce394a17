use Rattle.std.proofs.Common.{arith}
use Rattle.replies.proofs.WriteLaws.{both, put}
use Rattle.replies.proofs.TextLaws.{digit_one, digit_more}
use Rattle.replies.proofs.Page.+write_decimal.Goals.{then-n-ge10, else-n-ge10}
use Rattle.replies.proofs.Page.+write_decimal.Goals as goal

pub returns : goal.returns
returns t c =
    elim c.if-n-ge10.branch [
      | then-n-ge10 w ↦ put (digit_more c.args.n _ w.if-n-ge10.true (c.ranges.n.fits) (omega (arith, c.ranges.n.fits))) (both w.write_decimal.ensures (rw w.self-is at c.write_byte.ensures))
      | else-n-ge10 w ↦ put (digit_one c.args.n w.if-n-ge10.false) (rw w.self-is at c.write_byte.ensures)
    ]
