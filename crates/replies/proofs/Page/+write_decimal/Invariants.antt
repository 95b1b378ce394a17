-- The digits that are left are those of a smaller number.
use Rattle.replies.proofs.Page.+write_decimal.Given as goal

abbrev pub decreases-write_decimal : goal.decreases-write_decimal
decreases-write_decimal l = l.n
