-- How many digits are left.
use Rattle.replies.proofs.Page.+write_hex_digits.Given as goal

abbrev pub decreases-write_hex_digits : goal.decreases-write_hex_digits
decreases-write_hex_digits l = l.d
