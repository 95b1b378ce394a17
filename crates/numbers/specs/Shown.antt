-- The number on the bar: "`shown` is the exact 1000 × mean .., held within ±999,999,999", by the rule of request 2026-03. What the rule comes to is
-- said in specs/Fair.antt.
use Prim.Native.Nat.{ℕ, ◌*◌, ◌/◌, ◌%◌, min, compare}
use Rattle.std.specs.Prelude.{Bool, true, false, ℤ, pos, neg_ℤ, Float}
use Rattle.std.specs.Float.{nan, inf, fin}
use Rattle.std.specs.Float.Ieee.{up, down, nearest}

-- "nearest thousandth, an exact half to the even thousandth": the rule by which the size a / b becomes a whole number. It is the quotient or the next
-- number, by how twice the remainder compares with b, and where they are equal the even one of the two. "The half is judged on the exact product,
-- never on a rounded one": a / b is the exact 1000 × |mean|.
unfoldable pub ruled : ℕ → ℕ → ℕ
ruled a b = nearest (a / b) (compare (a % b * 2) b)

-- "held within ±999,999,999"
abbrev pub most_shown : ℕ
most_shown = 999999999

abbrev pub signed : Bool → ℕ → ℤ
signed false n = pos n
signed true n = neg_ℤ (pos n)

-- "The clamp is applied after rounding", "the negatives mirror them". A mean is finite where it is shown. A NaN and an infinity have no number, and 0
-- stands for them.
unfoldable pub shown_of : Float → ℤ
unfolding ruled
shown_of nan = pos 0
shown_of (inf s) = pos 0
shown_of (fin s m e) = signed s (min (ruled (1000 * (m * up e)) (down e)) most_shown)
