-- Request 2026-03, "Fair rounding on the bar": what `shown_of` is, said without saying how it is computed. Proved in proofs/FairLaws.antt,
-- `fair_rounding` and `mirrored`.
use Rattle.std.specs.Prelude.{ℕ, suc, ◌+◌, ◌-◌, ◌*◌, ◌%◌, ◌≤◌, min, ◌≡◌, Bool, true, false, ℤ, pos, negsuc, neg_ℤ, Float}
use Rattle.std.specs.Float.{nan, inf, fin}
use Rattle.std.specs.Float.Ieee.{up, down, neg}
use Rattle.numbers.specs.Tests.{is_finite}
use Rattle.numbers.specs.Shown.{most_shown, signed, shown_of}

-- ---- an integer and a fraction a / b

-- How far the integer k is from a / b, in parts of 1 / b: |a - k * b|. A difference of natural numbers stops at 0, so one of the two is 0.
abbrev pub gap : ℕ → ℕ → ℤ → ℕ
gap a b (pos n) = (a - n * b) + (n * b - a)
gap a b (negsuc n) = a + suc n * b

abbrev pub Even : ℤ → Type 0
Even (pos n) = n % 2 ≡ 0
Even (negsuc n) = suc n % 2 ≡ 0

-- "nearest .., an exact half to the even ..": no integer is nearer to a / b than k, and where another is as near k is even.
pub record NearestEven (a b : ℕ) (k : ℤ) : Type 0 where
  pub nearest : (j : ℤ) → gap a b k ≤ gap a b j
  pub even : (j : ℤ) → (j ≡ k → ⊥) → gap a b j ≡ gap a b k → Even k

-- ---- "the exact product": 1000 × |x|, for x = ± m * 2 ^ e, as a whole number over a power of two. Nothing is rounded.

abbrev pub numerator : Float → ℕ
numerator nan = 0
numerator (inf s) = 0
numerator (fin s m e) = 1000 * (m * up e)

abbrev pub denominator : Float → ℕ
denominator nan = 1
denominator (inf s) = 1
denominator (fin s m e) = down e

abbrev pub is_minus : Float → Bool
is_minus nan = false
is_minus (inf s) = s
is_minus (fin s m e) = s

-- "held within ±999,999,999"
abbrev pub held : ℤ → ℤ
held (pos n) = pos (min n most_shown)
held (negsuc n) = neg_ℤ (pos (min (suc n) most_shown))

-- ---- the promise

-- "nearest thousandth, an exact half to the even thousandth": `size` is the integer nearest to the exact 1000 × |x|, the even one where two are equally
-- near, and no other integer is that. "The clamp is applied after rounding": what is shown is `size` with the sign of x, held.
pub record Fair (x : Float) : Type 0 where
  pub size : ℕ
  pub rounded : NearestEven (numerator x) (denominator x) (pos size)
  pub only : (k : ℤ) → NearestEven (numerator x) (denominator x) k → k ≡ pos size
  pub shown : shown_of x ≡ held (signed (is_minus x) size)

-- of every finite x
abbrev pub FairRounding : Type 0
FairRounding = (x : Float) → is_finite x ≡ true → Fair x

-- "the negatives mirror them"
abbrev pub Mirrored : Type 0
Mirrored = (x : Float) → shown_of (neg x) ≡ neg_ℤ (shown_of x)
