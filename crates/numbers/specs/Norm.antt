-- What a pair that is an angle gives and one that is none does not: a rotation by it keeps the sum of the squares of the coefficients, taken exactly,
-- within 1 - 2^-50 and 1 + 2^-49 times what it was.
use Rattle.std.specs.Prelude.{ℕ, ◌+◌, ◌-◌, ◌*◌, ◌^◌, ◌≤◌, ◌≡◌, true, Float}
use Rattle.std.specs.Float.{nan, inf, fin}
use Rattle.std.specs.Float.Ieee.{up, down}
use Rattle.numbers.specs.Angle.{is_angle}

-- the exact size of a finite number, as a whole number of parts, and how many parts 1 has
abbrev pub parts_of : Float → ℕ
parts_of nan = 0
parts_of (inf s) = 0
parts_of (fin s m e) = m * up e

abbrev pub unit_of : Float → ℕ
unit_of nan = 1
unit_of (inf s) = 1
unit_of (fin s m e) = down e

-- the sizes of a sine and a cosine in parts of one unit
abbrev pub sine_in : Float → Float → ℕ
sine_in s c = parts_of s * unit_of c

abbrev pub cosine_in : Float → Float → ℕ
cosine_in s c = parts_of c * unit_of s

abbrev pub unit_in : Float → Float → ℕ
unit_in s c = unit_of s * unit_of c

-- the difference of two sizes
abbrev pub apart : ℕ → ℕ → ℕ
apart a b = (a - b) + (b - a)

abbrev pub square : ℕ → ℕ
square n = n * n

pub record KeepsNorm (s c : Float) : Type 0 where
  -- sine² + cosine², exactly
  pub least : (2 ^ 50 - 1) * square (unit_in s c) ≤ 2 ^ 50 * (square (sine_in s c) + square (cosine_in s c))
  pub greatest : 2 ^ 49 * (square (sine_in s c) + square (cosine_in s c)) ≤ (2 ^ 49 + 1) * square (unit_in s c)
  -- "becomes c × cos + flip(partner)", before rounding, for partners whose coefficients have the sizes a and b, one of whose new sizes is a sum of products
  -- and the other a difference. Sizes alone are spoken of: which of the two is the sum depends on the signs, and a and b exchanged give the other case.
  -- With b = 0: a term without partner.
  pub turned_least : (a b : ℕ)
      → (2 ^ 50 - 1) * (square (unit_in s c) * (square a + square b))
      ≤ 2 ^ 50 * (square (a * cosine_in s c + b * sine_in s c) + square (apart (a * sine_in s c) (b * cosine_in s c)))
  pub turned_greatest : (a b : ℕ)
      → 2 ^ 49 * (square (a * cosine_in s c + b * sine_in s c) + square (apart (a * sine_in s c) (b * cosine_in s c)))
      ≤ (2 ^ 49 + 1) * (square (unit_in s c) * (square a + square b))

-- of every pair that question 11 takes
abbrev pub AnglesKeepNorm : Type 0
AnglesKeepNorm = (s c : Float) → is_angle s c ≡ true → KeepsNorm s c
