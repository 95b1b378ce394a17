-- 2026-06: "The trade now takes a pair as a rotation only if, with each number cut toward zero to a whole multiple of 2^-60, the exact sum of
-- squares differs from 1 by at most 2^-50. Pauli rates, cut the same way, must sum to at most 1."
use Rattle.std.specs.Prelude.{ℕ, ◌+◌, ◌*◌, ◌/◌, ◌^◌, Bool, false, ◌&&◌, leb, Float}
use Rattle.std.specs.Float.{nan, inf, fin}
use Rattle.std.specs.Float.Ieee.{up, down}

-- "cut toward zero to a whole multiple of 2^-60": a sign, and how many of them the size of the number has
pub record Cut : Type 0 where
  pub negative : Bool
  pub size : ℕ

-- a NaN and an infinity have no such multiple: they count as twice what 1 has, which is in no pair and no triple that passes
abbrev pub most : ℕ
most = 2 ^ 61

unfoldable pub cut_of : Float → Cut
cut_of nan = record { negative = false; size = most }
cut_of (inf s) = record { negative = s; size = most }
cut_of (fin s m e) = record { negative = s; size = m * up e * 2 ^ 60 / down e }

-- "the exact sum of squares differs from 1 by at most 2^-50", in multiples of 2^-120
abbrev pub near : ℕ → Bool
near n = leb (2 ^ 120) (n + 2 ^ 70) && leb n (2 ^ 120 + 2 ^ 70)

abbrev pub on_circle : ℕ → ℕ → Bool
on_circle a b = near (a * a + b * b)

abbrev pub is_angle : Float → Float → Bool
is_angle sine cosine = on_circle (cut_of sine).size (cut_of cosine).size

-- "Pauli rates, cut the same way, must sum to at most 1": by question 4 they are at least 0, so their sizes are summed
abbrev pub is_mix : Float → Float → Float → Bool
is_mix px py pz = leb ((cut_of px).size + (cut_of py).size + (cut_of pz).size) (2 ^ 60)
