-- Worked values, each by computing the definition. Numbers are written by their bits.
use Rattle.std.specs.Prelude.{ℕ, ◌≡◌, refl, true, false}
use Rattle.std.specs.Float.{nan, binary64}
use Rattle.std.specs.Float.Ieee.{add, mul, eq, le, of_bits, to_bits}
use Rattle.numbers.specs.Constants.{sine_t, cosine_t}
use Rattle.numbers.specs.Tests.{in_unit}
use Rattle.numbers.specs.Root.{sqrt_of}
use Rattle.numbers.specs.Bits.{printed_bits}

abbrev root_of : ℕ → ℕ
root_of b = to_bits binary64 (sqrt_of (of_bits binary64 b))

-- the roots of 2, 0.5, 0.25, the smallest value (2 ^ -537), the largest, and -0; -1 has none
pub roots : (root_of 0x4000_0000_0000_0000 ≡ 0x3ff6_a09e_667f_3bcd)
    × (root_of 0x3fe0_0000_0000_0000 ≡ 0x3fe6_a09e_667f_3bcd)
    × (root_of 0x3fd0_0000_0000_0000 ≡ 0x3fe0_0000_0000_0000)
    × (root_of 0x0000_0000_0000_0001 ≡ 0x1e60_0000_0000_0000)
    × (root_of 0x7fef_ffff_ffff_ffff ≡ 0x5fef_ffff_ffff_ffff)
    × (root_of 0x8000_0000_0000_0000 ≡ 0x8000_0000_0000_0000)
    × (sqrt_of (of_bits binary64 0xbff0_0000_0000_0000) ≡ nan)
unfolding sqrt_of of_bits to_bits
roots = (refl, refl, refl, refl, refl, refl, refl)

-- the squares of t's sine and cosine, each rounded, and their sum: 1
pub circle : (to_bits binary64 (mul binary64 sine_t sine_t) ≡ 0x3fdf_ffff_ffff_fffe)
    × (to_bits binary64 (mul binary64 cosine_t cosine_t) ≡ 0x3fe0_0000_0000_0001)
    × (to_bits binary64 (add binary64 (mul binary64 sine_t sine_t) (mul binary64 cosine_t cosine_t)) ≡ 0x3ff0_0000_0000_0000)
unfolding add mul of_bits to_bits
circle = (refl, refl, refl)

-- -0 prints as +0
pub printed_zero : printed_bits (of_bits binary64 0x8000_0000_0000_0000) ≡ 0
unfolding eq of_bits
printed_zero = refl

-- -0 is in the unit interval, a NaN is not
pub unit_ends : (in_unit (of_bits binary64 0x8000_0000_0000_0000) ≡ true) × (in_unit nan ≡ false)
unfolding le of_bits
unit_ends = (refl, refl)
