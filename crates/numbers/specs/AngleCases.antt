-- Worked values of question 11, by computing the definition. Numbers are written by their bits.
use Rattle.std.specs.Prelude.{ℕ, ◌^◌, ◌≡◌, refl, Bool, true, false}
use Rattle.std.specs.Float.{nan, inf, binary64}
use Rattle.std.specs.Float.Ieee.{of_bits, neg}
use Rattle.numbers.specs.Constants.{zero64, one64, minus_one64, sine_t, cosine_t}
use Rattle.numbers.specs.Angle.{cut_of, is_angle, is_mix}

abbrev pub pair : ℕ → ℕ → Bool
pair s c = is_angle (of_bits binary64 s) (of_bits binary64 c)

abbrev pub mix : ℕ → ℕ → ℕ → Bool
mix x y z = is_mix (of_bits binary64 x) (of_bits binary64 y) (of_bits binary64 z)

-- "A sheet builder sent sine 1 with cosine 1"; sine 0 with cosine 0 is no angle either
pub no_angle : (is_angle one64 one64 ≡ false) × (is_angle zero64 zero64 ≡ false)
unfolding cut_of of_bits
no_angle = (refl, refl)

-- quarter turns, with either sign and either zero; the pair of t; 0.6 with 0.8
pub angles : (is_angle one64 zero64 ≡ true)
    × (is_angle zero64 minus_one64 ≡ true)
    × (pair 0x8000_0000_0000_0000 0xbff0_0000_0000_0000 ≡ true)
    × (is_angle sine_t cosine_t ≡ true)
    × (is_angle (neg sine_t) cosine_t ≡ true)
    × (pair 0x3fe3_3333_3333_3333 0x3fe9_9999_9999_999a ≡ true)
unfolding cut_of of_bits neg
angles = (refl, refl, refl, refl, refl, refl)

-- "cut toward zero": 1 and -1, 2^-60, the number below 2^-60, the smallest number; a NaN and an infinity count as the most
pub cuts : ((cut_of one64).size ≡ 2 ^ 60)
    × ((cut_of minus_one64).size ≡ 2 ^ 60)
    × ((cut_of minus_one64).negative ≡ true)
    × ((cut_of (of_bits binary64 0x3c30_0000_0000_0000)).size ≡ 1)
    × ((cut_of (of_bits binary64 0x3c2f_ffff_ffff_ffff)).size ≡ 0)
    × ((cut_of (of_bits binary64 1)).size ≡ 0)
    × ((cut_of nan).size ≡ 2 ^ 61)
    × ((cut_of (inf false)).size ≡ 2 ^ 61)
unfolding cut_of of_bits neg
cuts = (refl, refl, refl, refl, refl, refl, refl, refl)

-- "at most 2^-50" above: with cosine 1 the sine 2^-25 is at the bound; the last number that is cut to it passes, the next is past it
pub bound_above : (pair 0x3e60_0000_0000_0000 0x3ff0_0000_0000_0000 ≡ true)
    × (pair 0x3e60_0000_0001_ffff 0x3ff0_0000_0000_0000 ≡ true)
    × (pair 0x3e60_0000_0002_0000 0x3ff0_0000_0000_0000 ≡ false)
unfolding cut_of of_bits
bound_above = (refl, refl, refl)

-- .. and below: with sine 0 the last cosine that passes, and the next toward 0
pub bound_below : (pair 0 0x3fef_ffff_ffff_fffc ≡ true) × (pair 0 0x3fef_ffff_ffff_fffb ≡ false)
unfolding cut_of of_bits
bound_below = (refl, refl)

-- with sine 0.6: the first and the last cosine that pass, and their neighbours outside
pub bounds_between : (pair 0x3fe3_3333_3333_3333 0x3fe9_9999_9999_9994 ≡ false)
    × (pair 0x3fe3_3333_3333_3333 0x3fe9_9999_9999_9995 ≡ true)
    × (pair 0x3fe3_3333_3333_3333 0x3fe9_9999_9999_999e ≡ true)
    × (pair 0x3fe3_3333_3333_3333 0x3fe9_9999_9999_999f ≡ false)
unfolding cut_of of_bits
bounds_between = (refl, refl, refl, refl)

-- "must sum to at most 1": 0.5, 0.25 and 0.25; with the number above 0.25; 1, and rates below 2^-60, which are cut to 0; 1 and 2^-60
pub rates : (mix 0x3fe0_0000_0000_0000 0x3fd0_0000_0000_0000 0x3fd0_0000_0000_0000 ≡ true)
    × (mix 0x3fe0_0000_0000_0000 0x3fd0_0000_0000_0000 0x3fd0_0000_0000_0001 ≡ false)
    × (mix 0x3ff0_0000_0000_0000 0x3c2f_ffff_ffff_ffff 1 ≡ true)
    × (mix 0x3ff0_0000_0000_0000 0x3c30_0000_0000_0000 0 ≡ false)
unfolding cut_of of_bits
rates = (refl, refl, refl, refl)
