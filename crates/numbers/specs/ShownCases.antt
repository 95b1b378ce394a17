-- Worked values of the number shown, each by computing the definition. Numbers are written by their bits; a decimal in a comment stands for the binary64
-- nearest to it.
use Rattle.std.specs.Prelude.{ℕ, ◌≡◌, refl, true, ℤ, pos, negsuc}
use Rattle.std.specs.Float.{nan, inf, binary64}
use Rattle.std.specs.Float.Ieee.{of_bits}
use Rattle.numbers.specs.Shown.{shown_of}

abbrev shown_at : ℕ → ℤ
shown_at b = shown_of (of_bits binary64 b)

-- "A mean of 0.0625 shows 62, of 0.1875 shows 188, and the negatives mirror them."
pub shown_halves : (shown_at 0x3fb0_0000_0000_0000 ≡ pos 62)
    × (shown_at 0x3fc8_0000_0000_0000 ≡ pos 188)
    × (shown_at 0xbfb0_0000_0000_0000 ≡ negsuc 61)
    × (shown_at 0xbfc8_0000_0000_0000 ≡ negsuc 187)
unfolding shown_of of_bits
shown_halves = (refl, refl, refl, refl)

-- 1000 times an odd number of sixteenths is an exact half, and no other mean has one. 312.5, 437.5, 562.5, 62,562.5 and 999,999,937.5: to the even one,
-- down or up
pub shown_sixteenths : (shown_at 0x3fd4_0000_0000_0000 ≡ pos 312)
    × (shown_at 0x3fdc_0000_0000_0000 ≡ pos 438)
    × (shown_at 0x3fe2_0000_0000_0000 ≡ pos 562)
    × (shown_at 0x404f_4800_0000_0000 ≡ pos 62562)
    × (shown_at 0x412e_847f_e000_0000 ≡ pos 999999938)
    × (shown_at 0xbfd4_0000_0000_0000 ≡ negsuc 311)
    × (shown_at 0xbfdc_0000_0000_0000 ≡ negsuc 437)
unfolding shown_of of_bits
shown_sixteenths = (refl, refl, refl, refl, refl, refl, refl)

-- the numbers next to 0.0625 and 0.1875, below and above
pub shown_beside : (shown_at 0x3faf_ffff_ffff_ffff ≡ pos 62)
    × (shown_at 0x3fb0_0000_0000_0001 ≡ pos 63)
    × (shown_at 0x3fc7_ffff_ffff_ffff ≡ pos 187)
    × (shown_at 0x3fc8_0000_0000_0001 ≡ pos 188)
    × (shown_at 0xbfb0_0000_0000_0001 ≡ negsuc 62)
    × (shown_at 0xbfc7_ffff_ffff_ffff ≡ negsuc 186)
unfolding shown_of of_bits
shown_beside = (refl, refl, refl, refl, refl, refl)

-- "The half is judged on the exact product, never on a rounded one." The binary64 of 0.0005, 0.0015 and 0.0025 lie above these
-- decimals, those of 0.0045 and 0.0055 below. Times 1000 and rounded to binary64 they are 0.5, 1.5, 2.5, 4.5 and 5.5, whose even neighbours are 0, 2,
-- 2, 4 and 6.
pub shown_exact : (shown_at 0x3f40_624d_d2f1_a9fc ≡ pos 1)
    × (shown_at 0x3f58_9374_bc6a_7efa ≡ pos 2)
    × (shown_at 0x3f64_7ae1_47ae_147b ≡ pos 3)
    × (shown_at 0x3f72_6e97_8d4f_df3b ≡ pos 4)
    × (shown_at 0x3f76_872b_020c_49ba ≡ pos 5)
unfolding shown_of of_bits
shown_exact = (refl, refl, refl, refl, refl)

-- "Case A stays 707." -0.0009 shows -1
pub shown_means : (shown_at 0x3fe6_a09e_667f_3bcd ≡ pos 707) × (shown_at 0xbf4d_7dbf_487f_cb92 ≡ negsuc 0)
unfolding shown_of of_bits
shown_means = (refl, refl)

-- "The clamp is applied after rounding." The two binary64 around 999,999.9985, the two around 999,999.9995, and 1,000,000, with either sign. The last two
-- of each sign are 1,000,000,000 before the clamp.
pub shown_held : (shown_at 0x412e_847f_ff3b_645a ≡ pos 999999998)
    × (shown_at 0x412e_847f_ff3b_645b ≡ pos 999999999)
    × (shown_at 0x412e_847f_ffbe_76c8 ≡ pos 999999999)
    × (shown_at 0x412e_847f_ffbe_76c9 ≡ pos 999999999)
    × (shown_at 0x412e_8480_0000_0000 ≡ pos 999999999)
    × (shown_at 0xc12e_847f_ff3b_645a ≡ negsuc 999999997)
    × (shown_at 0xc12e_847f_ff3b_645b ≡ negsuc 999999998)
    × (shown_at 0xc12e_847f_ffbe_76c8 ≡ negsuc 999999998)
    × (shown_at 0xc12e_847f_ffbe_76c9 ≡ negsuc 999999998)
    × (shown_at 0xc12e_8480_0000_0000 ≡ negsuc 999999998)
unfolding shown_of of_bits
shown_held = (refl, refl, refl, refl, refl, refl, refl, refl, refl, refl)

-- the two binary64 around 999,999.999, whose exact products lie below and above 999,999,999, with either sign
pub shown_most : (shown_at 0x412e_847f_ff7c_ed91 ≡ pos 999999999)
    × (shown_at 0x412e_847f_ff7c_ed92 ≡ pos 999999999)
    × (shown_at 0xc12e_847f_ff7c_ed91 ≡ negsuc 999999998)
    × (shown_at 0xc12e_847f_ff7c_ed92 ≡ negsuc 999999998)
unfolding shown_of of_bits
shown_most = (refl, refl, refl, refl)

-- the smallest value, the largest with either sign, either zero; a NaN and -∞ show 0
pub shown_ends : (shown_at 1 ≡ pos 0)
    × (shown_at 0x7fef_ffff_ffff_ffff ≡ pos 999999999)
    × (shown_at 0xffef_ffff_ffff_ffff ≡ negsuc 999999998)
    × (shown_at 0 ≡ pos 0)
    × (shown_at 0x8000_0000_0000_0000 ≡ pos 0)
    × (shown_of nan ≡ pos 0)
    × (shown_of (inf true) ≡ pos 0)
unfolding shown_of of_bits
shown_ends = (refl, refl, refl, refl, refl, refl, refl)
