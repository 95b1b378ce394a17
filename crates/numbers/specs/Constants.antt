-- The binary64 numbers that the document and the Rust write, by their bits.
use Rattle.std.specs.Prelude.{Float}
use Rattle.std.specs.Float.{binary64}
use Rattle.std.specs.Float.Ieee.{neg, of_bits}

-- +0, 1.0 and -1.0
abbrev pub zero64 : Float
zero64 = of_bits binary64 0

abbrev pub one64 : Float
one64 = of_bits binary64 0x3ff0_0000_0000_0000

abbrev pub minus_one64 : Float
minus_one64 = neg one64

-- 2.0, 3.0, 4.0, 15.0 and 16.0, of `channel_action`
abbrev pub two64 : Float
two64 = of_bits binary64 0x4000_0000_0000_0000

abbrev pub three64 : Float
three64 = of_bits binary64 0x4008_0000_0000_0000

abbrev pub four64 : Float
four64 = of_bits binary64 0x4010_0000_0000_0000

abbrev pub fifteen64 : Float
fifteen64 = of_bits binary64 0x402e_0000_0000_0000

abbrev pub sixteen64 : Float
sixteen64 = of_bits binary64 0x4030_0000_0000_0000

-- "t has sine 3fe6a09e667f3bcc and cosine 3fe6a09e667f3bcd"
abbrev pub sine_t : Float
sine_t = of_bits binary64 0x3fe6_a09e_667f_3bcc

abbrev pub cosine_t : Float
cosine_t = of_bits binary64 0x3fe6_a09e_667f_3bcd
