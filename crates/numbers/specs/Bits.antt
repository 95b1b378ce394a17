-- "A real number is the 16 lowercase hexadecimal digits of its binary64 bits." The bits of a number, and the number of 64 bits, are lib.Ieee's
-- `to_bits binary64` and `of_bits binary64`.
use Rattle.std.specs.Prelude.{ℕ, cond, Float}
use Rattle.std.specs.Float.{binary64}
use Rattle.std.specs.Float.Ieee.{to_bits}
use Rattle.numbers.specs.Tests.{is_zero}

-- "Zero prints as +0.", whose bits are all 0
abbrev pub printed_bits : Float → ℕ
printed_bits x = cond (is_zero x) 0 (to_bits binary64 x)
