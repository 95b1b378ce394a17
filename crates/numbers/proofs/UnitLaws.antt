-- 1 and -1: their bits, that a product with one of them is exact, and that neither is 0. Assumes nothing.
use Prim.Native.Nat.{ℕ, zero, suc, ◌+◌, ◌*◌, ◌%◌, ◌^◌, ◌≤◌, ◌<◌}
use mathlib.Core.Path.{◌≡◌, refl, ap, ap₂, ◌∙◌}
use mathlib.Core.Bool.{Bool, true, false, not, cond}
use native.Mathlib.Nat.{mul-one, mod-lt}
use native.Mathlib.Omega.{arith}
use lib.Dec.{T, eqb}
use lib.Pow.{pow_pos}
use lib.Ieee.{Float, nan, inf, fin, binary64, up, down, round, neg, mul, eq, fits, of_bits, nan_bits}
use Rattle.numbers.specs.Constants.{one64, minus_one64}
use Rattle.numbers.specs.Tests.{is_zero}
use Rattle.numbers.proofs.BitLaws.{number_bits}
use Rattle.numbers.proofs.ValueLaws.{round_own}
use Rattle.numbers.proofs.SignLaws.{mul_neg}

pub times_one : (x : Float) → T (fits binary64 x) → mul binary64 x one64 ≡ x
unfolding mul of_bits
times_one nan h = refl
times_one (inf true) h = refl
times_one (inf false) h = refl
times_one (fin true m e) h = ap₂ (round binary64 true) (mul-one (m * up e)) (mul-one (down e)) ∙ round_own binary64 true m e h
times_one (fin false m e) h = ap₂ (round binary64 false) (mul-one (m * up e)) (mul-one (down e)) ∙ round_own binary64 false m e h

pub times_minus_one : (x : Float) → T (fits binary64 x) → mul binary64 x minus_one64 ≡ neg x
times_minus_one x h = mul_neg binary64 x one64 ∙ ap neg (times_one x h)

pub one_not_zero : is_zero one64 ≡ false
unfolding eq of_bits
one_not_zero = refl

pub minus_not_zero : is_zero minus_one64 ≡ false
unfolding eq neg of_bits
minus_not_zero = refl

-- 1 with the sign bit set or not: the bits of 1 or of -1
pub unit_bits : (n : ℕ) → of_bits binary64 (0x3ff0_0000_0000_0000 + 0x8000_0000_0000_0000 * (n % 2)) ≡ cond (eqb (n % 2) 1) minus_one64 one64
unfolding of_bits neg
unit_bits n = go (n % 2) (mod-lt n (pow_pos 1))
  where
    go : (r : ℕ) → r < 2 → of_bits binary64 (0x3ff0_0000_0000_0000 + 0x8000_0000_0000_0000 * r) ≡ cond (eqb r 1) minus_one64 one64
    go zero h = refl
    go (suc zero) h = refl
    go (suc (suc r)) h = absurd (omega arith)

pub unit_no_nan : (n : ℕ) → T (not (nan_bits binary64 (0x3ff0_0000_0000_0000 + 0x8000_0000_0000_0000 * (n % 2))))
unit_no_nan n = number_bits _ (small n)
  where
    small : (n : ℕ) → (0x3ff0_0000_0000_0000 + 0x8000_0000_0000_0000 * (n % 2)) % 2 ^ 63 ≤ 0x7ff0_0000_0000_0000
    small n = omega arith

-- a product with that: the number kept or negated
pub times_unit : (x : Float) → T (fits binary64 x) → (b : Bool) → mul binary64 x (cond b minus_one64 one64) ≡ cond b (neg x) x
times_unit x h true = times_minus_one x h
times_unit x h false = times_one x h
