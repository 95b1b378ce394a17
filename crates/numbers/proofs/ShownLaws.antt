-- What the functions under `shown` use of the rule, and of signed numbers. Only the first section looks into `ruled`.
use mathlib.Core.Path.{◌≡◌, refl, sym, ap, ◌∙◌}
use Prim.Native.Nat.{ℕ, zero, suc, ◌+◌, ◌-◌, ◌*◌, ◌/◌, ◌%◌, ◌^◌, ◌≤◌, ◌<◌, min, compare}
use native.Mathlib.Nat.{le_trans, le_of_eq, le_of_lt, one-mul, mul_assoc, mul-le-mul, min-eq_right, min-le_right, le-div_iff_mul-le, div-eq_of_lt, mod-le, mod-eq_of_lt}
use native.Mathlib.Omega.{arith}
use mathlib.Core.Bool.{Bool, true, false}
use lib.IntN.{ℤ, pos, neg_ℤ, ◌-ℤ◌, +ℤ_idl}
use lib.Pow.{pow-add, pow_pos, pow_mono, pow-lt}
use lib.Ieee.{Float, nan, inf, fin, up, down, nearest}
use lib.Ieee.Fits.{down_pos}
use lib.Ieee.Exact.{HasValue}
use lib.Ieee.Nearest.{closest_same, nearest-ge}
use mir.Syntax.{w64}
use mir.Val.{SFits, to_z, of_z}
use mir.ValLaws.{to_z_pos, to_z-of_z}
use Rattle.numbers.specs.Tests.{is_finite}
use Rattle.numbers.specs.Shown.{ruled, most_shown, signed, shown_of}
use Rattle.numbers.proofs.TestLaws.{fails}
use Rattle.numbers.proofs.Rounded.{compare_lt, compare_eq, compare_gt}

-- ---- the rule

-- the quotient, the even one, or the next number
pub ruled_less : (a b : ℕ) → a % b * 2 < b → a / b ≡ ruled a b
unfolding ruled
ruled_less a b h = sym (ap (nearest (a / b)) (compare_lt (a % b * 2) b h))

pub ruled_half : (a b : ℕ) → a % b * 2 ≡ b → a / b + a / b % 2 ≡ ruled a b
unfolding ruled
ruled_half a b h = sym (ap (nearest (a / b)) (compare_eq (a % b * 2) b h))

pub ruled_more : (a b : ℕ) → b < a % b * 2 → suc (a / b) ≡ ruled a b
unfolding ruled
ruled_more a b h = sym (ap (nearest (a / b)) (compare_gt (a % b * 2) b h))

-- equal fractions
pub ruled_same : (a b c d : ℕ) → 0 < b → 0 < d → a * d ≡ c * b → ruled a b ≡ ruled c d
unfolding ruled
ruled_same a b c d B D e = closest_same a b c d B D e

-- a fraction that is n at least
pub ruled_ge : (a b n : ℕ) → 0 < b → n * b ≤ a → n ≤ ruled a b
unfolding ruled
ruled_ge a b n B h = le_trans ((le-div_iff_mul-le B).1 h) (nearest-ge (a / b) (compare (a % b * 2) b))

-- below a half
pub ruled_small : (n by : ℕ) → n < 2 ^ 63 → 64 ≤ by → 0 ≡ ruled n (2 ^ by)
ruled_small n by h l =
    let big : 2 ^ 64 ≤ 2 ^ by = pow_mono {i = 64} l in
    let rest : n % 2 ^ by ≤ n = mod-le n (2 ^ by) in
    sym (div-eq_of_lt (omega arith)) ∙ ruled_less n (2 ^ by) (omega arith)

-- a shift of 1 by less than 64 loses nothing
pub shifted_one : (by : ℕ) → by < 64 → 1 * 2 ^ by % 2 ^ 64 ≡ 2 ^ by
shifted_one by h = ap (λ (x : ℕ). x % 2 ^ 64) (one-mul (2 ^ by)) ∙ mod-eq_of_lt (pow-lt h)

-- ---- 1000 * digits * 2 ^ power smallest values

pub low_power : (d p : ℕ) → p < 1074 → ruled (1000 * d) (2 ^ (1074 - p)) ≡ ruled (1000 * (d * 2 ^ p)) (2 ^ 1074)
low_power d p h =
    ruled_same (1000 * d) (2 ^ (1074 - p)) (1000 * (d * 2 ^ p)) (2 ^ 1074) (pow_pos (1074 - p)) (pow_pos 1074)
    (ap (λ (x : ℕ). 1000 * d * x) (sym (ap (λ (k : ℕ). 2 ^ k) (join p h)) ∙ pow-add 2 p (1074 - p))
    ∙ sym (mul_assoc (1000 * d) (2 ^ p) (2 ^ (1074 - p))) ∙ ap (λ (x : ℕ). x * 2 ^ (1074 - p)) (mul_assoc 1000 d (2 ^ p)))
  where
    join : (p : ℕ) → p < 1074 → p + (1074 - p) ≡ 1074
    join p h = omega arith

pub high_power : (d p : ℕ) → 1074 ≤ p → 2 ^ 52 ≤ d → most_shown ≡ min (ruled (1000 * (d * 2 ^ p)) (2 ^ 1074)) most_shown
high_power d p h l = sym (min-eq_right (ruled_ge (1000 * (d * 2 ^ p)) (2 ^ 1074) most_shown (pow_pos 1074)
    (le_trans (mul-le-mul {n₁ = most_shown} {n₂ = 1000 * d} (enough d l) (pow_mono h)) (le_of_eq (mul_assoc 1000 d (2 ^ p))))))
  where
    enough : (d : ℕ) → 2 ^ 52 ≤ d → most_shown ≤ 1000 * d
    enough d l = omega arith

-- ---- the number shown

pub shown_value : (x : Float) (s : Bool) (w n : ℕ) → HasValue x s w (2 ^ 1074) → n ≡ min (ruled (1000 * w) (2 ^ 1074)) most_shown → signed s n ≡ shown_of x
unfolding shown_of
shown_value nan s w n v e = absurd v
shown_value (inf t) s w n v e = absurd v
shown_value (fin t m d) s w n v e =
    ap (λ (b : Bool). signed b n) (sym v.0)
    ∙ ap (signed t) (e ∙ ap (λ (k : ℕ). min k most_shown)
    (ruled_same (1000 * w) (2 ^ 1074) (1000 * (m * up d)) (down d) (pow_pos 1074) (down_pos d)
    (mul_assoc 1000 w (down d) ∙ ap (λ (k : ℕ). 1000 * k) (sym v.1) ∙ sym (mul_assoc 1000 (m * up d) (2 ^ 1074)))))

pub shown_none : (x : Float) → is_finite x ≡ false → pos 0 ≡ shown_of x
unfolding shown_of
shown_none nan p = refl
shown_none (inf s) p = refl
shown_none (fin s m e) p = absurd (fails p tt)

-- ---- a signed 64-bit number from a small natural one

small : (n : ℕ) → n ≤ most_shown → n < 2 ^ 63
small n h = omega arith

pub positive : (n : ℕ) → n ≤ most_shown → to_z w64 n ≡ pos n
positive n h = to_z_pos w64 n (small n h)

pub negated : (n : ℕ) → n ≤ most_shown → pos 0 -ℤ to_z w64 n ≡ neg_ℤ (pos n)
negated n h = ap (λ (z : ℤ). pos 0 -ℤ z) (positive n h) ∙ +ℤ_idl (neg_ℤ (pos n))

pub minus_fits : (n : ℕ) → n ≤ most_shown → SFits w64 (neg_ℤ (pos n))
minus_fits zero h = record { sfits = pow_pos 63 }
minus_fits (suc n) h = record { sfits = small n (le_of_lt h) }

-- ---- from the parts of a number

few : (a : ℕ) {n : ℕ} → n ≡ min a most_shown → n ≤ most_shown
few a e = le_trans (le_of_eq e) (min-le_right a most_shown)

module _ (x : Float) (s : Bool) (m e n : ℕ) (is : HasValue x s (m * 2 ^ e) (2 ^ 1074)) (held : n ≡ min (ruled (1000 * (m * 2 ^ e)) (2 ^ 1074)) most_shown) where
  pub shown_minus : s ≡ true → to_z w64 (of_z w64 (pos 0 -ℤ to_z w64 n)) ≡ shown_of x
  shown_minus t =
      ap (λ (z : ℤ). to_z w64 (of_z w64 z)) (negated n (few _ held)) ∙ to_z-of_z w64 (neg_ℤ (pos n)) (minus_fits n (few _ held))
      ∙ ap (λ (b : Bool). signed b n) (sym t) ∙ shown_value x s (m * 2 ^ e) n is held

  pub shown_plus : s ≡ false → to_z w64 n ≡ shown_of x
  shown_plus t = positive n (few _ held) ∙ ap (λ (b : Bool). signed b n) (sym t) ∙ shown_value x s (m * 2 ^ e) n is held
