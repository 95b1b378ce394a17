-- What `compare` gives, powers of 2 and 4, and the nearest root by its definition.
use mathlib.Core.Path.{◌≡◌, refl, sym, ap, ◌∙◌}
use Prim.Native.Nat.compare
use Prim.Native.Nat.{ℕ, zero, suc, ◌+◌, ◌-◌, ◌*◌, ◌/◌, ◌^◌, ◌<◌, compare, Ordering}
use native.Mathlib.Nat.{pow-suc, le_of_suc-le-suc, not-suc-le-zero, lt_irrefl, mul_assoc, mul-mul-mul_comm}
use native.Mathlib.Omega.{arith}
use mathlib.Core.Bool.{false}
use lib.Pow.{pow-add}
use lib.Ieee.{binary64, size, nearest, units}
use Rattle.numbers.specs.Root.{square, whole_root, nearest_root}

-- ---- which of the three `compare` gives

pub compare_lt : (a b : ℕ) → a < b → compare a b ≡ Ordering.lt
compare_lt zero zero h = absurd (lt_irrefl 0 h)
compare_lt zero (suc b) h = compare.zero-suc b
compare_lt (suc a) zero h = absurd (not-suc-le-zero h)
compare_lt (suc a) (suc b) h = compare.suc-suc a b ∙ compare_lt a b (le_of_suc-le-suc h)

pub compare_gt : (a b : ℕ) → b < a → compare a b ≡ Ordering.gt
compare_gt zero zero h = absurd (lt_irrefl 0 h)
compare_gt zero (suc b) h = absurd (not-suc-le-zero h)
compare_gt (suc a) zero h = compare.suc-zero a
compare_gt (suc a) (suc b) h = compare.suc-suc a b ∙ compare_gt a b (le_of_suc-le-suc h)

pub compare_eq : (a b : ℕ) → a ≡ b → compare a b ≡ Ordering.eq
compare_eq a b e = ap (compare a) (sym e) ∙ itself a
  where
    itself : (n : ℕ) → compare n n ≡ Ordering.eq
    itself zero = refl
    itself (suc n) = compare.suc-suc n n ∙ itself n

-- ---- powers

pub joined : (m i j k : ℕ) → i + j ≡ k → m * 2 ^ i * 2 ^ j ≡ m * 2 ^ k
joined m i j k e = mul_assoc m (2 ^ i) (2 ^ j) ∙ ap (λ (x : ℕ). m * x) (sym (pow-add 2 i j) ∙ ap (λ (x : ℕ). 2 ^ x) e)

four_pow : (k : ℕ) → 4 ^ k ≡ 2 ^ k * 2 ^ k
four_pow zero = refl
four_pow (suc k) = simp (pow-suc, four_pow k) (regroup (2 ^ k))
  where
    regroup : (p : ℕ) → p * p * 4 ≡ p * 2 * (p * 2)
    regroup p = omega arith

pub four_is : (k : ℕ) → 4 ^ k ≡ 2 ^ (k + k)
four_is k = four_pow k ∙ sym (pow-add 2 k k)

pub square_shift : (q k : ℕ) → q * 2 ^ k * (q * 2 ^ k) ≡ q * q * 4 ^ k
square_shift q k = mul-mul-mul_comm q (2 ^ k) q (2 ^ k) ∙ ap (λ (x : ℕ). q * q * x) (sym (four_pow k))

-- ---- the definition, opened

pub nearest_root_is : (n : ℕ) → let r = whole_root n in let k = size r - 53 in let q = r / 2 ^ k in nearest_root n ≡ units binary64 false (nearest q (compare (4 * n) (square ((2 * q + 1) * 2 ^ k)))) k
unfolding nearest_root
nearest_root_is n = refl
