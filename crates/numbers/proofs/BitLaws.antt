-- The bits of binary64: what finite value bits stand for, which bits are NaNs', and what is printed.
-- That a number and its bits give each other back is in lib.Ieee.Bits: `of_bits-to_bits`, `to_bits-of_bits`, `to_bits-lt`, `of_bits-fits`.
use mathlib.Core.Path.{◌≡◌, refl, sym, ◌∙◌, subst}
use Prim.Native.Nat.{ℕ, suc, ◌+◌, ◌-◌, ◌*◌, ◌/◌, ◌%◌, ◌^◌, ◌≤◌, ◌<◌}
use native.Mathlib.Nat.{lt_of_not-le, lt_irrefl}
use native.Mathlib.Omega.{arith}
use mathlib.Core.Bool.{Bool, true, false, not, cond}
use lib.Dec.{T, leb, eqb, eqb→eq, lt→ltb, not_T}
use lib.Arith.{le→nltb}
use lib.IntN.{pos}
use lib.Ieee.{Float, nan, inf, fin, binary64, odd, fits, of_fields, of_bits, to_bits, is_nan, nan_bits}
use lib.Ieee.Bits.{cond_no, of_bits-to_bits, nan_bits_is, nan_bits_above}
use lib.Ieee.Exact.{HasValue, odd_sign}
use Rattle.numbers.specs.Constants.{zero64}
use Rattle.numbers.specs.Tests.{is_finite, is_zero}
use Rattle.numbers.specs.Bits.{printed_bits}
use Rattle.numbers.specs.Close.{◌≈◌, zeros}
use Rattle.numbers.proofs.CloseLaws.{≈_of, ≈_sym, ≈_trans}
use Rattle.numbers.proofs.TestLaws.{holds, equal_zero}

of_bits_is : (b : ℕ) → of_bits binary64 b ≡ of_fields binary64 (leb (2 ^ 63) b) (b % 2 ^ 63 / 2 ^ 52) (b % 2 ^ 52)
unfolding of_bits
of_bits_is b = refl

differ : (x y : ℕ) → x < y → T (not (eqb x y))
differ x y h = not_T (eqb x y) (λ (u : T (eqb x y)). lt_irrefl y (subst (λ (z : ℕ). z < y) (eqb→eq x y u) h))

at_zero : (s : Bool) (t : ℕ) → of_fields binary64 s 0 t ≡ odd 53 s t 0 1074
unfolding of_fields
at_zero s t = refl

under_ones : (s : Bool) (t k : ℕ) → suc k < 2047 → of_fields binary64 s (suc k) t ≡ odd 53 s (2 ^ 52 + t) k 1074
unfolding of_fields
under_ones s t k h = cond_no (eqb (suc k) 2047) (cond (eqb t 0) (inf s) nan) (odd 53 s (2 ^ 52 + t) k 1074) (differ (suc k) 2047 h)

-- ---- a finite value from its bits

no_finite : (b s : Bool) → is_finite (cond b (inf s) nan) ≡ true → ⊥
no_finite true s q = holds q
no_finite false s q = holds q

at_ones : (s : Bool) (t : ℕ) → is_finite (of_fields binary64 s 2047 t) ≡ true → ⊥
unfolding of_fields
at_ones s t q = no_finite (eqb t 0) s q

finite_under : (s : Bool) (F t : ℕ) → F < 2048 → is_finite (of_fields binary64 s F t) ≡ true → F < 2047
finite_under s F t h p = lt_of_not-le (λ (g : 2047 ≤ F). at_ones s t (subst (λ (y : ℕ). is_finite (of_fields binary64 s y t) ≡ true) (last F h g) p))
  where
    last : (F : ℕ) → F < 2048 → 2047 ≤ F → F ≡ 2047
    last F h g = omega arith

module _ (x : Float) (held : T (fits binary64 x)) (finite : is_finite x ≡ true) where
  abbrev b : ℕ
  b = to_bits binary64 x

  is : x ≡ of_fields binary64 (leb (2 ^ 63) b) (b % 2 ^ 63 / 2 ^ 52) (b % 2 ^ 52)
  is = sym (of_bits-to_bits binary64 x held) ∙ of_bits_is b

  pub field_lt : b % 2 ^ 63 / 2 ^ 52 < 2047
  field_lt = finite_under (leb (2 ^ 63) b) (b % 2 ^ 63 / 2 ^ 52) (b % 2 ^ 52) (in_range b) (subst (λ (v : Float). is_finite v ≡ true) is finite)
    where
      in_range : (b : ℕ) → b % 2 ^ 63 / 2 ^ 52 < 2048
      in_range b = omega arith

  from_digits : (n k : ℕ) → of_fields binary64 (leb (2 ^ 63) b) (b % 2 ^ 63 / 2 ^ 52) (b % 2 ^ 52) ≡ odd 53 (leb (2 ^ 63) b) n k 1074
      → HasValue x (leb (2 ^ 63) b) (n * 2 ^ k) (2 ^ 1074)
  from_digits n k e = subst (λ (v : Float). HasValue v (leb (2 ^ 63) b) (n * 2 ^ k) (2 ^ 1074)) (sym (is ∙ e)) (odd_sign 53 (leb (2 ^ 63) b) n k 1074)

  pub low_value : b % 2 ^ 63 / 2 ^ 52 ≡ 0 → HasValue x (leb (2 ^ 63) b) (b % 2 ^ 52 * 2 ^ 0) (2 ^ 1074)
  low_value e = from_digits (b % 2 ^ 52) 0 (rw e (at_zero (leb (2 ^ 63) b) (b % 2 ^ 52)))

  by_field : (k : ℕ) → b % 2 ^ 63 / 2 ^ 52 ≡ suc k → HasValue x (leb (2 ^ 63) b) ((2 ^ 52 + b % 2 ^ 52) * 2 ^ k) (2 ^ 1074)
  by_field k e = from_digits (2 ^ 52 + b % 2 ^ 52) k (rw e (under_ones (leb (2 ^ 63) b) (b % 2 ^ 52) k (rw e at field_lt)))

  pub normal_value : (b % 2 ^ 63 / 2 ^ 52 ≡ 0 → ⊥) → HasValue x (leb (2 ^ 63) b) ((2 ^ 52 + b % 2 ^ 52) * 2 ^ (b % 2 ^ 63 / 2 ^ 52 - 1)) (2 ^ 1074)
  normal_value n = by_field (b % 2 ^ 63 / 2 ^ 52 - 1) (pred (b % 2 ^ 63 / 2 ^ 52) n)
    where
      pred : (f : ℕ) → (f ≡ 0 → ⊥) → f ≡ suc (f - 1)
      pred f h = omega arith

-- ---- NaNs, by a test of the number and by a test of the bits

pub nan_bits_of : (x : Float) → is_nan x ≡ true → 0x7ff8_0000_0000_0000 ≡ to_bits binary64 x
unfolding is_nan to_bits
nan_bits_of nan p = refl
nan_bits_of (inf s) p = absurd (holds p)
nan_bits_of (fin s m e) p = absurd (holds p)

is_nan_lem : (x : Float) → T (is_nan x) → x ≡ nan
unfolding is_nan
is_nan_lem nan t = refl
is_nan_lem (inf s) t = absurd t
is_nan_lem (fin s m e) t = absurd t

-- 7ff0000000000000 is the infinity's
pub nan_bits_lem : (b : ℕ) → 0x7ff0_0000_0000_0000 < b % 2 ^ 63 → of_bits binary64 b ≡ nan
nan_bits_lem b h = is_nan_lem (of_bits binary64 b) (subst T (sym (nan_bits_above binary64 b) ∙ nan_bits_is binary64 b) (lt→ltb 0x7ff0_0000_0000_0000 (b % 2 ^ 63) h))

pub nan_same : (b : ℕ) → 0x7ff0_0000_0000_0000 < b % 2 ^ 63 → of_bits binary64 0x7ff8_0000_0000_0000 ≡ of_bits binary64 b
unfolding of_bits
nan_same b h = sym (nan_bits_lem b h)

pub number_bits : (b : ℕ) → b % 2 ^ 63 ≤ 0x7ff0_0000_0000_0000 → T (not (nan_bits binary64 b))
number_bits b h = subst (λ (t : Bool). T (not t)) (sym (nan_bits_above binary64 b)) (le→nltb 0x7ff0_0000_0000_0000 (b % 2 ^ 63) h)

-- ---- what is printed

pub printed_back : (x : Float) → T (fits binary64 x) → of_bits binary64 (printed_bits x) ≈ x
printed_back x f = go (is_zero x) refl
  where
    zero_back : {x : Float} → (s : Bool) × (x ≡ fin s 0 (pos 0)) → zero64 ≈ x
    zero_back z = unfold of_bits in ≈_trans (zeros false z.0) (≈_sym (≈_of z.1))

    go : (b : Bool) → is_zero x ≡ b → of_bits binary64 (cond b 0 (to_bits binary64 x)) ≈ x
    go true e = zero_back (equal_zero x f e)
    go false e = ≈_of (of_bits-to_bits binary64 x f)
