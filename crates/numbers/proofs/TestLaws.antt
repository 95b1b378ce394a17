-- Laws of the tests and the absolute value: what each test says of a number, and what the code's comparisons with zero say.
use mathlib.Core.Path.{◌≡◌, refl, sym, subst}
use Prim.Native.Nat.{ℕ, ◌*◌}
use native.Mathlib.Nat.{zero-mul}
use native.Mathlib.Omega.{arith}
use mathlib.Core.Bool.{Bool, true, false, not, ◌&&◌, beq, or-true}
use lib.IntN.{ℤ, pos}
use lib.Dec.{T}
use lib.Ieee.{Float, nan, inf, fin, binary64, up, down, lt, eq, le, neg, fits, is_nan, of_bits}
use lib.Ieee.Exact.{HasValue}
use borrow.Author.Tests.{ltb-true}
use Rattle.std.specs.Float.{float_with_sign}
use Rattle.std.specs.Ordering.{is_le, is_some_and, partial_le, float_partial_cmp}
use Rattle.std.proofs.Common.{Some, None, ◌||◌, cond, Less, Equal, Greater}
use Rattle.numbers.specs.Constants.{zero64}
use Rattle.numbers.specs.Tests.{is_finite, abs_of, is_epsilon, in_sine, in_unit}
use Rattle.numbers.specs.Close.{◌≈◌, same, zeros}
use Rattle.numbers.proofs.CloseLaws.{≈_of_eq}

-- a test that came out true or false, as what a law takes
pub holds : {b : Bool} → b ≡ true → T b
holds p = subst T (sym p) tt

pub fails : {b : Bool} → b ≡ false → T b → ⊥
fails p t = subst T p t

-- ---- in a range, as `contains` answers it

pub le_of_cmp : (x y : Float) → partial_le float_partial_cmp x y ≡ le x y
unfolding le
le_of_cmp x y = go (lt x y) (eq x y) (lt y x)
  where
    go : (a b c : Bool) → is_some_and is_le (cond a (Some Less) (cond b (Some Equal) (cond c (Some Greater) None))) ≡ (a || b)
    go true b c = refl
    go false true c = refl
    go false false true = refl
    go false false false = refl

-- ---- finite

pub finite_of_value : (x : Float) (s : Bool) (a c : ℕ) → HasValue x s a c → is_finite x ≡ true
finite_of_value nan s a c v = absurd v
finite_of_value (inf t) s a c v = absurd v
finite_of_value (fin t m e) s a c v = refl

pub finite_no_nan : (x : Float) → is_finite x ≡ true → T (not (is_nan x))
unfolding is_nan
finite_no_nan nan p = absurd (holds p)
finite_no_nan (inf s) p = tt
finite_no_nan (fin s m e) p = tt

-- against the two infinities, as the code has them by their bits
pub above_minus : (x : Float) → lt (of_bits binary64 0xfff0_0000_0000_0000) x ≡ true → lt x (of_bits binary64 0x7ff0_0000_0000_0000) ≡ is_finite x
unfolding lt of_bits
above_minus nan p = absurd (holds p)
above_minus (inf true) p = absurd (holds p)
above_minus (inf false) p = refl
above_minus (fin s m e) p = refl

pub not_above_minus : (x : Float) → lt (of_bits binary64 0xfff0_0000_0000_0000) x ≡ false → lt (of_bits binary64 0xfff0_0000_0000_0000) x ≡ is_finite x
unfolding lt of_bits
not_above_minus nan p = refl
not_above_minus (inf true) p = refl
not_above_minus (inf false) p = absurd (fails p tt)
not_above_minus (fin s m e) p = absurd (fails p tt)

pub sign_cleared : (x : Float) → float_with_sign false x ≡ abs_of x
unfolding float_with_sign
sign_cleared nan = refl
sign_cleared (inf s) = refl
sign_cleared (fin s m e) = refl

-- from one finite number to another
bounded : (s t : Bool) (m n : ℕ) (e d : ℤ) (x : Float) → (le (fin s m e) x && le x (fin t n d)) ≡ true → is_finite x ≡ true
unfolding le lt eq
bounded s t m n e d nan p = absurd (holds p)
bounded s t m n e d (inf true) p = absurd (holds p)
bounded s t m n e d (inf false) p = absurd (holds p)
bounded s t m n e d (fin u l k) p = refl

pub in_unit_finite : (x : Float) → in_unit x ≡ true → is_finite x ≡ true
unfolding of_bits
in_unit_finite x p = bounded _ _ _ _ _ _ x p

pub in_sine_finite : (x : Float) → in_sine x ≡ true → is_finite x ≡ true
unfolding neg of_bits
in_sine_finite x p = bounded _ _ _ _ _ _ x p

pub is_epsilon_finite : (x : Float) → is_epsilon x ≡ true → is_finite x ≡ true
is_epsilon_finite nan p = absurd (holds p)
is_epsilon_finite (inf s) p = absurd (holds p)
is_epsilon_finite (fin s m e) p = refl

-- ---- against zero

pub equal_zero : (x : Float) → T (fits binary64 x) → eq x zero64 ≡ true → (s : Bool) × (x ≡ fin s 0 (pos 0))
unfolding of_bits
equal_zero x f p = go (≈_of_eq binary64 x zero64 f (unfold fits in tt) p)
  where
    go : {x : Float} → x ≈ fin false 0 (pos 0) → (s : Bool) × (x ≡ fin s 0 (pos 0))
    go same = (false, refl)
    go (zeros s t) = (s, refl)

-- no digits are a zero, whatever the sign and the power
pub zero_equal : (s : Bool) (e : ℤ) → eq (fin s 0 e) zero64 ≡ true
unfolding eq of_bits
zero_equal s e = rw (zero-mul (up e), zero-mul (down e)) (or-true (beq s false))

pub zero_not_above : (s : Bool) (e : ℤ) → lt zero64 (fin s 0 e) ≡ true → ⊥
unfolding lt of_bits
zero_not_above true e p = holds p
zero_not_above false e p = omega (arith, ltb-true (0 * 1 * down e) (0 * up e * 1) p)
