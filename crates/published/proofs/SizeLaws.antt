-- The size of a coefficient with one part zero is exact: its square is the sum of the parts' squares, and it is the other part's absolute value. Assumes nothing.
use Prim.Native.Nat.{ℕ, ◌+◌, ◌*◌, ◌^◌}
use mathlib.Core.Path.{◌≡◌, refl, sym, ◌∙◌}
use mathlib.Core.Bool.{Bool, true, false, cond, ◌||◌, beq, or-true}
use mathlib.Core.Logic.{◌⊎◌, inl, inr}
use native.Mathlib.Nat.{zero-add, add-zero, zero-mul, zero-div}
use lib.Dec.{T, eqb}
use lib.IntN.{ℤ, pos}
use lib.Ieee.{Float, nan, inf, fin, binary64, up, down, eq, fits, of_bits}
use borrow.Author.Tests.{eqb-true}
use Rattle.numbers.specs.Constants.{zero64}
use Rattle.numbers.specs.Tests.{is_finite, is_zero, abs_of}
use Rattle.numbers.specs.Root.{square, units_of}
use Rattle.numbers.specs.Close.{◌≈◌, same, zeros}
use Rattle.numbers.proofs.ValueLaws.{vanishes}
use Rattle.numbers.proofs.CloseLaws.{eq_self, ≈_of_eq}
use Rattle.numbers.proofs.TestLaws.{holds}
use Rattle.published.specs.declared.Complex64.{Complex64}
use Rattle.published.specs.Complex.{size_of}
use Rattle.published.specs.Term.{Term}
use Rattle.words.specs.Letters.{ys_of, is_odd}
use Rattle.published.specs.Parity.{part_of, Parted}
use Rattle.terms.proofs.CaseLaws.{and_true}
use Rattle.published.proofs.ComplexLaws.{zero_passes}

-- ---- squares

zero_digits : (s : Bool) (m : ℕ) (e : ℤ) → is_zero (fin s m e) ≡ true → m ≡ 0
unfolding eq of_bits
zero_digits s m e h =
    let a = m * up e * 1 in
    let b = 0 * 1 * down e in
    vanishes m e (pos 0) (eqb-true a b (and_true (eqb a b) (beq s false || eqb a 0) h).0 ∙ zero-mul (down e))

zero_units : (x : Float) → is_zero x ≡ true → units_of x ≡ 0
zero_units nan h = refl
zero_units (inf s) h = refl
zero_units (fin s m e) h = rw (zero_digits s m e h, zero-mul (up e), zero-mul (2 ^ 1074)) (zero-div (down e))

abs_units : (x : Float) → units_of (abs_of x) ≡ units_of x
abs_units nan = refl
abs_units (inf s) = refl
abs_units (fin s m e) = refl

-- in units of the smallest value, for finite parts
pub size_squared : (c : Complex64) → (is_zero c.re || is_zero c.im) ≡ true → square (units_of (size_of c)) ≡ square (units_of c.re) + square (units_of c.im)
unfolding size_of
size_squared c h = go (is_zero c.re) refl h
  where
    go : (b : Bool) → is_zero c.re ≡ b → (b || is_zero c.im) ≡ true
        → square (units_of (cond b (abs_of c.im) (abs_of c.re))) ≡ square (units_of c.re) + square (units_of c.im)
    go true e h = rw (abs_units c.im, zero_units c.re e) (sym (zero-add _))
    go false e h = rw (abs_units c.re, zero_units c.im h) (sym (add-zero _))

-- ---- the part

abs_zero : {x : Float} → x ≈ zero64 → abs_of x ≡ zero64
unfolding of_bits
abs_zero p = go p
  where
    go : {x : Float} → x ≈ fin false 0 (pos 0) → abs_of x ≡ fin false 0 (pos 0)
    go same = refl
    go (zeros s t) = refl

abs_finite : (x : Float) → is_finite x ≡ true → T (is_finite (abs_of x))
abs_finite nan h = holds h
abs_finite (inf s) h = holds h
abs_finite (fin s m e) h = tt

zero_abs : (x : Float) → is_zero x ≡ true → eq zero64 (abs_of x) ≡ true
unfolding eq of_bits
zero_abs nan h = h
zero_abs (inf s) h = h
zero_abs (fin s m e) h = rw (zero_digits s m e h, zero-mul (up e), zero-mul (down e))

-- the absolute value of a part, or +0 for a part that is a zero
abbrev Sized : Float → Float → Type 0
Sized r x = (r ≡ abs_of x) ⊎ ((r ≡ zero64) × (is_zero x ≡ true))

module _ (w : ℕ) (t : Term) (p : Parted w t) where
  pub parted_squared : square (units_of (size_of t.coeff)) ≡ square (units_of t.coeff.re) + square (units_of t.coeff.im)
  parted_squared = size_squared t.coeff (go (is_odd (ys_of w t.key)) p)
    where
      go : (b : Bool) → cond b t.coeff.re t.coeff.im ≈ zero64 → (is_zero t.coeff.re || is_zero t.coeff.im) ≡ true
      go true p = rw (zero_passes p)
      go false p = rw (zero_passes p) (or-true (is_zero t.coeff.re))

  cases : Sized (size_of t.coeff) (part_of w t)
  unfolding size_of
  cases = by_parity (is_odd (ys_of w t.key)) p
    where
      by_real : (b : Bool) → is_zero t.coeff.re ≡ b → t.coeff.im ≈ zero64 → Sized (cond b (abs_of t.coeff.im) (abs_of t.coeff.re)) t.coeff.re
      by_real true e p = inr (abs_zero p, e)
      by_real false e p = inl refl

      by_parity : (b : Bool) → cond b t.coeff.re t.coeff.im ≈ zero64 → Sized (size_of t.coeff) (cond b t.coeff.im t.coeff.re)
      by_parity true p = inl (rw (zero_passes p))
      by_parity false p = by_real (is_zero t.coeff.re) refl p

  -- exactly, for a part that binary64 holds
  pub parted_size : T (fits binary64 (part_of w t)) → size_of t.coeff ≡ abs_of (part_of w t)
  parted_size f = elim cases [
    | inl e ↦ e
    | inr z ↦ z.0 ∙ sym (abs_zero (≈_of_eq binary64 (part_of w t) zero64 f (unfold fits of_bits in tt) z.1))
  ]

  -- as numbers, for every finite part
  pub parted_size_equal : is_finite (part_of w t) ≡ true → eq (size_of t.coeff) (abs_of (part_of w t)) ≡ true
  parted_size_equal f = elim cases [
    | inl e ↦ rw e (eq_self (abs_of (part_of w t)) (abs_finite (part_of w t) f))
    | inr z ↦ rw z.0 (zero_abs (part_of w t) z.1)
  ]
