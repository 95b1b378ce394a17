-- The theorems of request 2026-03, stated in specs/Fair.antt: `fair_rounding` and `mirrored`. Under them: the rule gives the integer nearest to a
-- fraction, the even one where two are equally near (`ruled_nearest`), and no other integer is that (`ruled_only`).
use mathlib.Core.Path.{◌≡◌, refl, sym, ap, ◌∙◌, subst}
use mathlib.Core.Logic.{◌⊎◌, inl, inr}
use Prim.Native.Nat.{ℕ, zero, suc, ◌+◌, ◌-◌, ◌*◌, ◌/◌, ◌%◌, ◌≤◌, ◌<◌, min}
use native.Mathlib.Nat.{le_trans, le_of_eq, le_of_lt, le_antisymm, lt_irrefl, lt_of_lt_of_le, suc-mul, mul-le-mul_right, div-add-mod', mod-lt}
use native.Mathlib.Omega.{arith}
use mathlib.Core.Bool.{Bool, true, false}
use lib.IntN.{ℤ, pos, negsuc, nat_abs, neg_ℤ-neg_ℤ}
use lib.Dec.{ltb, eqb}
use lib.Ieee.{nan, inf, fin, up, down, neg}
use lib.Ieee.Fits.{down_pos}
use borrow.Author.Tests.{ltb-true, ltb-false, eqb-true, eqb-false}
use Rattle.numbers.specs.Shown.{ruled, most_shown, signed, shown_of}
use Rattle.numbers.specs.Fair.{gap, NearestEven, held, FairRounding, Mirrored}
use Rattle.numbers.proofs.TestLaws.{holds}
use Rattle.numbers.proofs.ShownLaws.{ruled_less, ruled_half, ruled_more}

-- ---- a fraction a / b = q + r / b: only q and q + 1 are nearer than 1

module _ (a b q r : ℕ) (is : q * b + r ≡ a) (rest : r < b) where
  at_whole : gap a b (pos q) ≡ r
  at_whole = omega arith

  at_next : gap a b (pos (suc q)) ≡ b - r
  at_next = let s : suc q * b ≡ q * b + b = suc-mul q b in omega arith

  data Lies : ℤ → Type 0 where
    whole : Lies (pos q)
    next : Lies (pos (suc q))
    far : {k : ℤ} → b ≤ gap a b k → Lies k

  below : (n : ℕ) → n < q → b ≤ gap a b (pos n)
  below n h =
      let s : suc n * b ≤ q * b = mul-le-mul_right b h in
      let t : suc n * b ≡ n * b + b = suc-mul n b in
      omega arith

  above : (n : ℕ) → suc q < n → b ≤ gap a b (pos n)
  above n h =
      let s : suc (suc q) * b ≤ n * b = mul-le-mul_right b h in
      let t : suc (suc q) * b ≡ suc q * b + b = suc-mul (suc q) b in
      let u : suc q * b ≡ q * b + b = suc-mul q b in
      omega arith

  lies : (k : ℤ) → Lies k
  lies (negsuc n) = let s : suc n * b ≡ n * b + b = suc-mul n b in far {k = negsuc n} (omega arith)
  lies (pos n) = go (ltb n q) (ltb (suc q) n) (eqb n q) refl refl refl
    where
      one_up : (n q : ℕ) → q ≤ n → n ≤ suc q → (n ≡ q → ⊥) → suc q ≡ n
      one_up n q l h d = omega arith

      go : (x y z : Bool) → ltb n q ≡ x → ltb (suc q) n ≡ y → eqb n q ≡ z → Lies (pos n)
      go true y z e f g = far (below n (ltb-true n q e))
      go false true z e f g = far (above n (ltb-true (suc q) n f))
      go false false true e f g = subst (λ (m : ℕ). Lies (pos m)) (sym (eqb-true n q g)) whole
      go false false false e f g = subst (λ (m : ℕ). Lies (pos m)) (one_up n q (ltb-false n q e) (ltb-false (suc q) n f) (eqb-false n q g)) next

  -- an integer that is nearest, and even at a half, is one of the two
  near : (k : ℤ) → NearestEven a b k → (k ≡ pos q) ⊎ (k ≡ pos (suc q))
  near k p = go k (p.nearest (pos q)) (lies k)
    where
      go : (k : ℤ) → gap a b k ≤ gap a b (pos q) → Lies k → (k ≡ pos q) ⊎ (k ≡ pos (suc q))
      go k h whole = inl refl
      go k h next = inr refl
      go k h (far l) = let s = at_whole in absurd (omega arith)

  -- not both are
  not_both : NearestEven a b (pos q) → NearestEven a b (pos (suc q)) → ⊥
  not_both x y =
      let same : gap a b (pos q) ≡ gap a b (pos (suc q)) = le_antisymm (x.nearest (pos (suc q))) (y.nearest (pos q)) in
      clash q (x.even (pos (suc q)) (λ e. unlike q (ap nat_abs e)) (sym same)) (y.even (pos q) (λ e. unlike q (sym (ap nat_abs e))) same)
    where
      unlike : (q : ℕ) → suc q ≡ q → ⊥
      unlike q e = omega arith

      clash : (q : ℕ) → q % 2 ≡ 0 → suc q % 2 ≡ 0 → ⊥
      clash q e f = omega arith

  pub one_nearest : (j k : ℤ) → NearestEven a b j → NearestEven a b k → j ≡ k
  one_nearest j k x y = go (near j x) (near k y)
    where
      put : {j k : ℤ} → j ≡ k → NearestEven a b j → NearestEven a b k
      put e p = subst (λ (i : ℤ). NearestEven a b i) e p

      go : (j ≡ pos q) ⊎ (j ≡ pos (suc q)) → (k ≡ pos q) ⊎ (k ≡ pos (suc q)) → j ≡ k
      go (inl e) (inl f) = e ∙ sym f
      go (inl e) (inr f) = absurd (not_both (put e x) (put f y))
      go (inr e) (inl f) = absurd (not_both (put f y) (put e x))
      go (inr e) (inr f) = e ∙ sym f

  -- ---- which of the two: by how twice r compares with b

  chosen : (n : ℕ) → gap a b (pos n) ≤ r → gap a b (pos n) ≤ b - r → ((pos q ≡ pos n → ⊥) → r ≡ gap a b (pos n) → n % 2 ≡ 0)
      → ((pos (suc q) ≡ pos n → ⊥) → b - r ≡ gap a b (pos n) → n % 2 ≡ 0) → NearestEven a b (pos n)
  chosen n l m x y = record { nearest = λ j. least j (lies j); even = λ j other same. is_even j (lies j) other same }
    where
      least : (j : ℤ) → Lies j → gap a b (pos n) ≤ gap a b j
      least j whole = le_trans l (le_of_eq (sym at_whole))
      least j next = le_trans m (le_of_eq (sym at_next))
      least j (far h) = le_trans l (le_trans (le_of_lt rest) h)

      is_even : (j : ℤ) → Lies j → (j ≡ pos n → ⊥) → gap a b j ≡ gap a b (pos n) → n % 2 ≡ 0
      is_even j whole other same = x other (sym at_whole ∙ same)
      is_even j next other same = y other (sym at_next ∙ same)
      is_even j (far h) other same = absurd (lt_irrefl r (lt_of_lt_of_le rest (le_trans h (le_trans (le_of_eq same) l))))

  down_one : r * 2 < b → NearestEven a b (pos q)
  down_one h = chosen q (le_of_eq at_whole) (le_trans (le_of_eq at_whole) (omega arith)) (λ other same. absurd (other refl)) (λ other same. absurd (omega (arith, at_whole)))

  up_one : b < r * 2 → NearestEven a b (pos (suc q))
  up_one h = chosen (suc q) (le_trans (le_of_eq at_next) (omega arith)) (le_of_eq at_next) (λ other same. absurd (omega (arith, at_next))) (λ other same. absurd (other refl))

  even_one : r * 2 ≡ b → NearestEven a b (pos (q + q % 2))
  even_one h = chosen (q + q % 2) (le_of_eq equal) (le_trans (le_of_eq equal) (omega arith)) (λ other same. even q) (λ other same. even q)
    where
      even : (q : ℕ) → (q + q % 2) % 2 ≡ 0
      even q = omega arith

      two : (q : ℕ) → (q % 2 ≡ 0 → ⊥) → q + q % 2 ≡ suc q
      two q d = omega arith

      none : (q : ℕ) → q % 2 ≡ 0 → q + q % 2 ≡ q
      none q e = omega arith

      equal : gap a b (pos (q + q % 2)) ≡ r
      equal = go (eqb (q % 2) 0) refl
        where
          go : (x : Bool) → eqb (q % 2) 0 ≡ x → gap a b (pos (q + q % 2)) ≡ r
          go true e = ap (λ (n : ℕ). gap a b (pos n)) (none q (eqb-true (q % 2) 0 e)) ∙ at_whole
          go false e = ap (λ (n : ℕ). gap a b (pos n)) (two q (eqb-false (q % 2) 0 e)) ∙ at_next ∙ omega arith

-- ---- the rule

module _ (a b : ℕ) (B : 0 < b) where
  pub ruled_nearest : NearestEven a b (pos (ruled a b))
  ruled_nearest = go (ltb (a % b * 2) b) (ltb b (a % b * 2)) refl refl
    where
      is : a / b * b + a % b ≡ a
      is = div-add-mod' a b

      put : {m n : ℕ} → m ≡ n → NearestEven a b (pos m) → NearestEven a b (pos n)
      put e p = subst (λ (n : ℕ). NearestEven a b (pos n)) e p

      go : (x y : Bool) → ltb (a % b * 2) b ≡ x → ltb b (a % b * 2) ≡ y → NearestEven a b (pos (ruled a b))
      go true y e f = let h = ltb-true (a % b * 2) b e in put (ruled_less a b h) (down_one a b (a / b) (a % b) is (mod-lt a B) h)
      go false true e f = let h = ltb-true b (a % b * 2) f in put (ruled_more a b h) (up_one a b (a / b) (a % b) is (mod-lt a B) h)
      go false false e f =
          let h = le_antisymm (ltb-false b (a % b * 2) f) (ltb-false (a % b * 2) b e) in
          put (ruled_half a b h) (even_one a b (a / b) (a % b) is (mod-lt a B) h)

  pub ruled_only : (k : ℤ) → NearestEven a b k → k ≡ pos (ruled a b)
  ruled_only k p = one_nearest a b (a / b) (a % b) (div-add-mod' a b) (mod-lt a B) k (pos (ruled a b)) p ruled_nearest

-- ---- the number shown

held_signed : (s : Bool) (n : ℕ) → signed s (min n most_shown) ≡ held (signed s n)
held_signed false n = refl
held_signed true zero = refl
held_signed true (suc n) = refl

pub fair_rounding : FairRounding
unfolding shown_of
fair_rounding nan p = absurd (holds p)
fair_rounding (inf s) p = absurd (holds p)
fair_rounding (fin s m e) p =
    let a = 1000 * (m * up e) in record {
      size = ruled a (down e);
      rounded = ruled_nearest a (down e) (down_pos e);
      only = ruled_only a (down e) (down_pos e);
      shown = held_signed s (ruled a (down e));
    }

pub mirrored : Mirrored
unfolding shown_of neg
mirrored nan = refl
mirrored (inf s) = refl
mirrored (fin false m e) = refl
mirrored (fin true m e) = sym (neg_ℤ-neg_ℤ _)
