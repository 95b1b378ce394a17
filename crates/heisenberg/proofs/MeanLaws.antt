-- The mean is the expectation value in |0…0⟩. Assumes nothing.
use Prim.Native.Nat.{ℕ, zero, suc, ◌+◌, ◌*◌, ◌/◌, ◌%◌, ◌^◌, ◌<◌, zero-le, suc-le-suc}
use mathlib.Core.Path.{◌≡◌, refl, sym, ap, ap₂, ◌∙◌}
use mathlib.Core.Bool.{Bool, true, false, cond, ◌&&◌, beq, and-false, false≢true}
use mathlib.Core.List.{List, [], ◌∷◌}
use native.Mathlib.Nat.{not-suc-le-zero, le_of_suc-le-suc, zero-div}
use native.Mathlib.Omega.{arith}
use lib.Dec.{eqb}
use lib.Pow.{pow_pos}
use lib.ListN.{length, get_or, take, replicate}
use lib.Seq.{length-take-le, get_or-take}
use lib.Ieee.{Float, binary64, add}
use borrow.Author.Tests.{eqb-true, eq-eqb}
use Rattle.numbers.specs.Constants.{zero64}
use Rattle.words.specs.Keys.{Key, ◌⊕◌, bit_of, bit_at, z_at, Words, all_zero, no_x}
use Rattle.words.proofs.WordLaws.{word_ext}
use Rattle.terms.specs.Lists.{tab, foldl, All}
use Rattle.terms.specs.Term.{Term, OnWidth}
use Rattle.terms.specs.Mean.{add_mean}
use Rattle.terms.proofs.CaseLaws.{and_true, same_test}
use Rattle.heisenberg.specs.Expectation.{flipped_by, sign_by, same_bits, word_mean, WordMeans, Amplitude, plus_one, minus_one, nought, add_times, MeanIsExpectation}

-- ---- words that are all 0

zero_word : (k : List ℕ) → all_zero k ≡ true → (j : ℕ) → get_or k j 0 ≡ 0
unfolding all_zero
zero_word [] h j = refl
zero_word (x ∷ k) h zero = eqb-true x 0 (and_true (eqb x 0) (all_zero k) h).0
zero_word (x ∷ k) h (suc j) = zero_word k (and_true (eqb x 0) (all_zero k) h).1 j

zero_all : (k : List ℕ) → ((j : ℕ) → j < length k → get_or k j 0 ≡ 0) → all_zero k ≡ true
unfolding all_zero
zero_all [] h = refl
zero_all (x ∷ k) h = rw (eq-eqb x 0 (h zero (suc-le-suc zero-le))) (zero_all k (λ l b. h (suc l) (suc-le-suc b)))

clear_bit : (b : ℕ) → bit_of 0 b ≡ false
unfolding bit_of
clear_bit b = ap (λ (v : ℕ). eqb (v % 2) 1) (zero-div (2 ^ b))

module _ (w : ℕ) (k : Key) where
  -- no x-word, no x bit
  clear_of : no_x w k ≡ true → (q : ℕ) → q < 64 * w → bit_at k q ≡ false
  unfolding bit_at
  clear_of h q i =
      ap (λ (v : ℕ). bit_of v (q % 64)) (sym (get_or-take w k (q / 64) 0 (omega arith)) ∙ zero_word (take w k) h (q / 64)) ∙ clear_bit (q % 64)

  of_clear : length k ≡ 2 * w → Words k → ((q : ℕ) → q < 64 * w → bit_at k q ≡ false) → no_x w k ≡ true
  unfolding bit_at
  of_clear long ok h =
      let few : length (take w k) ≡ w = length-take-le w k (omega arith) in
      zero_all (take w k)
      (λ j i.
      let m : j < w = omega arith in
      get_or-take w k j 0 m
      ∙ word_ext 64 (get_or k j 0) 0 (ok j) (pow_pos 64)
      (λ b c.
      let q : (64 * j + b) / 64 ≡ j = omega arith in
      let r : (64 * j + b) % 64 ≡ b = omega arith in
      rw (q, r) at (h (64 * j + b) (omega arith)) ∙ sym (clear_bit b)))

-- ---- what a word does to |0…0⟩

no_sign : (n : ℕ) (f : ℕ → Bool) → sign_by (tab n f) (replicate n false) ≡ false
unfolding sign_by tab
no_sign zero f = refl
no_sign (suc n) f = ap₂ ◌⊕◌ (and-false (f zero)) (no_sign n (λ i. f (suc i)))

-- it gives |0…0⟩ again just if no x is set
same_clear : (n : ℕ) (f : ℕ → Bool) → same_bits (replicate n false) (flipped_by (tab n f) (replicate n false)) ≡ true → (q : ℕ) → q < n → f q ≡ false
unfolding same_bits flipped_by tab
same_clear zero f h q i = absurd (not-suc-le-zero i)
same_clear (suc n) f h q i = go (f zero) refl _ h q i (same_clear n (λ i. f (suc i)))
  where
    go : (x : Bool) → f zero ≡ x → (rest : Bool) → (beq false (false ⊕ x) && rest) ≡ true → (q : ℕ) → q < suc n
        → (rest ≡ true → (q : ℕ) → q < n → f (suc q) ≡ false) → f q ≡ false
    go true e rest h q i below = absurd (false≢true h)
    go false e rest h zero i below = e
    go false e rest h (suc q) i below = below h q (le_of_suc-le-suc i)

clear_same : (n : ℕ) (f : ℕ → Bool) → ((q : ℕ) → q < n → f q ≡ false) → same_bits (replicate n false) (flipped_by (tab n f) (replicate n false)) ≡ true
unfolding same_bits flipped_by tab
clear_same zero f h = refl
clear_same (suc n) f h =
    ap₂ (λ (x r : Bool). beq false (false ⊕ x) && r) (h zero (suc-le-suc zero-le)) (clear_same n (λ i. f (suc i)) (λ q i. h (suc q) (suc-le-suc i)))

pub word_means : WordMeans
word_means w k long ok =
    let n = 64 * w in
    ap₂ (λ (b m : Bool). cond b (cond m minus_one plus_one) nought)
    (same_test _ (no_x w k) (λ e. of_clear w k long ok (same_clear n (bit_at k) e)) (λ e. clear_same n (bit_at k) (clear_of w k e)))
    (no_sign n (λ q. bit_at k (z_at w q)))

-- ---- sums

-- a step that is the same of every element
fold_same : {A S : Type 0} (P : A → Type 0) (f g : S → A → S) → ((s : S) (a : A) → P a → f s a ≡ g s a) → (s : S) (l : List A) → All P l → foldl f s l ≡ foldl g s l
unfolding foldl
fold_same P f g e s [] h = refl
fold_same P f g e s (a ∷ l) h = ap (λ (z : _). foldl f z l) (e s a h.0) ∙ fold_same P f g e (g s a) l h.1

pub mean_is_expectation : MeanIsExpectation
mean_is_expectation w ts wide = fold_same (OnWidth w) (add_mean w) (λ s t. add_times s (word_mean w t.key) t.coeff) step zero64 ts wide
  where
    by : (b : Bool) (s v : Float) → cond b (add binary64 s v) s ≡ add_times s (cond b plus_one nought) v
    by true s v = refl
    by false s v = refl

    step : (s : Float) (t : Term) → OnWidth w t → add_mean w s t ≡ add_times s (word_mean w t.key) t.coeff
    step s t h = by (no_x w t.key) s t.coeff ∙ ap (λ (a : Amplitude). add_times s a t.coeff) (sym (word_means w t.key h.long h.words))
