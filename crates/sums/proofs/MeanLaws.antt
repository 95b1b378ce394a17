-- Words that are all 0, one row of the mean, and finite coefficients row by row and number by number. Assumes nothing.
use mathlib.Core.Path.{◌≡◌, refl, sym, ap, ◌∙◌}
use mathlib.Core.Bool.{Bool, true, false, cond, ◌&&◌, and-true, and_assoc}
use mathlib.Core.List.{List, [], ◌∷◌}
use Prim.Native.Nat.{ℕ, zero, suc, ◌+◌, ◌-◌, ◌*◌, ◌≤◌, ◌<◌}
use native.Mathlib.Nat.{add-sub_cancel_left}
use native.Mathlib.Numerals.{add-one}
use native.Mathlib.Omega.{arith}
use lib.Dec.{eqb}
use Rattle.std.specs.List.{list_all}
use lib.ListN.{length, get_or, take, drop, get_or-eq_default}
use lib.Seq.{length-take-le, get_or-take, take-take}
use lib.Ieee.{Float, nan, binary64, add}
use Rattle.numbers.specs.Tests.{is_finite}
use Rattle.words.specs.Keys.{all_zero, no_x}
use Rattle.terms.specs.Mean.{add_mean}
use Rattle.terms.specs.Coefficient.{finite_of}
use Rattle.terms.specs.Lists.{tab}
use Rattle.terms.specs.Term.{Term, all_finite}
use Rattle.terms.proofs.CaseLaws.{and-false}
use Rattle.words.specs.Rows.{key_at}
use Rattle.rows.specs.Rows.{coeff_at, term_at, terms_in}
use Rattle.sums.specs.Steps.{finite_rows}

-- ---- words that are all 0

same_zeros : (k : List ℕ) → list_all (λ x. eqb x 0) k ≡ all_zero k
unfolding all_zero
same_zeros [] = refl
same_zeros (x ∷ k) = ap (λ (b : Bool). eqb x 0 && b) (same_zeros k)

-- the x-words of a row, as the code takes them, a part of the buffer
pub all_zeros : (w i : ℕ) (ws : List ℕ) → list_all (λ x. eqb x 0) (take (i * (2 * w) + w - i * (2 * w)) (drop (i * (2 * w)) ws)) ≡ all_zero (take w (drop (i * (2 * w)) ws))
all_zeros w i ws = same_zeros _ ∙ ap (λ (n : ℕ). all_zero (take n (drop (i * (2 * w)) ws))) (add-sub_cancel_left (i * (2 * w)) w)

-- ---- one row of the mean

module _ (w i : ℕ) (ws : List ℕ) (cs : List Float) (sum : Float) {b : Bool} (e : b ≡ all_zero (take w (drop (i * (2 * w)) ws))) where
  no_x_lem : no_x w (key_at (2 * w) ws i) ≡ b
  no_x_lem = ap all_zero (take-take w (2 * w) (drop (i * (2 * w)) ws) (omega arith)) ∙ sym e

  pub mean_added : {v : Float} → b ≡ true → v ≡ coeff_at cs i → add binary64 sum v ≡ add_mean w sum (term_at (2 * w) ws cs i)
  mean_added t q =
      ap (λ (v : Float). add binary64 sum v) q
      ∙ ap (λ (b : Bool). cond b (add binary64 sum (coeff_at cs i)) sum) (sym (no_x_lem ∙ t))

  pub mean_passed : b ≡ false → sum ≡ add_mean w sum (term_at (2 * w) ws cs i)
  mean_passed t = ap (λ (b : Bool). cond b (add binary64 sum (coeff_at cs i)) sum) (sym (no_x_lem ∙ t))

-- ---- finite coefficients

-- the coefficients as numbers one after another: whether the first m are finite
unfoldable pub numbers_finite : ℕ → List Float → Bool
numbers_finite zero cs = true
numbers_finite (suc m) cs = numbers_finite m cs && is_finite (get_or cs m nan)

tab_finite : (n : ℕ) (f : ℕ → Term) → all_finite (tab (suc n) f) ≡ all_finite (tab n f) && finite_of (f n).coeff
unfolding all_finite tab
tab_finite zero f = and-true (finite_of (f zero).coeff)
tab_finite (suc n) f =
    ap (λ (b : Bool). finite_of (f zero).coeff && b) (tab_finite n (λ i. f (suc i)))
    ∙ sym (and_assoc (finite_of (f zero).coeff) (all_finite (tab n (λ i. f (suc i)))) (finite_of (f (suc n)).coeff))

-- n rows are n numbers
pub finite_numbers : (n : ℕ) (cs : List Float) → finite_rows n cs ≡ numbers_finite n cs
unfolding numbers_finite all_finite tab
finite_numbers zero cs = refl
finite_numbers (suc n) cs = tab_finite n (term_at 0 [] cs) ∙ ap (λ (b : Bool). b && finite_of (coeff_at cs n)) (finite_numbers n cs)

pub one_more_finite : (m : ℕ) (cs : List Float) → numbers_finite (m + 1) cs ≡ numbers_finite m cs && is_finite (get_or cs m nan)
unfolding numbers_finite
one_more_finite m cs = ap (λ (k : ℕ). numbers_finite k cs) (add-one m)

-- the numbers of the first n rows, one after another
module _ (n i : ℕ) (cs : List Float) {b : Bool} (there : n ≤ length cs) (e : b ≡ numbers_finite i cs) where
  pub finite_turn : {f : Bool} → i < length (take n cs) → f ≡ is_finite (get_or (take n cs) i nan) → (b && f) ≡ numbers_finite (i + 1) cs
  finite_turn {f} h q =
      let long : length (take n cs) ≡ n = length-take-le n cs there in
      (λ k. e k && (q ∙ ap is_finite (get_or-take n cs i nan (omega arith))) k) ∙ sym (one_more_finite i cs)

  pub finite_end : i ≤ length (take n cs) → length (take n cs) ≤ i → b ≡ finite_rows n cs
  finite_end h l =
      let long : length (take n cs) ≡ n = length-take-le n cs there in
      let all : i ≡ n = omega arith in
      e ∙ ap (λ (m : ℕ). numbers_finite m cs) all ∙ sym (finite_numbers n cs)

-- a row that is not there
pub missing_finite : (n : ℕ) (cs : List Float) → length cs < n → finite_rows n cs ≡ false
missing_finite n cs h =
    let m : ℕ = n - 1 in
    let more : n ≡ m + 1 = omega arith in
    let past : length cs ≤ m = omega arith in
    finite_numbers n cs ∙ ap (λ (k : ℕ). numbers_finite k cs) more ∙ one_more_finite m cs
    ∙ ap (λ (x : Float). numbers_finite m cs && is_finite x) (get_or-eq_default cs nan past) ∙ and-false (numbers_finite m cs)

same_finite : (n : ℕ) (f g : ℕ → Term) → ((i : ℕ) → (f i).coeff ≡ (g i).coeff) → all_finite (tab n f) ≡ all_finite (tab n g)
unfolding all_finite tab
same_finite zero f g e = refl
same_finite (suc n) f g e = λ k. finite_of (e zero k) && same_finite n (λ i. f (suc i)) (λ i. g (suc i)) (λ i. e (suc i)) k

-- the words of a sum do not matter
pub finite_terms : (s n : ℕ) (ws : List ℕ) (cs : List Float) → all_finite (terms_in s n ws cs) ≡ finite_rows n cs
finite_terms s n ws cs = same_finite n (term_at s ws cs) (term_at 0 [] cs) (λ i. refl)
