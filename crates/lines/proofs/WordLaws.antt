-- The word of the factors on a line: its length, its words, and where it has letters. Assumes nothing.
use Prim.Native.Nat.{ℕ, zero, suc, ◌+◌, ◌*◌, ◌/◌, ◌%◌, ◌^◌, ◌<◌, ◌≤◌}
use mathlib.Core.Path.{◌≡◌, refl, sym, ap, ap₂, ◌∙◌}
use mathlib.Core.Logic.{◌≢◌, ⊎_elim}
use mathlib.Core.Bool.{Bool, true, false, ◌&&◌, ◌||◌, false≢true}
use mathlib.Core.List.{List, [], ◌∷◌}
use native.Mathlib.Nat.{zero-div, zero-add}
use native.Mathlib.Omega.{arith}
use borrow.Author.Tests.{lt-ltb, ltb-true}
use lib.Dec.{ltb, eqb}
use lib.ListN.{length, get_or, replicate, length-replicate}
use Rattle.words.specs.Keys.{Key, Words, bit_of, bit_at, flip_at, set_at, z_at, has_letter, no_letters}
use Rattle.words.proofs.KeyLaws.{set_at_keeps, set_at_length, set_at_words}
use Rattle.words.proofs.LetterLaws.{letter, letter_flip_x, letter_flip_z}
use Rattle.terms.specs.Lists.{foldl}
use Rattle.terms.proofs.CaseLaws.{lt_or_le, and_true, cond_cases}
use Rattle.ops.specs.Task.{every, letters_below, qubits_of}
use Rattle.lines.proofs.DistinctLaws.{cleared}
use Rattle.lines.specs.TermLines.{Factor, sets_x, sets_z, factor_of, set_if, placed, word_of, qubits_in, all_below}

-- ---- the length, and words of 64 bits

-- what a set bit keeps, the factors keep
placed_keeps : (P : Key → Type 0) → ((k : Key) (i : ℕ) → P k → P (set_at k i)) → (w : ℕ) (k : Key) (f : Factor) → P k → P (placed w k f)
unfolding placed
placed_keeps P step w k f h = one f.z (z_at w f.qubit) (set_if f.x f.qubit k) (one f.x f.qubit k h)
  where
    one : (b : Bool) (i : ℕ) (k : Key) → P k → P (set_if b i k)
    one true i k h = step k i h
    one false i k h = h

all_keeps : (P : Key → Type 0) → ((k : Key) (i : ℕ) → P k → P (set_at k i)) → (w : ℕ) (k : Key) (fs : List Factor) → P k → P (foldl (placed w) k fs)
unfolding foldl
all_keeps P step w k [] h = h
all_keeps P step w k (f ∷ fs) h = all_keeps P step w (placed w k f) fs (placed_keeps P step w k f h)

pub length_all : (w : ℕ) (k : Key) (fs : List Factor) → length (foldl (placed w) k fs) ≡ length k
length_all w k fs = all_keeps (λ l. length l ≡ length k) (λ l i e. set_at_length l i ∙ e) w k fs refl

-- each word of the word without letters is 0
clear_word : (n j : ℕ) → ◌≡◌ {A = ℕ} (get_or (replicate n 0) j 0) 0
clear_word n j = cleared n 0 j

pub length_word : (w : ℕ) (fs : List Factor) → length (word_of w fs) ≡ 2 * w
length_word w fs = length_all w (no_letters w) fs ∙ length-replicate (2 * w) 0

pub words_word : (w : ℕ) (fs : List Factor) → Words (word_of w fs)
words_word w fs = all_keeps Words set_at_words w (no_letters w) fs (λ j. rw (clear_word (2 * w) j) (omega arith))

-- ---- what the code does for one factor

pub place_one : (w : ℕ) (k : Key) (p : List ℕ) (b q : ℕ) (x z : Bool) (k₁ k₂ : Key) → b ≡ get_or p 0 0 → q ≡ (factor_of p).qubit
    → x ≡ sets_x b → k₁ ≡ set_if x (0 + q) k → z ≡ sets_z b → k₂ ≡ set_if z (64 * w + q) k₁ → k₂ ≡ placed w k (factor_of p)
unfolding placed factor_of
place_one w k p b q x z k₁ k₂ eb eq ex e₁ ez e₂ = e₂ ∙ rw (e₁, zero-add q, ez, ex, eb, eq)

-- ---- the letters

-- no letter at a qubit from n on
abbrev Free : ℕ → ℕ → Key → Type 0
Free w n k = (q : ℕ) → n ≤ q → letter w k q ≡ false

free_none : (w n : ℕ) → Free w n (no_letters w)
unfolding bit_at bit_of
free_none w n q h = go (ltb q (64 * w))
  where
    clear : (i : ℕ) → bit_at (no_letters w) i ≡ false
    clear i = ap (λ (x : ℕ). eqb (x / 2 ^ (i % 64) % 2) 1) (clear_word (2 * w) (i / 64)) ∙ ap (λ (x : ℕ). eqb (x % 2) 1) (zero-div (2 ^ (i % 64)))

    go : (b : Bool) → (b && has_letter w (no_letters w) q) ≡ false
    go true = ap₂ ◌||◌ (clear q) (clear (z_at w q))
    go false = refl

free_placed : (w n : ℕ) (k : Key) (f : Factor) → f.qubit < n → n ≤ 64 * w → Free w n k → Free w n (placed w k f)
unfolding placed
free_placed w n k f h m ok q l =
    kept (z_at w f.qubit) (λ k. letter_flip_z w k f.qubit q other) f.z (set_if f.x f.qubit k)
    ∙ kept f.qubit (λ k. letter_flip_x w k f.qubit q (omega (arith, h, m)) other) f.x k
    ∙ ok q l
  where
    other : f.qubit ≢ q
    other e = omega (arith, e, h, l)

    kept : (i : ℕ) → ((k : Key) → letter w (flip_at k i) q ≡ letter w k q) → (b : Bool) (k : Key) → letter w (set_if b i k) q ≡ letter w k q
    kept i flip true k = set_at_keeps k i (λ l. letter w l q ≡ letter w k q) refl (flip k)
    kept i flip false k = refl

free_all : (w n : ℕ) (k : Key) (fs : List Factor) → all_below n (qubits_in fs) ≡ true → n ≤ 64 * w → Free w n k → Free w n (foldl (placed w) k fs)
unfolding foldl every
free_all w n k [] b m ok = ok
free_all w n k (f ∷ fs) b m ok =
    let h = and_true (ltb f.qubit n) (all_below n (qubits_in fs)) b in
    free_all w n (placed w k f) fs h.1 m (free_placed w n k f (ltb-true _ _ h.0) m ok)

-- the letters at the qubits below a, where there is none from n on
below_free : (w n a : ℕ) (k : Key) → a ≤ 64 * w → Free w n k → every (λ q. ltb q n) (letters_below w a k) ≡ true
unfolding every letters_below
below_free w n zero k h ok = refl
below_free w n (suc a) k h ok =
    let ih = below_free w n a k (omega (arith, h)) ok in
    cond_cases (λ l. every (λ q. ltb q n) l ≡ true) (has_letter w k a)
    (λ e. ap₂ ◌&&◌ (⊎_elim (lt-ltb a n) (λ l. absurd (false≢true (sym (ok a l) ∙ ap₂ ◌&&◌ (lt-ltb a (64 * w) h) e))) (lt_or_le a n)) ih) (λ e. ih)

-- a word whose factors are below n has letters below n alone
pub letters_of_word : (w n : ℕ) (fs : List Factor) → all_below n (qubits_in fs) ≡ true → n ≤ 64 * w
    → every (λ q. ltb q n) (qubits_of w (word_of w fs)) ≡ true
letters_of_word w n fs b m = below_free w n (64 * w) (word_of w fs) (omega arith) (free_all w n (no_letters w) fs b m (free_none w n))
