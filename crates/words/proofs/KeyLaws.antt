-- The laws of a key's bits, over any number of words: a flip changes its own bit and no other, twice it is the identity, it keeps the
-- length, and words of 64 bits stay so. Two keys with the same bits are equal. Assumes nothing.
use Prim.Native.Nat.{ℕ, ◌+◌, ◌*◌, ◌/◌, ◌%◌, ◌^◌, ◌≤◌, ◌<◌}
use mathlib.Core.Path.{◌≡◌, refl, sym, ap, ap₂, ◌∙◌, subst⁻¹}
use mathlib.Core.Bool.{Bool, true, false, not, cond, ◌&&◌, false≢true}
use mathlib.Core.Logic.{◌≢◌}
use mathlib.Core.List.{[], ◌∷◌}
use lib.Dec.{eqb}
use borrow.Author.Tests.{eqb-true, eq-eqb}
use native.Mathlib.Nat.{zero-div}
use native.Mathlib.Omega.{arith}
use native.Mathlib.Decide.{dec_lt, ℕ_discrete}
use lib.ListN.{length, get_or, set, length-set, get_or-eq_default}
use lib.Seq.{get_or-set_same, get_or-set_other, set_out, set-set, set-get_or, ext_get_or}
use Rattle.words.specs.Keys.{Key, bit_of, flip_of, bit_at, flip_at, set_at, same_key, Words}
use Rattle.words.proofs.WordLaws.{bit_flip_same, bit_flip_other, flip_twice, flip_lt, word_ext}

module _ (k : Key) (i : ℕ) where
  pub flip_at_length : length (flip_at k i) ≡ length k
  unfolding flip_at
  flip_at_length = length-set k (i / 64) _

  pub flip_at_out : length k ≤ i / 64 → flip_at k i ≡ k
  unfolding flip_at
  flip_at_out h = set_out k (i / 64) _ h

  pub flip_at_word : i / 64 < length k → get_or (flip_at k i) (i / 64) 0 ≡ flip_of (get_or k (i / 64) 0) (i % 64)
  unfolding flip_at
  flip_at_word h = get_or-set_same k (i / 64) _ 0 h

  pub bit_at_flip_same : i / 64 < length k → bit_at (flip_at k i) i ≡ not (bit_at k i)
  unfolding bit_at
  bit_at_flip_same h = ap (λ (x : ℕ). bit_of x (i % 64)) (flip_at_word h) ∙ bit_flip_same (get_or k (i / 64) 0) (i % 64)

  pub flip_at_twice : flip_at (flip_at k i) i ≡ k
  unfolding flip_at
  flip_at_twice = go (dec_lt (i / 64) (length k))
    where
      go : Dec (i / 64 < length k) → flip_at (flip_at k i) i ≡ k
      go (yes h) =
          ap (λ (x : ℕ). set (flip_at k i) (i / 64) (flip_of x (i % 64))) (flip_at_word h)
          ∙ set-set k (i / 64) _ _
          ∙ ap (λ (x : ℕ). set k (i / 64) x) (flip_twice (get_or k (i / 64) 0) (i % 64))
          ∙ set-get_or k (i / 64) 0
      go (no h) = ap (λ (l : Key). flip_at l i) (flip_at_out (omega arith)) ∙ flip_at_out (omega arith)

  -- every word other than the flipped bit's is as it was
  pub flip_at_other_word : (j : ℕ) → j ≢ i / 64 → get_or (flip_at k i) j 0 ≡ get_or k j 0
  unfolding flip_at
  flip_at_other_word j h = get_or-set_other k (i / 64) j _ 0 h

  -- a word after the flip: as it was, or flipped
  word_cases : (P : ℕ → Type 0) (j : ℕ) → P (get_or k j 0) → (j ≡ i / 64 → P (flip_of (get_or k j 0) (i % 64))) → P (get_or (flip_at k i) j 0)
  word_cases P j p q = go (ℕ_discrete j (i / 64)) (dec_lt (i / 64) (length k))
    where
      go : Dec (j ≡ i / 64) → Dec (i / 64 < length k) → P (get_or (flip_at k i) j 0)
      go (no n) d = subst⁻¹ P (flip_at_other_word j n) p
      go (yes e) (yes l) = subst⁻¹ P (ap (λ (x : ℕ). get_or (flip_at k i) x 0) e ∙ flip_at_word l ∙ ap (λ (x : ℕ). flip_of (get_or k x 0) (i % 64)) (sym e)) (q e)
      go (yes e) (no l) = subst⁻¹ (λ (x : Key). P (get_or x j 0)) (flip_at_out (omega arith)) p

  pub bit_at_flip_other : (j : ℕ) → j ≢ i → bit_at (flip_at k i) j ≡ bit_at k j
  unfolding bit_at
  bit_at_flip_other j h =
      word_cases (λ v. bit_of v (j % 64) ≡ bit_at k j) (j / 64) refl (λ e. bit_flip_other (get_or k (j / 64) 0) (i % 64) (j % 64) (λ m. h (omega arith)))

  pub flip_at_words : Words k → Words (flip_at k i)
  flip_at_words ok j = word_cases (λ v. v < 2 ^ 64) j (ok j) (λ e. flip_lt (get_or k j 0) (i % 64) 64 (omega arith) (ok j))

pub key_ext : (k l : Key) → length k ≡ length l → Words k → Words l → ((i : ℕ) → bit_at k i ≡ bit_at l i) → k ≡ l
unfolding bit_at
key_ext k l e hk hl same =
    ext_get_or 0 k l e
    (λ j h. word_ext 64 (get_or k j 0) (get_or l j 0) (hk j) (hl j)
    (λ b m.
    let q : (64 * j + b) / 64 ≡ j = omega arith in
    let r : (64 * j + b) % 64 ≡ b = omega arith in
    rw (q, r) at (same (64 * j + b))))

-- past the end a bit is clear; a set bit, flipped, is clear
pub bit_at_past : (k : Key) (i : ℕ) → length k ≤ i / 64 → bit_at k i ≡ false
unfolding bit_at bit_of
bit_at_past k i h =
    ap (λ (x : ℕ). eqb (x / 2 ^ (i % 64) % 2) 1) (get_or-eq_default k 0 h) ∙ ap (λ (x : ℕ). eqb (x % 2) 1) (zero-div (2 ^ (i % 64)))

pub bit_at_cleared : (k : Key) (i : ℕ) → bit_at k i ≡ true → bit_at (flip_at k i) i ≡ false
bit_at_cleared k i e = go (dec_lt (i / 64) (length k))
  where
    go : Dec (i / 64 < length k) → bit_at (flip_at k i) i ≡ false
    go (yes h) = bit_at_flip_same k i h ∙ ap not e
    go (no h) = absurd (false≢true (sym (bit_at_past k i (omega arith)) ∙ e))

-- ---- two keys are the same where their words are

pub same_key_eq : (k l : Key) → same_key k l ≡ true → k ≡ l
unfolding same_key
same_key_eq [] [] h = refl
same_key_eq [] (b ∷ l) h = absurd (false≢true h)
same_key_eq (a ∷ k) [] h = absurd (false≢true h)
same_key_eq (a ∷ k) (b ∷ l) h = go (eqb a b) refl h (same_key_eq k l)
  where
    go : (t : Bool) → eqb a b ≡ t → (t && same_key k l) ≡ true → (same_key k l ≡ true → k ≡ l) → a ∷ k ≡ b ∷ l
    go true e h f = ap₂ (λ (x : ℕ) (m : Key). x ∷ m) (eqb-true a b e) (f h)
    go false e h f = absurd (false≢true h)

pub same_key_refl : (k : Key) → same_key k k ≡ true
unfolding same_key
same_key_refl [] = refl
same_key_refl (a ∷ k) = ap (λ (t : Bool). t && same_key k k) (eq-eqb a a refl) ∙ same_key_refl k

pub same_key_ne : (k l : Key) → k ≢ l → same_key k l ≡ false
same_key_ne k l n = go (same_key k l) refl
  where
    go : (t : Bool) → same_key k l ≡ t → t ≡ false
    go true e = absurd (n (same_key_eq k l e))
    go false e = refl

pub same_key_sym : (k l : Key) → same_key k l ≡ same_key l k
same_key_sym k l = go (same_key k l) refl
  where
    go : (t : Bool) → same_key k l ≡ t → t ≡ same_key l k
    go true e = sym (ap (λ (m : Key). same_key l m) (same_key_eq k l e) ∙ same_key_refl l)
    go false e = sym (same_key_ne l k (λ q. false≢true (sym e ∙ ap (λ (m : Key). same_key k m) q ∙ same_key_refl k)))

-- a word in which they differ
pub same_key_differ : (k l : Key) (j : ℕ) → (get_or k j 0 ≡ get_or l j 0 → ⊥) → same_key k l ≡ false
same_key_differ k l j n = same_key_ne k l (λ e. n (ap (λ (m : Key). get_or m j 0) e))

-- ---- a bit that is set
module _ (k : Key) (i : ℕ) where
  pub set_at_keeps : (P : Key → Type 0) → P k → P (flip_at k i) → P (set_at k i)
  set_at_keeps P p q = go (bit_at k i)
    where
      go : (t : Bool) → P (cond t k (flip_at k i))
      go true = p
      go false = q

  pub set_at_length : length (set_at k i) ≡ length k
  set_at_length = set_at_keeps (λ l. length l ≡ length k) refl (flip_at_length k i)

  pub set_at_words : Words k → Words (set_at k i)
  set_at_words ok = set_at_keeps Words ok (flip_at_words k i ok)
