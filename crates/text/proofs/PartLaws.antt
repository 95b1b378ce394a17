-- Laws of the parts of a text, of a cursor that goes from part to part, and of comparisons of texts.
use Prim.Native.Nat.{ℕ, suc, ◌+◌, ◌-◌, ◌<◌, ◌≤◌}
use mathlib.Core.Path.{◌≡◌, refl, sym, ap, ◌∙◌}
use mathlib.Core.List.{List, [], ◌∷◌}
use mathlib.Core.Bool.{Bool, true, false, cond, ◌&&◌, and-eq-true_iff}
use native.Mathlib.Numerals.{add-one}
use native.Mathlib.Nat.{add_assoc, le_of_suc-le-suc}
use native.Mathlib.Omega.{arith}
use borrow.Author.Tests.{eq-eqb, ne_eqb, eqb-true, ltb-true, ltb-false}
use lib.ListN.{length, get_or, take, drop, length-drop, drop_of_length-le}
use lib.Seq.{drop-drop, take_all}
use lib.Dec.{eqb, ltb}
use Rattle.std.specs.List.{position_or_len, slice_split, onto_first}
use Rattle.std.specs.Prelude.{Option, Some, None, unwrap_or, not}
use Rattle.std.proofs.lemmas.Bool.Decides.{nat_tests}
use lib.Pointwise.{pointwise}
use Rattle.text.specs.Bytes.{parts, on_first, index, before, after, begins, same}

-- the part `&s[a..]`
pub tail_is : (s : List ℕ) (a : ℕ) → take (length s - a) (drop a s) ≡ drop a s
tail_is s a = take_all (length s - a) (drop a s) (rw (length-drop a s) (omega arith))

-- ---- where the first c stands

-- what std's `position` answers
index_position : (c : ℕ) (s : List ℕ) → position_or_len (λ b. eqb b c) s ≡ index c s
unfolding index
index_position c [] = refl
index_position c (b ∷ bs) = go (index_position c bs) (eqb b c)
  where
    go : position_or_len (λ b. eqb b c) bs ≡ index c bs → (t : Bool) → cond (not t) (1 + position_or_len (λ b. eqb b c) bs) 0 ≡ cond t 0 (suc (index c bs))
    go ih true = refl
    go ih false = omega (arith, ih)

pub index_within : (c : ℕ) (s : List ℕ) → index c s ≤ length s
unfolding index
index_within c [] = omega arith
index_within c (b ∷ bs) = go (index_within c bs) (eqb b c)
  where
    go : index c bs ≤ length bs → (t : Bool) → cond t 0 (suc (index c bs)) ≤ suc (length bs)
    go ih true = omega arith
    go ih false = omega (arith, ih)

pub index_found : (c : ℕ) (s : List ℕ) (r : Option ℕ) → let p = position_or_len (λ b. eqb b c) s in r ≡ cond (ltb p (length s)) (Some p) None → unwrap_or r (length s) ≡ index c s
index_found c s r e = rw (e, index_position c s) (go (ltb (index c s) (length s)) refl)
  where
    go : (t : Bool) → ltb (index c s) (length s) ≡ t → unwrap_or (cond t (Some (index c s)) None) (length s) ≡ index c s
    go true q = refl
    go false q = let l = ltb-false _ _ q in omega (arith, index_within c s)

-- the texts before and after it
module _ (c : ℕ) (s : List ℕ) (n : ℕ) (e : n ≡ index c s) where
  pub before_found : take n s ≡ before c s
  before_found = rw e

  pub after_found : take (length s - (n + 1)) (drop (n + 1) s) ≡ after c s
  after_found = tail_is s (n + 1) ∙ rw (add-one, e)

  pub before_none : length s ≤ n → s ≡ before c s
  before_none h = sym (take_all n s h) ∙ rw e

  pub after_none : length s ≤ n → [] ≡ after c s
  after_none h = let k : length s ≤ suc n = omega arith in sym (drop_of_length-le s k) ∙ ap (λ (j : ℕ). drop (suc j) s) e

-- ---- the parts of a text

-- the first part ends where the first c stands, and the rest are the parts of what follows
pub parts_at : (c : ℕ) (s : List ℕ) → index c s < length s → parts c s ≡ take (index c s) s ∷ parts c (drop (suc (index c s)) s)
unfolding index parts on_first
parts_at c [] h = absurd (omega (arith, h))
parts_at c (b ∷ bs) h = go (parts_at c bs) (eqb b c) h
  where
    go : (index c bs < length bs → parts c bs ≡ take (index c bs) bs ∷ parts c (drop (suc (index c bs)) bs))
        → (t : Bool) (h : cond t 0 (suc (index c bs)) < suc (length bs))
        → cond t ([] ∷ parts c bs) (on_first b (parts c bs)) ≡ take (cond t 0 (suc (index c bs))) (b ∷ bs) ∷ parts c (drop (suc (cond t 0 (suc (index c bs)))) (b ∷ bs))
    go ih true h = refl
    go ih false h = rw (ih (le_of_suc-le-suc h))

pub parts_one : (c : ℕ) (s : List ℕ) → length s ≤ index c s → parts c s ≡ s ∷ []
unfolding index parts on_first
parts_one c [] h = refl
parts_one c (b ∷ bs) h = go (parts_one c bs) (eqb b c) h
  where
    go : (length bs ≤ index c bs → parts c bs ≡ bs ∷ []) → (t : Bool) (h : suc (length bs) ≤ cond t 0 (suc (index c bs))) → cond t ([] ∷ parts c bs) (on_first b (parts c bs)) ≡ (b ∷ bs) ∷ []
    go ih true h = absurd (omega (arith, h))
    go ih false h = rw (ih (le_of_suc-le-suc h))

module _ (c : ℕ) (s : List ℕ) (n : ℕ) (e : n ≡ index c s) where
  pub parts_found : n < length s → parts c s ≡ take n s ∷ parts c (drop (n + 1) s)
  parts_found h = rw (add-one, e) (parts_at c s (rw e at h))

  pub parts_last : length s ≤ n → parts c s ≡ s ∷ []
  parts_last h = parts_one c s (rw e at h)

-- there is always a part
pub parts_some : (c : ℕ) (s : List ℕ) → 0 < length (parts c s)
unfolding parts on_first
parts_some c [] = omega arith
parts_some c (b ∷ bs) = go (parts_some c bs) (eqb b c)
  where
    first : (ps : List (List ℕ)) → 0 < length ps → 0 < length (on_first b ps)
    first [] k = k
    first (p ∷ ps) k = k

    go : 0 < length (parts c bs) → (t : Bool) → 0 < length (cond t ([] ∷ parts c bs) (on_first b (parts c bs)))
    go k true = omega arith
    go k false = first (parts c bs) k

-- they are what std's `split` gives
pub parts_split : (c : ℕ) (s : List ℕ) → slice_split (λ b. eqb b c) s ≡ parts c s
unfolding parts on_first
parts_split c [] = refl
parts_split c (b ∷ bs) = go (slice_split (λ b. eqb b c) bs) (parts c bs) (parts_split c bs) (parts_some c bs) (eqb b c)
  where
    go : (qs ps : List (List ℕ)) → qs ≡ ps → 0 < length ps → (t : Bool) → cond t ([] ∷ qs) (onto_first b qs) ≡ cond t ([] ∷ ps) (on_first b ps)
    go qs ps e k true = rw e
    go qs [] e k false = absurd (omega (arith, k))
    go qs (p ∷ ps) e k false = rw e

-- ---- a cursor at a place of a text, r the text from there, n where the next c stands in r

module _ (c : ℕ) (s : List ℕ) (at : ℕ) (r : List ℕ) (t : r ≡ drop at s) (n : ℕ) (e : n ≡ index c r) where
  pub cursor_last : length r ≤ n → parts c (drop at s) ≡ r ∷ []
  cursor_last h = rw (← t) (parts_last c r n e h)

  module _ (h : n < length r) where
    pub cursor_step : parts c (drop at s) ≡ take n r ∷ parts c (drop (at + n + 1) s)
    cursor_step = rw (← t, parts_found c r n e h, t, drop-drop, ← add_assoc)

    pub cursor_in : at + n + 1 ≤ length s
    cursor_in = omega (arith, h, ap length t, length-drop at s)

-- the part at the cursor
pub here : (c : ℕ) (s : List ℕ) (at : ℕ) (r : List ℕ) → r ≡ drop at s → (n : ℕ) → n ≡ index c r → (p : List ℕ) → p ≡ take n r → p ≡ get_or (parts c (drop at s)) 0 []
here c s at r t n e p u = go (ltb n (length r)) refl
  where
    go : (b : Bool) → ltb n (length r) ≡ b → p ≡ get_or (parts c (drop at s)) 0 []
    go true q = rw (cursor_step c s at r t n e (ltb-true _ _ q)) u
    go false q = rw (cursor_last c s at r t n e (ltb-false _ _ q)) (u ∙ take_all n r (ltb-false _ _ q))

-- ---- comparisons

-- what std's `starts_with` and `==` answer
swapped : (a b : ℕ) → eqb a b ≡ eqb b a
swapped a b = grind (arith, nat_tests)

pub begins_starts : (k s : List ℕ) → pointwise eqb k (take (length k) s) ≡ begins k s
unfolding begins
begins_starts [] s = refl
begins_starts (b ∷ k) [] = refl
begins_starts (b ∷ k) (d ∷ s) = rw (begins_starts k s, swapped b d)

-- what std's `strip_prefix` compares
pub begins_stripped : (k s : List ℕ) → begins k s ≡ pointwise eqb (take (length k) s) k
unfolding begins
begins_stripped [] s = refl
begins_stripped (b ∷ k) [] = refl
begins_stripped (b ∷ k) (d ∷ s) = ap (λ (x : Bool). eqb d b && x) (begins_stripped k s)

pub same_pointwise : (k s : List ℕ) → pointwise eqb s k ≡ same k s
unfolding begins
same_pointwise [] [] = refl
same_pointwise [] (d ∷ s) = rw (ne_eqb (suc (length s)) 0 (λ e. omega arith))
same_pointwise (b ∷ k) [] = rw (ne_eqb 0 (suc (length k)) (λ e. omega arith))
same_pointwise (b ∷ k) (d ∷ s) = rw (same_pointwise k s) (go (eqb d b) (eqb (length s) (length k)) (begins k s) ∙ rw (swapped_suc (length s) (length k)))
  where
    go : (t u w : Bool) → (t && (u && w)) ≡ (u && (t && w))
    go true u w = refl
    go false true w = refl
    go false false w = refl

    swapped_suc : (m n : ℕ) → eqb (suc m) (suc n) ≡ eqb m n
    swapped_suc m n = grind (arith, nat_tests)

-- a text that starts with k, of k's length
pub begins_is : (k s : List ℕ) → length s ≡ length k → begins k s ≡ true → k ≡ s
unfolding begins
begins_is [] [] l e = refl
begins_is [] (b ∷ s) l e = absurd (omega (arith, l))
begins_is (b ∷ k) [] l e = absurd (omega (arith, l))
begins_is (b ∷ k) (d ∷ s) l e =
    let h = (and-eq-true_iff (eqb d b) (begins k s)).0 e in
    rw (eqb-true d b h.0, begins_is k s (omega (arith, l)) h.1)

-- a text that was found to be k
pub same_is : (k s : List ℕ) → same k s ≡ true → k ≡ s
same_is k s e = let h = (and-eq-true_iff (eqb (length s) (length k)) (begins k s)).0 e in begins_is k s (eqb-true _ _ h.0) h.1

-- a text starts with itself and is itself
pub begins_self : (k : List ℕ) → begins k k ≡ true
unfolding begins
begins_self [] = refl
begins_self (b ∷ k) = rw (eq-eqb b b refl, begins_self k)

pub same_self : (k : List ℕ) → same k k ≡ true
same_self k = rw (eq-eqb (length k) (length k) refl, begins_self k)
