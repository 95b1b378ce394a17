-- Where the words are distinct, the rotation done in place, row after row, is the rotation from the old values, and keeps them distinct. Assumes nothing.
use mathlib.Core.Path.{◌≡◌, refl, sym, ap, ◌∙◌}
use mathlib.Core.Logic.{◌⊎◌, inl, inr, ⊎_elim}
use mathlib.Core.Bool.{Bool, true, false, not, cond, true≢false}
use mathlib.Core.List.{List, [], ◌∷◌, ◌++◌, map, append_assoc, append-nil}
use mathlib.Core.Option as O
use Prim.Native.Nat.{ℕ, zero, suc, min, ◌≤◌, ◌<◌}
use native.Mathlib.Nat.{le_refl}
use native.Mathlib.Omega.{arith}
use lib.Dec.{ltb, eqb}
use lib.ListN.{length, get_or, set, take, length-set, get_or-append}
use lib.Seq.{set-append_left, take-suc, take-length, ext_get_or}
use lib.Ieee.{Float}
use borrow.Author.Tests.{lt-ltb, le-ltb, eq-eqb, ne_eqb}
use Rattle.numbers.specs.Tests.{is_zero}
use Rattle.words.specs.Keys.{Key, same_key}
use Rattle.words.proofs.KeyLaws.{same_key_sym, same_key_eq}
use Rattle.std.specs.Prelude.{Option, Some, None}
use Rattle.terms.specs.Coefficient.{scaled_of}
use Rattle.terms.specs.Lists.{tab, All}
use Rattle.terms.specs.Term.{odd_y, Term, term, no_term, Distinct, find}
use Rattle.terms.specs.Rotation.{scaled_met, flipped_term, mixed, turned_term, appended_term, turned_row, appended_rows, rotated}
use Rattle.terms.specs.Branch.{first, row_of, branch_pair, branch_lone, branch_by, branch_row, branch_to, branched}
use Rattle.terms.proofs.CaseLaws.{cond_holds, same_test, lt_or_le, eq_or_ne, bool_cases}
use Rattle.terms.proofs.StepLaws.{appended_of, row_cases, rotated_keeps}
use Rattle.terms.proofs.ListLaws.{length_tab, get_d_tab, tab_ext, tab_set, map_tab}
use Rattle.terms.proofs.FirstLaws.{or_later, first_cons, first_ext, first_at, first_nothing}
use Rattle.terms.proofs.AllLaws.{all_at, all_of, all_every, all_imp, all_and, all_map}
use Rattle.terms.proofs.DistinctLaws.{Other, other_key, Apart, apart_of, distinct_of, distinct_append, distinct_map, same_distinct, map_keys, cond_key}

-- ---- the first row that has a word, and its coefficient

abbrev pub coeff_of : List Term → Option ℕ → O.Option Float
coeff_of ts (Some j) = O.some (get_or ts j no_term).coeff
coeff_of ts None = O.none

pub find_row : (k : Key) (ts : List Term) → find k ts ≡ coeff_of ts (row_of (length ts) k ts)
unfolding find first
find_row k [] = refl
find_row k (t ∷ ts) =
    (λ i. cond (same_key_sym k t.key i) (O.some t.coeff) (find_row k ts i))
    ∙ go (same_key t.key k) (row_of (length ts) k ts)
    ∙ ap (coeff_of (t ∷ ts)) (sym (first_cons (λ j. same_key (get_or (t ∷ ts) j no_term).key k) (length ts)))
  where
    go : (b : Bool) (f : Option ℕ) → cond b (O.some t.coeff) (coeff_of ts f) ≡ coeff_of (t ∷ ts) (or_later b f)
    go true f = refl
    go false (Some j) = refl
    go false None = refl

pub row_nothing : (k : Key) (ts : List Term) → find k ts ≡ O.none → row_of (length ts) k ts ≡ None
row_nothing k ts e = go (row_of (length ts) k ts) (sym (find_row k ts) ∙ e)
  where
    go : (f : Option ℕ) → coeff_of ts f ≡ O.none → f ≡ None
    go (Some j) e = absurd (let z : ◌≡◌ {A = ℕ} 0 1 = cc in omega arith)
    go None e = refl

-- no term has a word that is not found
pub find_other : (k : Key) (ts : List Term) → find k ts ≡ O.none → All (Other k) ts
find_other k ts e =
    all_of (Other k) ts no_term
    (λ i h q. other_key (get_or ts i no_term).key k (first_nothing (λ j. same_key (get_or ts j no_term).key k) (length ts) (row_nothing k ts e) i h) (sym q))

-- a term whose word is found
abbrev Held : List Term → Term → Type 0
Held ts t = (k : Key) → find k ts ≡ O.none → Other k t

members : (ts : List Term) → All (Held ts) ts
members ts = all_of _ ts no_term (λ i h k e. all_at (Other k) ts i no_term h (find_other k ts e))

-- ---- what was found, and two stores

found_cases : (f : Option ℕ) → ((p : ℕ) × (f ≡ Some p)) ⊎ (f ≡ None)
found_cases (Some p) = inl (p, refl)
found_cases None = inr refl

at_not_none : (f : Option ℕ) (j : ℕ) → f ≡ Some j → f ≡ None → ⊥
at_not_none f j a b = let z : ◌≡◌ {A = ℕ} 0 1 = cc in omega arith

at_inj : (f : Option ℕ) (p q : ℕ) → f ≡ Some p → f ≡ Some q → p ≡ q
at_inj f p q a b = cc

-- g is f but for a at i and b at p
tab_set2 : {A : Type 0} (n : ℕ) (f g : ℕ → A) (i p : ℕ) (a b : A) → i < n → p < n → (p ≡ i → ⊥) → g i ≡ a → g p ≡ b
    → ((j : ℕ) → j < n → (j ≡ i → ⊥) → (j ≡ p → ⊥) → g j ≡ f j) → tab n g ≡ set (set (tab n f) i a) p b
tab_set2 n f g i p a b hi hp ne gi gp o =
    let h : ℕ → _ = λ j. cond (eqb j i) a (f j) in
    let one : tab n h ≡ set (tab n f) i a = tab_set n f h i a hi (rw (eq-eqb i i refl)) (λ j l q. rw (ne_eqb j i q)) in
    tab_set n h g p b hp gp (λ j l q. ⊎_elim (λ (e : j ≡ i). rw (eq-eqb j i e, e) gi) (λ (d : j ≡ i → ⊥). rw (ne_eqb j i d) (o j l d q)) (eq_or_ne j i))
    ∙ ap (λ (l : List _). set l p b) one

-- a word whose partner is another word, with the same answer to whether it is met, with this word for its partner and, where it is met, with the
-- other parity of Y letters
pub record Paired (w : ℕ) (met : Key → Bool) (partner : Key → Key) (k : Key) : Type 0 where
  pub back : partner (partner k) ≡ k
  pub moves : partner k ≡ k → ⊥
  pub keeps : met (partner k) ≡ met k
  pub other : met k ≡ true → odd_y w (partner k) ≡ not (odd_y w k)

-- ---- the words after the rotation from the old values

module _ (w : ℕ) (met : Key → Bool) (partner : Key → Key) (sin cos : Float) where
  -- a row keeps its word, or has its partner's where no term had it and the cosine is 0
  abbrev pub TurnedKey : List Term → Term → Term → Type 0
  TurnedKey old t u = (u.key ≡ t.key) ⊎ ((is_zero cos ≡ true) × ((find (partner t.key) old ≡ O.none) × (u.key ≡ partner t.key)))

  pub turned_key : (old : List Term) (t : Term) → TurnedKey old t (turned_row w met partner sin cos old t)
  turned_key old t = row_cases w met partner sin cos old t (λ u l. TurnedKey old t u) (λ m. inl refl) (λ d m e. inl refl) (λ m e z. inr (z, (e, refl))) (λ m e z. inl refl)

  -- what a row appends: nothing, or its partner's word where no term had it and the cosine is not 0
  pub appended_cases : (p : List Term → Type 0) (old : List Term) (t : Term) → p []
      → (is_zero cos ≡ false → find (partner t.key) old ≡ O.none → p (flipped_term w met partner sin cos t ∷ []))
      → p (appended_of w met partner sin cos old t)
  appended_cases p old t x y = row_cases w met partner sin cos old t (λ u l. p l) (λ m. x) (λ d m e. x) (λ m e z. x) (λ m e z. y z e)

  pub appended_all : (p : Term → Type 0) (old ts : List Term)
      → All (λ t. is_zero cos ≡ false → find (partner t.key) old ≡ O.none → p (flipped_term w met partner sin cos t)) ts
      → All p (appended_rows w met partner sin cos old ts)
  unfolding appended_rows
  appended_all p old [] x = tt
  appended_all p old (t ∷ ts) x =
      let more = appended_all p old ts x.1 in
      appended_cases (λ l. All p (l ++ appended_rows w met partner sin cos old ts)) old t more (λ z e. (x.0 z e, more))

  abbrev Back : Term → Type 0
  Back t = partner (partner t.key) ≡ t.key

  appended_apart : (old ts : List Term) → All Back ts → Apart ts → Apart (appended_rows w met partner sin cos old ts)
  unfolding appended_rows
  appended_apart old [] x a = tt
  appended_apart old (t ∷ ts) x a =
      let more = appended_apart old ts x.1 a.1 in
      appended_cases (λ l. Apart (l ++ appended_rows w met partner sin cos old ts)) old t more
      (λ z e. (
        appended_all (Other (partner t.key)) old ts
            (all_imp _ _ ts (λ u y z e q. y.1 (sym x.0 ∙ ap partner q ∙ y.0)) (all_and Back (Other t.key) ts x.1 a.0)),
        more,
      ))

  turned_apart : (old : List Term) (t u : Term) → Back t × Held old t → Back u × Held old u
      → (turned_row w met partner sin cos old t).key ≡ (turned_row w met partner sin cos old u).key → t.key ≡ u.key
  turned_apart old t u x y e = go (turned_key old t) (turned_key old u)
    where
      go : TurnedKey old t (turned_row w met partner sin cos old t) → TurnedKey old u (turned_row w met partner sin cos old u) → t.key ≡ u.key
      go (inl p) (inl q) = sym p ∙ e ∙ q
      go (inl p) (inr q) = absurd (x.1 (partner u.key) q.1.0 (sym q.1.1 ∙ sym e ∙ p))
      go (inr p) (inl q) = absurd (y.1 (partner t.key) p.1.0 (sym p.1.1 ∙ e ∙ q))
      go (inr p) (inr q) = sym x.0 ∙ ap partner (sym p.1.1 ∙ e ∙ q.1.1) ∙ y.0

  pub rotated_distinct : (ts : List Term) → All (λ t. partner (partner t.key) ≡ t.key) ts → Distinct ts → Distinct (rotated w met partner sin cos ts)
  unfolding rotated
  rotated_distinct ts back D =
      cond_holds Distinct (is_zero sin)
      (same_distinct ts _ (map_keys (scaled_met w met partner sin cos) (λ t. cond_key (met t.key) t.key _ t refl) ts) D)
      (distinct_append (map (turned_row w met partner sin cos ts) ts) (appended_rows w met partner sin cos ts ts)
      (distinct_map _ (turned_row w met partner sin cos ts) (turned_apart ts) ts (all_and Back (Held ts) ts back (members ts)) D)
      (distinct_of (appended_rows w met partner sin cos ts ts) (appended_apart ts ts back (apart_of ts D)))
      (all_map (Held ts) _ (turned_row w met partner sin cos ts) ts
      (λ t x. appended_all (Other (turned_row w met partner sin cos ts t).key) ts ts (all_every _ ts (λ s. new t s x))) (members ts)))
    where
      -- no row has an appended word
      new : (t s : Term) → Held ts t → is_zero cos ≡ false → find (partner s.key) ts ≡ O.none
          → Other (turned_row w met partner sin cos ts t).key (flipped_term w met partner sin cos s)
      new t s x z e q = ⊎_elim (λ k. x (partner s.key) e (sym q ∙ k)) (λ k. true≢false (sym k.0 ∙ z)) (turned_key ts t)

  -- a property of terms that a term with the same word has, and one with the partner's
  pub rotated_all : (p : Term → Type 0) (ts : List Term) → ((t u : Term) → t.key ≡ u.key → p t → p u) → ((t u : Term) → partner t.key ≡ u.key → p t → p u)
      → All p ts → All p (rotated w met partner sin cos ts)
  rotated_all p ts same turn =
      rotated_keeps w met partner sin cos p p ts (λ t h. h) (λ t h m. same t _ refl h) (λ t h m. turn t _ refl h) (λ t d h m e. same t _ refl h)

  appended_append : (old ts us : List Term) → appended_rows w met partner sin cos old (ts ++ us) ≡ appended_rows w met partner sin cos old ts ++ appended_rows w met partner sin cos old us
  unfolding appended_rows
  appended_append old [] us = refl
  appended_append old (t ∷ ts) us =
      let head = cond (met t.key) (appended_term w met partner sin cos t (find (partner t.key) old)) [] in
      ap (λ (l : List Term). head ++ l) (appended_append old ts us)
      ∙ sym (append_assoc head (appended_rows w met partner sin cos old ts) (appended_rows w met partner sin cos old us))

-- ---- in place

module _ (w : ℕ) (met : Key → Bool) (partner : Key → Key) (sin cos : Float) (ts : List Term) (pairs : All (λ t. Paired w met partner t.key) ts) (differ : Distinct ts) where
  abbrev count : ℕ
  count = length ts

  abbrev old : ℕ → Term
  old j = get_or ts j no_term

  abbrev word : ℕ → Key
  word j = (old j).key

  -- the row of the partner of row j
  unfoldable mate : ℕ → Option ℕ
  mate j = row_of count (partner (word j)) ts

  paired_at : (j : ℕ) → j < count → Paired w met partner (word j)
  paired_at j h = all_at (λ t. Paired w met partner t.key) ts j no_term h pairs

  one_row : (i j : ℕ) → i < count → j < count → word i ≡ word j → i ≡ j
  unfolding Distinct
  one_row = differ

  mate_at : (j p : ℕ) → mate j ≡ Some p → (p < count) × (word p ≡ partner (word j))
  unfolding mate
  mate_at j p e = let r = first_at (λ l. same_key (word l) (partner (word j))) count p e in (r.0, same_key_eq (word p) (partner (word j)) r.1)

  mate_none : (j l : ℕ) → l < count → mate j ≡ None → word l ≡ partner (word j) → ⊥
  unfolding mate
  mate_none j l h e = other_key (word l) (partner (word j)) (first_nothing (λ l. same_key (word l) (partner (word j))) count e l h)

  mate_back : (j p : ℕ) → j < count → mate j ≡ Some p → mate p ≡ Some j
  mate_back j p h e =
      let its : word j ≡ partner (word p) = sym (ap partner (mate_at j p e).1 ∙ (paired_at j h).back) in
      ⊎_elim
      (λ (r : (l : ℕ) × (mate p ≡ Some l)). let s = mate_at p r.0 r.1 in r.1 ∙ ap Some (one_row r.0 j s.0 h (s.1 ∙ sym its)))
      (λ (q : mate p ≡ None). absurd (mate_none p j h q its))
      (found_cases (mate p))

  mate_self : (j : ℕ) → j < count → mate j ≡ Some j → ⊥
  mate_self j h e = (paired_at j h).moves (sym (mate_at j j e).1)

  -- ---- the rows when i of them have had their turn: a pair is done at the turn of the earlier of its rows

  -- row j from the old values
  unfoldable turned : ℕ → Term
  turned j = turned_row w met partner sin cos ts (old j)

  turned_unmet : (j : ℕ) → met (word j) ≡ false → turned j ≡ old j
  unfolding turned
  turned_unmet j u = rw u

  turned_met : (j : ℕ) (f : Option ℕ) → met (word j) ≡ true → mate j ≡ f → turned j ≡ turned_term w met partner sin cos (old j) (coeff_of ts f)
  unfolding turned mate
  turned_met j f m e =
      ap (λ (b : Bool). cond b (turned_term w met partner sin cos (old j) (find (partner (word j)) ts)) (old j)) m
      ∙ ap (turned_term w met partner sin cos (old j)) (find_row (partner (word j)) ts ∙ ap (coeff_of ts) e)

  -- the row at whose turn row j is done
  abbrev lead_of : ℕ → Option ℕ → ℕ
  lead_of j (Some p) = min j p
  lead_of j None = j

  unfoldable lead : ℕ → ℕ
  lead j = lead_of j (mate j)

  lead_is : (j : ℕ) (f : Option ℕ) → mate j ≡ f → lead j ≡ lead_of j f
  unfolding lead
  lead_is j f e = ap (lead_of j) e

  lead_le : (j : ℕ) → lead j ≤ j
  unfolding lead
  lead_le j = go (mate j)
    where
      go : (f : Option ℕ) → lead_of j f ≤ j
      go (Some p) = omega arith
      go None = omega arith

  lead_row : (i j : ℕ) → lead j ≡ i → (j ≡ i) ⊎ (mate j ≡ Some i)
  lead_row i j e = go (mate j) refl
    where
      go : (f : Option ℕ) → mate j ≡ f → (j ≡ i) ⊎ (mate j ≡ Some i)
      go (Some p) q = let l = lead_is j (Some p) q in ⊎_elim (λ h. inl (omega arith)) (λ h. inr (q ∙ ap Some (omega arith))) (lt_or_le j p)
      go None q = inl (sym (lead_is j None q) ∙ e)

  -- row j when i rows have had their turn
  unfoldable row : ℕ → ℕ → Term
  row i j = cond (ltb (lead j) i) (turned j) (old j)

  row_done : (i j : ℕ) → lead j < i → row i j ≡ turned j
  unfolding row
  row_done i j h = rw (lt-ltb (lead j) i h)

  row_old : (i j : ℕ) → i ≤ lead j → row i j ≡ old j
  unfolding row
  row_old i j h = rw (le-ltb (lead j) i h)

  row_keep : (i j : ℕ) → (lead j ≡ i → ⊥) → row i j ≡ row (suc i) j
  row_keep i j d = ⊎_elim
      (λ (h : lead j < i). row_done i j h ∙ sym (row_done (suc i) j (omega arith)))
      (λ (h : i ≤ lead j). row_old i j h ∙ sym (row_old (suc i) j (omega arith)))
      (lt_or_le (lead j) i)

  row_unmet : (i j : ℕ) → met (word j) ≡ false → row i j ≡ old j
  row_unmet i j u = ⊎_elim (λ (h : lead j < i). row_done i j h ∙ turned_unmet j u) (λ (h : i ≤ lead j). row_old i j h) (lt_or_le (lead j) i)

  -- a row keeps its word but for one that is done, has no partner, and became it
  row_key : (i j : ℕ) → ((row i j).key ≡ word j) ⊎ ((mate j ≡ None) × ((j < i) × ((row i j).key ≡ partner (word j))))
  unfolding mate turned
  row_key i j = ⊎_elim
      (λ (h : lead j < i).
      let same = ap (λ (t : Term). t.key) (row_done i j h) in
      ⊎_elim
      (λ k. inl (same ∙ k))
      (λ k. let q = row_nothing (partner (word j)) ts k.1.0 in let l = lead_is j None q in inr (q, (omega arith, same ∙ k.1.1)))
      (turned_key w met partner sin cos ts (old j)))
      (λ (h : i ≤ lead j). inl (ap (λ (t : Term). t.key) (row_old i j h)))
      (lt_or_le (lead j) i)

  row_own : (i : ℕ) → (row i i).key ≡ word i
  row_own i = ⊎_elim (λ k. k) (λ k. let h = k.1.0 in absurd (omega arith)) (row_key i i)

  -- a row that became its partner is not what a later row looks for, nor was it before
  search_same : (i j : ℕ) → i < count → j < count → same_key (row i j).key (partner (word i)) ≡ same_key (word j) (partner (word i))
  search_same i j hi hj = ⊎_elim
      (λ k. ap (λ (l : Key). same_key l (partner (word i))) k)
      (λ k.
      let h = k.1.0 in
      same_test (same_key (row i j).key (partner (word i))) (same_key (word j) (partner (word i)))
      (λ t.
      let q = one_row j i hj hi (sym (paired_at j hj).back ∙ ap partner (sym k.1.1 ∙ same_key_eq (row i j).key (partner (word i)) t) ∙ (paired_at i hi).back) in
      absurd (omega arith))
      (λ t. absurd (mate_none j i hi k.0 (sym (ap partner (same_key_eq (word j) (partner (word i)) t) ∙ (paired_at i hi).back)))))
      (row_key i j)

  -- ---- one step

  -- what the first i rows append, and all rows when they have had their turn
  unfoldable appended : ℕ → List Term
  appended i = appended_rows w met partner sin cos ts (take i ts)

  unfoldable state : ℕ → List Term
  state i = tab count (row i) ++ appended i

  appended_suc : (i : ℕ) → i < count → (b : Bool) (f : Option ℕ) → met (word i) ≡ b → mate i ≡ f → appended (suc i) ≡ appended i ++ cond b (appended_term w met partner sin cos (old i) (coeff_of ts f)) []
  unfolding appended mate appended_rows
  appended_suc i h b f m e =
      ap (appended_rows w met partner sin cos ts) (take-suc ts i no_term h)
      ∙ appended_append w met partner sin cos ts (take i ts) (old i ∷ [])
      ∙ ap (λ (l : List Term). appended i ++ l) (append-nil _ ∙ (λ k. cond (m k) (appended_term w met partner sin cos (old i) ((find_row (partner (word i)) ts ∙ ap (coeff_of ts) e) k)) []))

  in_front : (i j : ℕ) → j < count → j < length (tab count (row i))
  in_front i j h = rw (length_tab count (row i)) h

  state_at : (i j : ℕ) → j < count → get_or (state i) j no_term ≡ row i j
  unfolding state
  state_at i j h = get_or-append (tab count (row i)) (appended i) no_term j (in_front i j h) ∙ get_d_tab count (row i) j no_term h

  state_key : (i : ℕ) → i < count → (get_or (state i) i no_term).key ≡ word i
  state_key i h = ap (λ (t : Term). t.key) (state_at i i h) ∙ row_own i

  state_find : (i : ℕ) → i < count → row_of count (partner (get_or (state i) i no_term).key) (state i) ≡ mate i
  unfolding mate
  state_find i h =
      first_ext (λ j. same_key (get_or (state i) j no_term).key (partner (get_or (state i) i no_term).key)) (λ j. same_key (word j) (partner (word i))) count
      (λ j l. (λ k. same_key (state_at i j l k).key (partner (state_key i h k))) ∙ search_same i j h l)

  step_as : (i : ℕ) → i < count → branch_row w met partner sin cos count i (state i) ≡ cond (met (word i)) (branch_by w met partner sin cos i (state i) (mate i)) (state i)
  unfolding branch_row
  step_as i h = λ k. cond (met (state_key i h k)) (branch_by w met partner sin cos i (state i) (state_find i h k)) (state i)

  -- the rows as they are after row i, with nothing appended
  stays : (i : ℕ) → ((j : ℕ) → j < count → lead j ≡ i → row i j ≡ row (suc i) j) → state i ≡ tab count (row (suc i)) ++ (appended i ++ [])
  unfolding state
  stays i e =
      λ k. tab_ext count (row i) (row (suc i)) (λ j l. ⊎_elim (λ (q : lead j ≡ i). e j l q) (λ (d : lead j ≡ i → ⊥). row_keep i j d) (eq_or_ne (lead j) i)) k
      ++ sym (append-nil (appended i)) k

  step_unmet : (i : ℕ) → i < count → met (word i) ≡ false → state i ≡ tab count (row (suc i)) ++ (appended i ++ [])
  step_unmet i h u = stays i (λ j l e.
      let v : met (word j) ≡ false = ⊎_elim
      (λ (q : j ≡ i). ap (λ (l : ℕ). met (word l)) q ∙ u)
      (λ (q : mate j ≡ Some i). sym (paired_at j l).keeps ∙ ap met (sym (mate_at j i q).1) ∙ u)
      (lead_row i j e) in
      row_unmet i j v ∙ sym (row_unmet (suc i) j v))

  -- a row without a partner is the only one done at its turn
  module _ (i : ℕ) (h : i < count) (m : met (word i) ≡ true) (e : mate i ≡ None) where
    own : get_or (state i) i no_term ≡ old i
    own = let l = lead_is i None e in state_at i i h ∙ row_old i i (omega arith)

    front_set : (t : Term) → turned_term w met partner sin cos (old i) O.none ≡ t → set (state i) i t ≡ tab count (row (suc i)) ++ appended i
    unfolding state
    front_set t q =
        let l = lead_is i None e in
        set-append_left (tab count (row i)) (appended i) i t (in_front i i h)
        ∙ ap (λ (l : List Term). l ++ appended i)
        (sym (tab_set count (row i) (row (suc i)) i t h (row_done (suc i) i (omega arith) ∙ turned_met i None m e ∙ q)
        (λ j l d. sym (row_keep i j (λ q. ⊎_elim d (λ (a : mate j ≡ Some i). at_not_none (mate i) j (mate_back j i l a) e) (lead_row i j q))))))

    step_lone : branch_lone w met partner sin cos i (state i) ≡ tab count (row (suc i)) ++ (appended i ++ appended_term w met partner sin cos (old i) O.none)
    step_lone = ⊎_elim
        (λ (z : is_zero cos ≡ true).
        rw z (ap (λ (t : Term). set (state i) i (flipped_term w met partner sin cos t)) own ∙ front_set _ (rw z) ∙ ap (λ (l : List Term). tab count (row (suc i)) ++ l) (sym (append-nil (appended i)))))
        (λ (z : is_zero cos ≡ false).
        rw z (ap (λ (t : Term). set (state i) i (term t.key (scaled_of cos t.coeff)) ++ (flipped_term w met partner sin cos t ∷ [])) own
        ∙ ap (λ (l : List Term). l ++ (flipped_term w met partner sin cos (old i) ∷ [])) (front_set _ (rw z))
        ∙ append_assoc (tab count (row (suc i))) (appended i) (flipped_term w met partner sin cos (old i) ∷ [])))
        (bool_cases (is_zero cos))

  -- a row with a partner
  module _ (i p : ℕ) (h : i < count) (m : met (word i) ≡ true) (e : mate i ≡ Some p) where
    abbrev mixed_at : ℕ → ℕ → Term
    mixed_at i p = term (word i) (mixed (odd_y w (word i)) sin cos (old i).coeff (old p).coeff)

    -- the earlier of the two
    pair_first : i < p → branch_pair w met partner sin cos i p (state i) ≡ tab count (row (suc i)) ++ (appended i ++ [])
    unfolding state
    pair_first lt =
        let hp : p < count = (mate_at i p e).0 in
        let eb : mate p ≡ Some i = mate_back i p h e in
        let mp : met (word p) ≡ true = ap met (mate_at i p e).1 ∙ (paired_at i h).keeps ∙ m in
        let li = lead_is i (Some p) e in
        let lp = lead_is p (Some i) eb in
        let own : get_or (state i) i no_term ≡ old i = state_at i i h ∙ row_old i i (omega arith) in
        let its : get_or (state i) p no_term ≡ old p = state_at i p hp ∙ row_old i p (omega arith) in
        let rows : tab count (row (suc i)) ≡ set (set (tab count (row i)) i (mixed_at i p)) p (mixed_at p i) =
        tab_set2 count (row i) (row (suc i)) i p (mixed_at i p) (mixed_at p i) h hp (λ q. omega arith)
        (row_done (suc i) i (omega arith) ∙ turned_met i (Some p) m e) (row_done (suc i) p (omega arith) ∙ turned_met p (Some i) mp eb)
        (λ j l d b. sym (row_keep i j (λ q. ⊎_elim d (λ (a : mate j ≡ Some i). b (at_inj (mate i) j p (mate_back j i l a) e)) (lead_row i j q)))) in
        rw (lt-ltb i p lt)
        ((λ k. set (set (state i) i (term (own k).key (mixed (odd_y w (own k).key) sin cos (own k).coeff (its k).coeff))) p (term (its k).key (mixed (not (odd_y w (own k).key)) sin cos (its k).coeff (own k).coeff)))
        ∙ ap (λ (o : Bool). set (set (state i) i (mixed_at i p)) p (term (word p) (mixed o sin cos (old p).coeff (old i).coeff))) (sym (ap (odd_y w) (mate_at i p e).1 ∙ (paired_at i h).other m))
        ∙ ap (λ (l : List Term). set l p (mixed_at p i)) (set-append_left (tab count (row i)) (appended i) i (mixed_at i p) (in_front i i h))
        ∙ set-append_left (set (tab count (row i)) i (mixed_at i p)) (appended i) p (mixed_at p i) (rw length-set (in_front i p hp))
        ∙ (λ k. sym rows k ++ sym (append-nil (appended i)) k))

    -- the later: no row is done at its turn
    pair_later : p ≤ i → branch_pair w met partner sin cos i p (state i) ≡ tab count (row (suc i)) ++ (appended i ++ [])
    pair_later le =
        let d : p ≡ i → ⊥ = λ q. mate_self i h (e ∙ ap Some q) in
        rw (le-ltb i p le) (stays i (λ j l q. absurd (⊎_elim
        (λ (a : j ≡ i). let s = lead_is j (Some p) (ap mate a ∙ e) in d (omega arith))
        (λ (a : mate j ≡ Some i). let s = lead_is j (Some i) a in let b = at_inj (mate i) j p (mate_back j i l a) e in d (omega arith))
        (lead_row i j q))))

    step_pair : branch_pair w met partner sin cos i p (state i) ≡ tab count (row (suc i)) ++ (appended i ++ [])
    step_pair = ⊎_elim pair_first pair_later (lt_or_le i p)

  -- ---- all of them

  step_cases : (i : ℕ) → i < count → (b : Bool) (f : Option ℕ) → met (word i) ≡ b → mate i ≡ f
      → cond b (branch_by w met partner sin cos i (state i) f) (state i) ≡ tab count (row (suc i)) ++ (appended i ++ cond b (appended_term w met partner sin cos (old i) (coeff_of ts f)) [])
  step_cases i h false f m e = step_unmet i h m
  step_cases i h true None m e = step_lone i h m e
  step_cases i h true (Some p) m e = step_pair i p h m e

  step : (i : ℕ) → i < count → branch_row w met partner sin cos count i (state i) ≡ state (suc i)
  unfolding state
  step i h =
      step_as i h ∙ step_cases i h (met (word i)) (mate i) refl refl ∙ ap (λ (l : List Term). tab count (row (suc i)) ++ l) (sym (appended_suc i h (met (word i)) (mate i) refl refl))

  tab_old : tab count old ≡ ts
  tab_old = ext_get_or no_term (tab count old) ts (length_tab count old) (λ j l. get_d_tab count old j no_term (rw length_tab at l))

  start : state 0 ≡ ts
  unfolding state appended appended_rows
  start = append-nil (tab count (row 0)) ∙ tab_ext count (row 0) old (λ j l. row_old 0 j (omega arith)) ∙ tab_old

  steps : (i : ℕ) → i ≤ count → branch_to w met partner sin cos count i ts ≡ state i
  unfolding branch_to
  steps zero h = sym start
  steps (suc i) h = ap (branch_row w met partner sin cos count i) (steps i (omega arith)) ∙ step i h

  in_place : branch_to w met partner sin cos count count ts ≡ map (turned_row w met partner sin cos ts) ts ++ appended_rows w met partner sin cos ts ts
  unfolding state appended turned
  in_place =
      steps count (le_refl count)
      ∙ (λ k. (tab_ext count (row count) turned (λ j l. row_done count j (omega (arith, lead_le j))) ∙ sym (map_tab count old (turned_row w met partner sin cos ts)) ∙ ap (map (turned_row w met partner sin cos ts)) tab_old) k
      ++ appended_rows w met partner sin cos ts (take-length ts k))

  pub branched_rotated : branched w met partner sin cos ts ≡ rotated w met partner sin cos ts
  unfolding branched rotated
  branched_rotated = ap (cond (is_zero sin) (map (scaled_met w met partner sin cos) ts)) in_place
