-- Terms merged in place: a word looked for among the rows merged so far, one row, a turn of the loop, and the public step. Assumes nothing.
use mathlib.Core.Path.{◌≡◌, refl, sym, ap, ◌∙◌, subst}
use mathlib.Core.Bool.{Bool, true, false, cond, ◌||◌}
use mathlib.Core.List.{List, [], ◌∷◌, ◌++◌}
use Prim.Native.Nat.{ℕ, zero, suc, ◌+◌, ◌*◌, ◌≤◌, ◌<◌, zero-le, suc-le-suc}
use native.Mathlib.Nat.{le_of_suc-le-suc, not-suc-le-zero, mul-le-mul_right}
use native.Mathlib.Omega.{arith}
use lib.ListN.{length, get_or, set}
use lib.Ieee.{Float}
use borrow.Author.Tests.{le-leb}
use Rattle.words.specs.Keys.{Key, same_key}
use Rattle.words.proofs.KeyLaws.{same_key_eq, same_key_refl}
use Rattle.std.specs.Prelude.{Option, Some, None}
use Rattle.terms.specs.Lists.{tab, foldl}
use Rattle.terms.specs.Coefficient.{plus_of}
use Rattle.numbers.specs.Constants.{zero64}
use Rattle.terms.specs.Branch.{first, or_at, row_of}
use Rattle.terms.specs.Start.{share, coalesced}
use Rattle.terms.specs.Term.{Term, term, no_term, is_in, add_to}
use Rattle.terms.proofs.FirstLaws.{first_at, first_nothing, first_ext}
use Rattle.terms.proofs.ListLaws.{fold_tab}
use Rattle.words.specs.Rows.{key_at}
use Rattle.rows.specs.Rows.{coeff_at, term_at, terms_in, rows_in, put_key, copied_row, Holds, Room, Stepped}
use Rattle.branches.specs.Started.{shared_words, shared_coeffs, shared_count, SharedRow}
use Rattle.rows.specs.Cleared.{Cleared}
use Rattle.rows.proofs.RowLaws.{length_key, key_put_other, val_put_other}
use Rattle.rows.proofs.RowAccess.{copied_in}
use Rattle.rows.proofs.HoldLaws.{hold_start, hold_count, hold_at, hold_val, hold_push, hold_room, room_at}
use Rattle.rows.proofs.StepLaws.{room_no, stepped_held, unstepped}
use Rattle.rows.proofs.ClearLaws.{stepped_cleared}
use Rattle.branches.specs.declared.Sought.TheVariants.{Same}
use Rattle.branches.specs.Chains.{Indexed}
use Rattle.branches.proofs.FileLaws.{index_kept}

-- ---- the first index that passes a test comes before every other

least_or : (p : ℕ → Bool) (n j : ℕ) (f : Option ℕ) (b : Bool) → first p n ≡ f → or_at f b n ≡ Some j → (first p n ≡ Some j → (l : ℕ) → l < j → p l ≡ false) → (l : ℕ) → l < j → p l ≡ false
least_or p n j (Some i) b e q ih l h = ih (e ∙ q) l h
least_or p n j None true e q ih l h = let same : n ≡ j = cc in first_nothing p n e l (omega arith)
least_or p n j None false e q ih l h = absurd (let z : ◌≡◌ {A = ℕ} 0 1 = cc in omega arith)

first_least : (p : ℕ → Bool) (n j : ℕ) → first p n ≡ Some j → (l : ℕ) → l < j → p l ≡ false
unfolding first
first_least p zero j e l h = absurd (let z : ◌≡◌ {A = ℕ} 0 1 = cc in omega arith)
first_least p (suc n) j e l h = least_or p n j (first p n) (p n) refl e (first_least p n j) l h

-- ---- a word among terms

same_back : (a b : Key) → same_key a b ≡ true → same_key b a ≡ true
same_back a b h = subst (λ (x : Key). same_key b x ≡ true) (sym (same_key_eq a b h)) (same_key_refl b)

differ_back : (a b : Key) → same_key a b ≡ false → same_key b a ≡ false
differ_back a b h = go (same_key b a) refl
  where
    go : (t : Bool) → same_key b a ≡ t → t ≡ false
    go true e = sym (same_back b a e) ∙ h
    go false e = refl

or_true : (b : Bool) → b || true ≡ true
or_true true = refl
or_true false = refl

module _ (k : Key) where
  in_at : (ts : List Term) (j : ℕ) → j < length ts → same_key k (get_or ts j no_term).key ≡ true → is_in k ts ≡ true
  unfolding is_in
  in_at [] j h t = absurd (not-suc-le-zero h)
  in_at (x ∷ ts) zero h t = ap (λ (b : Bool). b || is_in k ts) t
  in_at (x ∷ ts) (suc j) h t = ap (λ (b : Bool). same_key k x.key || b) (in_at ts j (le_of_suc-le-suc h) t) ∙ or_true (same_key k x.key)

  in_none : (ts : List Term) → ((l : ℕ) → l < length ts → same_key k (get_or ts l no_term).key ≡ false) → is_in k ts ≡ false
  unfolding is_in
  in_none [] f = refl
  in_none (x ∷ ts) f = λ i. f zero (suc-le-suc zero-le) i || in_none ts (λ l b. f (suc l) (suc-le-suc b)) i

module _ (k : Key) (c : Float) where
  add_at : (ts : List Term) (j : ℕ) → j < length ts → same_key k (get_or ts j no_term).key ≡ true → ((l : ℕ) → l < j → same_key k (get_or ts l no_term).key ≡ false)
      → add_to k c ts ≡ set ts j (term (get_or ts j no_term).key (plus_of (get_or ts j no_term).coeff c))
  unfolding add_to
  add_at [] j h t f = absurd (not-suc-le-zero h)
  add_at (x ∷ ts) zero h t f = ap (λ (b : Bool). cond b (term x.key (plus_of x.coeff c) ∷ ts) (x ∷ add_to k c ts)) t
  add_at (x ∷ ts) (suc j) h t f =
      ap (λ (b : Bool). cond b (term x.key (plus_of x.coeff c) ∷ ts) (x ∷ add_to k c ts)) (f zero (suc-le-suc zero-le))
      ∙ ap (λ (l : List Term). x ∷ l) (add_at ts j (le_of_suc-le-suc h) t (λ l b. f (suc l) (suc-le-suc b)))

  add_new : (ts : List Term) (d : Float) → ((l : ℕ) → l < length ts → same_key k (get_or ts l no_term).key ≡ false)
      → add_to k c (ts ++ (term k d ∷ [])) ≡ ts ++ (term k (plus_of d c) ∷ [])
  unfolding add_to
  add_new [] d f = ap (λ (b : Bool). cond b (term k (plus_of d c) ∷ []) (term k d ∷ [])) (same_key_refl k)
  add_new (x ∷ ts) d f =
      ap (λ (b : Bool). cond b (term x.key (plus_of x.coeff c) ∷ (ts ++ (term k d ∷ []))) (x ∷ add_to k c (ts ++ (term k d ∷ [])))) (f zero (suc-le-suc zero-le))
      ∙ ap (λ (l : List Term). x ∷ l) (add_new ts d (λ l b. f (suc l) (suc-le-suc b)))

module _ (ts : List Term) (t : Term) where
  pub share_at : (j : ℕ) → row_of (length ts) t.key ts ≡ Some j
      → share ts t ≡ set ts j (term (get_or ts j no_term).key (plus_of (get_or ts j no_term).coeff t.coeff))
  unfolding share
  share_at j e =
      let p : ℕ → Bool = λ l. same_key (get_or ts l no_term).key t.key in
      let f = first_at p (length ts) j e in
      let here : same_key t.key (get_or ts j no_term).key ≡ true = same_back (get_or ts j no_term).key t.key f.1 in
      ap (λ (b : Bool). add_to t.key t.coeff (cond b ts (ts ++ (term t.key zero64 ∷ [])))) (in_at t.key ts j f.0 here)
      ∙ add_at t.key t.coeff ts j f.0 here (λ l h. differ_back (get_or ts l no_term).key t.key (first_least p (length ts) j e l h))

  pub share_new : row_of (length ts) t.key ts ≡ None → share ts t ≡ ts ++ (term t.key (plus_of zero64 t.coeff) ∷ [])
  unfolding share
  share_new e =
      let none : (l : ℕ) → l < length ts → same_key t.key (get_or ts l no_term).key ≡ false =
      λ l h. differ_back (get_or ts l no_term).key t.key (first_nothing (λ j. same_key (get_or ts j no_term).key t.key) (length ts) e l h) in
      ap (λ (b : Bool). add_to t.key t.coeff (cond b ts (ts ++ (term t.key zero64 ∷ [])))) (in_none t.key ts none)
      ∙ add_new t.key t.coeff ts zero64 none

-- ---- the rows

-- the rows before row i are merged, those from row i on are as they were
pub record Merging (s n : ℕ) (ws₀ ws : List ℕ) (cs₀ cs : List Float) (m i : ℕ) : Type 0 where
  pub held : Holds s n m (coalesced (terms_in s i ws₀ cs₀)) ws₀ ws cs₀ cs
  pub todo : (j : ℕ) → i ≤ j → term_at s ws cs j ≡ term_at s ws₀ cs₀ j
  pub few : m ≤ i

pub merge_start : (s n : ℕ) (ws : List ℕ) (cs : List Float) → Merging s n ws ws cs cs 0 0
unfolding tab foldl
merge_start s n ws cs = record { held = hold_start s n 0 ws cs; todo = λ j h. refl; few = omega arith }

module _ {s n : ℕ} {ws₀ ws : List ℕ} {cs₀ cs : List Float} {m i : ℕ} (C : Merging s n ws₀ ws cs₀ cs m i) (room : Room s n ws₀ cs₀) (h : i < n) where
  abbrev t : Term
  t = term_at s ws cs i

  abbrev old : List Term
  old = coalesced (terms_in s i ws₀ cs₀)

  -- the search over the rows is the search over the terms
  search_same : row_of (length old) t.key old ≡ first (λ j. same_key (key_at s ws j) (key_at s ws i)) m
  search_same =
      ap (λ (c : ℕ). row_of c t.key old) (hold_count C.held)
      ∙ first_ext (λ j. same_key (get_or old j no_term).key t.key) (λ j. same_key (key_at s ws j) (key_at s ws i)) m
      (λ j l. ap (λ (u : Term). same_key u.key t.key) (hold_at C.held j l))

  next : coalesced (terms_in s (i + 1) ws₀ cs₀) ≡ share old t
  next = fold_tab share [] (term_at s ws₀ cs₀) i ∙ ap (share old) (sym (C.todo i (omega arith)))

  merge_go : (f : Option ℕ) → first (λ j. same_key (key_at s ws j) (key_at s ws i)) m ≡ f → (ws' : List ℕ) (cs' : List Float) (r : ℕ)
      → ws' ≡ shared_words s i m ws f → cs' ≡ shared_coeffs i m cs f → r ≡ shared_count m f → Merging s n ws₀ ws' cs₀ cs' r (i + 1)
  merge_go (Some j) e ws' cs' r ew ec er =
      let few = C.few in
      let now : Room s n ws cs = hold_room C.held room in
      let at = (first_at (λ j. same_key (key_at s ws j) (key_at s ws i)) m j e).0 in
      let v : Float = plus_of (coeff_at cs j) (coeff_at cs i) in
      let after : coalesced (terms_in s (i + 1) ws₀ cs₀) ≡ set old j (term (key_at s ws j) v) =
      next ∙ share_at old t j (search_same ∙ e)
      ∙ ap (λ (u : Term). set old j (term u.key (plus_of u.coeff (coeff_at cs i)))) (hold_at C.held j at) in
      rw (ew, ec, er) (record {
        held = rw after (hold_val C.held now (omega arith) j at v);
        todo = λ l b. (λ k. record { key = key_at s ws l; coeff = val_put_other cs j l v (λ q. omega arith) k }) ∙ C.todo l (omega arith);
        few = omega arith;
      })
  merge_go None e ws' cs' r ew ec er =
      let few = C.few in
      let now : Room s n ws cs = hold_room C.held room in
      let whole : length (key_at s ws i) ≡ s = length_key s ws i (room_at now i h).0 in
      let at-m = (room_at now m (omega arith)).0 in
      let v : Float = plus_of zero64 (coeff_at cs i) in
      let after : coalesced (terms_in s (i + 1) ws₀ cs₀) ≡ old ++ (term (key_at s ws i) v ∷ []) = next ∙ share_new old t (search_same ∙ e) in
      rw (ew, ec, er) (record {
        held = rw after (hold_push C.held now (omega arith) (term (key_at s ws i) v) whole);
        todo = λ l b. (λ k. record { key = key_put_other s ws m (key_at s ws i) at-m whole l (λ q. omega arith) k; coeff = val_put_other cs m l v (λ q. omega arith) k }) ∙ C.todo l (omega arith);
        few = omega arith;
      })

  pub merge_turn : {ws' : List ℕ} {cs' : List Float} {r : ℕ}
      → SharedRow s i m (first (λ j. same_key (key_at s ws j) (key_at s ws i)) m) r ws ws' cs cs' → Merging s n ws₀ ws' cs₀ cs' r (i + 1)
  merge_turn {ws'} {cs'} {r} S = merge_go (first (λ j. same_key (key_at s ws j) (key_at s ws i)) m) refl ws' cs' r S.words S.coeffs S.count

-- ---- one row

pub new_key : (s i m : ℕ) (ws : List ℕ) {ws' : List ℕ} → m ≤ i → i * s + s ≤ length ws → ws' ≡ copied_row s ws i m → ws' ≡ put_key s ws m (key_at s ws i)
new_key s i m ws h r e = e ∙ copied_in s ws i m r (let k : m * s ≤ i * s = mul-le-mul_right s h in omega arith)

pub found_below : (s i m : ℕ) (ws : List ℕ) (j : ℕ) {f : Option ℕ} → f ≡ first (λ j. same_key (key_at s ws j) (key_at s ws i)) m → f ≡ Some j → j < m
found_below s i m ws j e q = (first_at (λ j. same_key (key_at s ws j) (key_at s ws i)) m j (sym e ∙ q)).0

-- the index of the first m rows, with another row m
pub index_shared : (w i m : ℕ) (buckets : Option ℕ) (ix ws : List ℕ) {vs : List ℕ} → m ≤ i → i * (2 * w) + 2 * w ≤ length ws → vs ≡ put_key (2 * w) ws m (key_at (2 * w) ws i)
    → Indexed Same w ws m buckets ix → Indexed Same w vs m buckets ix
index_shared w i m buckets ix ws {vs} le room e I =
    let before = mul-le-mul_right (2 * w) le in
    let whole = length_key (2 * w) ws i room in
    index_kept Same w m buckets ws vs ix
    (λ j h. ap (λ (l : List ℕ). key_at (2 * w) l j) e ∙ key_put_other (2 * w) ws m (key_at (2 * w) ws i) (omega arith) whole j (λ q. omega arith)) I

-- ---- the public step

module _ (w n : ℕ) {ws : List ℕ} {cs : List Float} where
  pub coalesced_none : n ≡ 0 → Stepped w n n n (coalesced (terms_in (2 * w) n ws cs)) n ws ws cs cs
  unfolding tab foldl
  coalesced_none z = rw z (stepped_held w 0 0 (le-leb 0 (rows_in w ws cs) (omega arith)) (omega arith) (hold_start (2 * w) 0 0 ws cs))

  pub coalesced_past : {r : ℕ} → r ≡ rows_in w ws cs → r < n → Stepped w n n n (coalesced (terms_in (2 * w) n ws cs)) n ws ws cs cs
  coalesced_past q h = unstepped w n n n (coalesced (terms_in (2 * w) n ws cs)) ws cs (room_no w n ws cs q h)

  pub coalesced_done : {r m : ℕ} {ws₁ ws₂ : List ℕ} {cs₁ cs₂ : List Float} → r ≡ rows_in w ws cs → n ≤ r
      → Holds (2 * w) n m (coalesced (terms_in (2 * w) n ws cs)) ws ws₁ cs cs₁ × (m ≤ n) → Cleared w m n ws₁ ws₂ cs₁ cs₂
      → Stepped w n n n (coalesced (terms_in (2 * w) n ws cs)) m ws ws₂ cs cs₂
  coalesced_done q h K C = stepped_cleared w n K.0 n K.1 (rw (← q) h) C
