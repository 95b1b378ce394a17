-- Truncation: one row, a turn of the loop that moves the terms to keep together, and the public step. Assumes nothing.
use mathlib.Core.Path.{◌≡◌, refl, sym, ap, ◌∙◌}
use mathlib.Core.Bool.{Bool, true, false, cond}
use mathlib.Core.List.{List, [], ◌∷◌, ◌++◌, append-nil}
use Prim.Native.Nat.{ℕ, ◌+◌, ◌*◌, ◌≤◌, ◌<◌}
use native.Mathlib.Numerals.{add-one}
use native.Mathlib.Omega.{arith}
use lib.ListN.{length}
use lib.Ieee.{Float, binary64, add, lt}
use borrow.Author.Tests.{le-leb}
use Rattle.numbers.specs.Constants.{zero64}
use Rattle.terms.specs.Coefficient.{size_of}
use Rattle.terms.specs.Lists.{tab, foldl}
use Rattle.terms.specs.Term.{Term}
use Rattle.terms.specs.Truncation.{is_small, kept_of, add_dropped, dropped_of}
use Rattle.terms.proofs.ListLaws.{tab_snoc, fold_tab}
use Rattle.sums.specs.declared.Kept.{Kept}
use Rattle.words.specs.Rows.{key_at}
use Rattle.rows.specs.Rows.{coeff_at, term_at, terms_in, rows_in, put_coeff, put_key, Holds, Room}
use Rattle.sums.specs.Steps.{KeptRow, Truncated}
use Rattle.rows.specs.Cleared.{Cleared}
use Rattle.rows.proofs.RowLaws.{length_key, key_put_other, val_put_other}
use Rattle.rows.proofs.HoldLaws.{hold_start, hold_push, hold_room, room_at}
use Rattle.rows.proofs.StepLaws.{room_yes, room_no, stepped_held, unstepped}
use Rattle.rows.proofs.ClearLaws.{stepped_cleared}

keep_snoc : (e : Float) (l : List Term) (t : Term) → kept_of e (l ++ (t ∷ [])) ≡ kept_of e l ++ cond (is_small e t) [] (t ∷ [])
unfolding kept_of
keep_snoc e [] t = refl
keep_snoc e (x ∷ l) t = go (is_small e x) (keep_snoc e l t)
  where
    go : (b : Bool) {p : List Term} → p ≡ kept_of e l ++ cond (is_small e t) [] (t ∷ []) → cond b p (x ∷ p) ≡ cond b (kept_of e l) (x ∷ kept_of e l) ++ cond (is_small e t) [] (t ∷ [])
    go true h = h
    go false h = ap (λ (r : List Term). x ∷ r) h

keep_tab : (e : Float) (f : ℕ → Term) (n : ℕ) → kept_of e (tab (n + 1) f) ≡ kept_of e (tab n f) ++ cond (is_small e (f n)) [] (f n ∷ [])
keep_tab e f n = ap (λ (k : ℕ). kept_of e (tab k f)) (add-one n) ∙ ap (kept_of e) (tab_snoc n f) ∙ keep_snoc e (tab n f) (f n)

-- the rows before row i are done, those from row i on are as they were
pub record Compacted (s n : ℕ) (e : Float) (ws₀ ws : List ℕ) (cs₀ cs : List Float) (r : Kept) (i : ℕ) : Type 0 where
  pub held : Holds s n r.count (kept_of e (terms_in s i ws₀ cs₀)) ws₀ ws cs₀ cs
  pub todo : (j : ℕ) → i ≤ j → term_at s ws cs j ≡ term_at s ws₀ cs₀ j
  pub few : r.count ≤ i
  pub sum : r.dropped ≡ dropped_of e (terms_in s i ws₀ cs₀)

pub compact_start : (s n : ℕ) (e : Float) (ws : List ℕ) (cs : List Float) → Compacted s n e ws ws cs cs (record { count = 0; dropped = zero64 }) 0
unfolding tab kept_of foldl
compact_start s n e ws cs = record { held = hold_start s n 0 ws cs; todo = λ j h. refl; few = omega arith; sum = refl }

module _ {s n : ℕ} {e : Float} {ws₀ ws : List ℕ} {cs₀ cs : List Float} {r : Kept} {i : ℕ} (C : Compacted s n e ws₀ ws cs₀ cs r i) (room : Room s n ws₀ cs₀) (h : i < n) where
  abbrev t : Term
  t = term_at s ws cs i

  abbrev old : List Term
  old = kept_of e (terms_in s i ws₀ cs₀)

  abbrev lost : Float
  lost = dropped_of e (terms_in s i ws₀ cs₀)

  here : term_at s ws₀ cs₀ i ≡ t
  here = sym (C.todo i (omega arith))

  kept_by : (b : Bool) → is_small e t ≡ b → kept_of e (terms_in s (i + 1) ws₀ cs₀) ≡ old ++ cond b [] (t ∷ [])
  kept_by b q =
      keep_tab e (term_at s ws₀ cs₀) i ∙ ap (λ (u : Term). old ++ cond (is_small e u) [] (u ∷ [])) here
      ∙ ap (λ (b : Bool). old ++ cond b [] (t ∷ [])) q

  sum_by : (b : Bool) → is_small e t ≡ b → dropped_of e (terms_in s (i + 1) ws₀ cs₀) ≡ cond b (add binary64 r.dropped (size_of t.coeff)) r.dropped
  sum_by b q =
      fold_tab (add_dropped e) zero64 (term_at s ws₀ cs₀) i ∙ ap (add_dropped e lost) here
      ∙ ap (λ (b : Bool). cond b (add binary64 lost (size_of t.coeff)) lost) q
      ∙ ap (λ (x : Float). cond b (add binary64 x (size_of t.coeff)) x) (sym C.sum)

  compact_go : (b : Bool) → is_small e t ≡ b → (ws' : List ℕ) (cs' : List Float) (r' : Kept) → ws' ≡ cond b ws (put_key s ws r.count (key_at s ws i)) → cs' ≡ cond b cs (put_coeff cs r.count (coeff_at cs i))
      → r' ≡ cond b (record { count = r.count; dropped = add binary64 r.dropped (size_of (coeff_at cs i)) }) (record { count = r.count + 1; dropped = r.dropped })
      → Compacted s n e ws₀ ws' cs₀ cs' r' (i + 1)
  compact_go true q ws' cs' r' ew ec er =
      let few = C.few in
      let same : kept_of e (terms_in s (i + 1) ws₀ cs₀) ≡ old = kept_by true q ∙ append-nil old in
      rw (ew, ec, er) (record { held = rw same C.held; todo = λ j l. C.todo j (omega arith); few = omega arith; sum = sym (sum_by true q) })
  compact_go false q ws' cs' r' ew ec er =
      let few = C.few in
      let now : Room s n ws cs = hold_room C.held room in
      let whole : length (key_at s ws i) ≡ s = length_key s ws i (room_at now i h).0 in
      let at_k = (room_at now r.count (omega arith)).0 in
      rw (ew, ec, er) (record {
        held = rw (kept_by false q) (hold_push C.held now (omega arith) t whole);
        todo = λ j l. (λ k. record { key = key_put_other s ws r.count (key_at s ws i) at_k whole j (λ q. omega arith) k; coeff = val_put_other cs r.count j (coeff_at cs i) (λ q. omega arith) k }) ∙ C.todo j (omega arith);
        few = omega arith;
        sum = sym (sum_by false q);
      })

  pub compact_turn : {ws' : List ℕ} {cs' : List Float} {r' : Kept} → KeptRow s i e r r' ws ws' cs cs' → Compacted s n e ws₀ ws' cs₀ cs' r' (i + 1)
  compact_turn {ws'} {cs'} {r'} K = compact_go (is_small e t) refl ws' cs' r' K.words K.coeffs K.kept

-- ---- one row

module _ (s i : ℕ) (e : Float) (r : Kept) (ws : List ℕ) (cs : List Float) (x : Float) (size : x ≡ size_of (coeff_at cs i)) where
  pub row_dropped : lt x e ≡ true → KeptRow s i e r (record { count = r.count; dropped = add binary64 r.dropped x }) ws ws cs cs
  row_dropped b =
      let t : is_small e (term_at s ws cs i) ≡ true = ap (λ (x : Float). lt x e) (sym size) ∙ b in
      record { words = rw t; coeffs = rw t; kept = rw (t, size) }

  pub row_kept : lt x e ≡ false → (ws' : List ℕ) (cs' : List Float) → ws' ≡ put_key s ws r.count (key_at s ws i) → cs' ≡ put_coeff cs r.count (coeff_at cs i)
      → KeptRow s i e r (record { count = r.count + 1; dropped = r.dropped }) ws ws' cs cs'
  row_kept b ws' cs' ew ec =
      let t : is_small e (term_at s ws cs i) ≡ false = ap (λ (x : Float). lt x e) (sym size) ∙ b in
      record { words = rw t ew; coeffs = rw t ec; kept = rw t }

-- ---- the public step

module _ (w n : ℕ) (e : Float) {ws : List ℕ} {cs : List Float} where
  pub truncated_none : n ≡ 0 → Truncated w n e (record { count = n; dropped = zero64 }) ws ws cs cs
  unfolding tab kept_of foldl
  truncated_none z =
      let yes = le-leb 0 (rows_in w ws cs) (omega arith) in
      rw z (record { step = stepped_held w 0 0 yes (omega arith) (hold_start (2 * w) 0 0 ws cs); sum = ap (λ (b : Bool). cond b zero64 zero64) (sym yes) })

  pub truncated_past : {r : ℕ} → r ≡ rows_in w ws cs → r < n → Truncated w n e (record { count = n; dropped = zero64 }) ws ws cs cs
  truncated_past q h =
      let no = room_no w n ws cs q h in
      record { step = unstepped w n n n (kept_of e (terms_in (2 * w) n ws cs)) ws cs no; sum = ap (λ (b : Bool). cond b (dropped_of e (terms_in (2 * w) n ws cs)) zero64) (sym no) }

  pub truncated : {r : ℕ} {k : Kept} {ws₁ ws₂ : List ℕ} {cs₁ cs₂ : List Float} → r ≡ rows_in w ws cs → n ≤ r
      → Holds (2 * w) n k.count (kept_of e (terms_in (2 * w) n ws cs)) ws ws₁ cs cs₁ × ((k.count ≤ n) × (k.dropped ≡ dropped_of e (terms_in (2 * w) n ws cs)))
      → Cleared w k.count n ws₁ ws₂ cs₁ cs₂ → Truncated w n e k ws ws₂ cs cs₂
  truncated q h K C =
      let yes = room_yes w n ws cs q h in
      record {
        step = stepped_cleared w n K.0 n K.1.0 (rw (← q) h) C;
        sum = K.1.1 ∙ ap (λ (b : Bool). cond b (dropped_of e (terms_in (2 * w) n ws cs)) zero64) (sym yes);
      }
