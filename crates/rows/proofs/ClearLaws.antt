-- A loop that sets places of a list to one value, and the buffers of a step whose freed rows are cleared. Assumes nothing.
use mathlib.Core.Path.{◌≡◌, refl, sym, ap, ◌∙◌, subst}
use mathlib.Core.Bool.{Bool, true, false, cond, ◌&&◌}
use mathlib.Core.List.{List, [], ◌∷◌, ◌++◌, append_assoc}
use mathlib.Core.Logic.{⊎_elim}
use Prim.Native.Nat.{ℕ, suc, ◌+◌, ◌-◌, ◌*◌, ◌≤◌, ◌<◌}
use native.Mathlib.Numerals.{add-one}
use native.Mathlib.Omega.{arith}
use lib.Dec.{leb, ltb}
use lib.ListN.{length, get_or, set, take, drop, replicate, length-append, length-drop, length-replicate, replicate-append-replicate}
use lib.Seq.{length-take-le, drop-cons, drop-drop, set_at}
use lib.Ieee.{Float}
use borrow.Author.Tests.{lt-ltb, le-ltb, le-leb}
use Rattle.numbers.specs.Constants.{zero64}
use Rattle.terms.specs.Term.{Term}
use Rattle.terms.proofs.CaseLaws.{lt_or_le, and-false}
use Rattle.rows.specs.Rows.{rows_in, Holds, Stepped}
use Rattle.rows.specs.Cleared.{filled, Cleared}
use Rattle.rows.proofs.RowLaws.{row_before}
use Rattle.rows.proofs.HoldLaws.{hold_count, room_at}
pub use Rattle.rows.proofs.StepLaws.{filled_none, rows_less}
use Rattle.rows.proofs.StepLaws.{words_cleared, coeffs_cleared, held_rows, stepped, rows_room, room_yes, room_no}

module _ {A : Type 0} (z : A) (a : ℕ) (l : List A) where
  pub filled_suc : (i : ℕ) → a ≤ i → i < length l → set (filled z a i l) i z ≡ filled z a (i + 1) l
  unfolding filled
  filled_suc i h b =
      let front : List A = take a l ++ replicate (i - a) z in
      let long : length front ≡ i = length-append (take a l) (replicate (i - a) z) ∙ simp length-replicate (omega (arith, length-take-le a l (omega arith))) in
      let more : (i - a) + 1 ≡ (i + 1) - a = omega arith in
      ap (λ (m : List A). set m i z) (sym (append_assoc (take a l) (replicate (i - a) z) (drop i l)) ∙ ap (λ (m : List A). front ++ m) (drop-cons l i z b))
      ∙ set_at front (get_or l i z) (drop (suc i) l) z i long
      ∙ append_assoc (take a l) (replicate (i - a) z) (z ∷ drop (suc i) l)
      ∙ ap (λ (m : List A). take a l ++ m) (sym (append_assoc (replicate (i - a) z) (z ∷ []) (drop (suc i) l))
      ∙ ap (λ (m : List A). m ++ drop (suc i) l) (replicate-append-replicate (i - a) 1 z))
      ∙ (λ k. take a l ++ (replicate (more k) z ++ drop (sym (add-one i) k) l))

-- a part that is filled with one value
pub filled_part : {A : Type 0} (z : A) (a b : ℕ) (l : List A) {v : List A} → a ≤ b → b ≤ length l → v ≡ replicate (length (take (b - a) (drop a l))) z
    → take a l ++ (v ++ drop (b - a) (drop a l)) ≡ filled z a b l
unfolding filled
filled_part z a b l {v} h k e =
    let long : length (take (b - a) (drop a l)) ≡ b - a = length-take-le (b - a) (drop a l) (simp length-drop (omega arith)) in
    let end : a + (b - a) ≡ b = omega arith in
    ap (λ m. take a l ++ (m ++ drop (b - a) (drop a l))) (e ∙ ap (λ n. replicate n z) long)
    ∙ ap (λ m. take a l ++ (replicate (b - a) z ++ m)) (drop-drop (b - a) a l ∙ ap (λ n. drop n l) end)

-- ---- rows that are cleared

-- a row that both buffers hold whole
pub row_room : (w i : ℕ) (ws : List ℕ) (cs : List Float) → i < rows_in w ws cs → (i * (2 * w) + 2 * w ≤ length ws) × (i < length cs)
row_room w i ws cs h = room_at (rows_room w (i + 1) ws cs (omega arith)) i (omega arith)

module _ (w from to : ℕ) (ws : List ℕ) (cs : List Float) where
  abbrev clears : Bool
  clears = ltb from to && leb to (rows_in w ws cs)

  -- the places that are cleared lie in the buffer
  pub clear_room : {r : ℕ} → from < to → r ≡ rows_in w ws cs → to ≤ r → (from * (2 * w) + 2 * w ≤ to * (2 * w)) × (to * (2 * w) ≤ length ws)
  clear_room h e r = (row_before (2 * w) h, (rows_room w to ws cs (rw (← e) r)).words_room)

  cleared_by : {ws' : List ℕ} {cs' : List Float} (b : Bool) → clears ≡ b → ws' ≡ cond b (filled 0 (from * (2 * w)) (to * (2 * w)) ws) ws
      → cs' ≡ cond b (filled zero64 from to cs) cs → Cleared w from to ws ws' cs cs'
  cleared_by b e p q = record { words = rw e p; coeffs = rw e q }

  pub cleared : {r : ℕ} {ws' : List ℕ} {cs' : List Float} → from < to → r ≡ rows_in w ws cs → to ≤ r → ws' ≡ filled 0 (from * (2 * w)) (to * (2 * w)) ws
      → cs' ≡ filled zero64 from to cs → Cleared w from to ws ws' cs cs'
  cleared h e r p q = cleared_by true (rw (lt-ltb from to h, room_yes w to ws cs e r)) p q

  -- no rows, or rows that the buffers do not hold whole
  pub cleared_none : to ≤ from → Cleared w from to ws ws cs cs
  cleared_none h = cleared_by false (rw (le-ltb from to h)) refl refl

  pub cleared_past : {r : ℕ} → r ≡ rows_in w ws cs → r < to → Cleared w from to ws ws cs cs
  cleared_past e h = cleared_by false (rw (room_no w to ws cs e h) (and-false (ltb from to))) refl refl

  -- both cases in one: an empty range leaves all as it is
  pub cleared_is : {ws' : List ℕ} {cs' : List Float} → from ≤ to → to ≤ rows_in w ws cs → Cleared w from to ws ws' cs cs'
      → (ws' ≡ filled 0 (from * (2 * w)) (to * (2 * w)) ws) × (cs' ≡ filled zero64 from to cs)
  cleared_is h r C = ⊎_elim
      (λ (l : from < to).
      let t : clears ≡ true = rw (lt-ltb from to l, le-leb to (rows_in w ws cs) r) in (
        C.words ∙ ap (λ (b : Bool). cond b (filled 0 (from * (2 * w)) (to * (2 * w)) ws) ws) t,
        C.coeffs ∙ ap (λ (b : Bool). cond b (filled zero64 from to cs) cs) t,
      ))
      (λ (l : to ≤ from).
      let t : clears ≡ false = rw (le-ltb from to l) in
      let e : from ≡ to = omega arith in (
        C.words ∙ ap (λ (b : Bool). cond b (filled 0 (from * (2 * w)) (to * (2 * w)) ws) ws) t ∙ filled_none 0 (from * (2 * w)) ws ∙ ap (λ (n : ℕ). filled 0 (from * (2 * w)) (n * (2 * w)) ws) e,
        C.coeffs ∙ ap (λ (b : Bool). cond b (filled zero64 from to cs) cs) t ∙ filled_none zero64 from cs ∙ ap (λ (n : ℕ). filled zero64 from n cs) e,
      ))
      (lt_or_le from to)

-- m terms in n rows, and the rows past them cleared
module _ (w n : ℕ) {m : ℕ} {ts : List Term} {ws₀ ws : List ℕ} {cs₀ cs : List Float} (H : Holds (2 * w) n m ts ws₀ ws cs₀ cs) where
  pub stepped_cleared : {ws' : List ℕ} {cs' : List Float} (a : ℕ) → m ≤ n → n ≤ rows_in w ws₀ cs₀ → Cleared w m n ws ws' cs cs' → Stepped w n n a ts m ws₀ ws' cs₀ cs'
  stepped_cleared {ws'} {cs'} a le r C =
      let e = cleared_is w m n ws cs le (rw (held_rows w H) r) C in
      subst (λ (c : ℕ). Stepped w n n a ts c ws₀ ws' cs₀ cs') (hold_count H)
      (stepped w n n a ts ws₀ cs₀ (le-leb n (rows_in w ws₀ cs₀) r) (words_cleared w n H e.0) (coeffs_cleared w n H le (rows_room w n ws₀ cs₀ r).coeffs_room e.1))
