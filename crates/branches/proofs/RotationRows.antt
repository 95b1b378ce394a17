-- One row of a rotation: what the stores of each case do to the terms, and a turn of the loop over the rows. Assumes nothing.
use mathlib.Core.Path.{◌≡◌, refl, sym, ap, ap₂, ◌∙◌}
use mathlib.Core.Bool.{Bool, true, false, not}
use mathlib.Core.List.{List}
use Prim.Native.Nat.{ℕ, suc, ◌+◌, ◌%◌, ◌≤◌, ◌<◌}
use native.Mathlib.Nat.{le_refl}
use native.Mathlib.Omega.{arith}
use native.Mathlib.Numerals.{add-one}
use lib.ListN.{length, get_or}
use lib.Ieee.{Float}
use borrow.Author.Tests.{lt-ltb, le-ltb}
use Rattle.numbers.specs.Tests.{is_zero}
use Rattle.words.specs.Keys.{Key, same_key}
use Rattle.std.specs.Prelude.{Option, Some, None}
use Rattle.words.specs.Letters.{is_odd}
use Rattle.terms.specs.Coefficient.{scaled_of, flipped_of, plus_of}
use Rattle.terms.specs.Term.{Term, no_term, odd_y}
use Rattle.terms.specs.Rotation.{flipped_term, mixed}
use Rattle.terms.specs.Branch.{first, row_of, branch_pair, branch_lone, branch_by, branch_row, branch_to}
use Rattle.terms.proofs.YLaws.{odd_same, odd_suc}
use Rattle.terms.proofs.ListLaws.{get_d_tab}
use Rattle.terms.proofs.FirstLaws.{first_ext, first_at}
use Rattle.words.specs.Rows.{key_at}
use Rattle.rows.specs.Rows.{coeff_at, term_at, terms_in, put_key, put_coeff, Room, Holds}
use Rattle.branches.specs.Pairs.{NotAfter}
use Rattle.rows.proofs.RowLaws.{length_key}
use Rattle.rows.proofs.HoldLaws.{hold_start, hold_val, hold_set, hold_push, hold_room, hold_wide, hold_trans, room_at, room_less}

-- ---- the stores of each case

-- a pair: each part is scaled, the mate is flipped, and the two are added
pub pair_stores : (odd : ℕ) (sin cos : Float) (i j : ℕ) (cs : List Float) {a b u v : Float} {x q x' q' : Float} {cs₁ cs₂ : List Float}
    → a ≡ coeff_at cs i → b ≡ coeff_at cs j → x ≡ scaled_of cos a → q ≡ flipped_of (is_odd (odd % 2 + 1)) sin b → u ≡ plus_of x q → cs₁ ≡ put_coeff cs i u
    → x' ≡ scaled_of cos b → q' ≡ flipped_of (is_odd odd) sin a → v ≡ plus_of x' q' → cs₂ ≡ put_coeff cs₁ j v
    → cs₂ ≡ put_coeff (put_coeff cs i (mixed (is_odd odd) sin cos (coeff_at cs i) (coeff_at cs j))) j (mixed (not (is_odd odd)) sin cos (coeff_at cs j) (coeff_at cs i))
pair_stores odd sin cos i j cs ea eb ep eq eu e₁ ep' eq' ev e₂ =
    let u-is = eu ∙ ap₂ plus_of (ep ∙ ap (scaled_of cos) ea) (eq ∙ ap₂ (λ (o : Bool) (x : Float). flipped_of o sin x) other eb) in
    let v-is = ev ∙ ap₂ plus_of (ep' ∙ ap (scaled_of cos) eb) (eq' ∙ ap₂ (λ (o : Bool) (x : Float). flipped_of o sin x) (twice (is_odd odd)) ea) in
    e₂ ∙ ap₂ (λ (l : List Float) (x : Float). put_coeff l j x) (e₁ ∙ ap (put_coeff cs i) u-is) v-is
  where
    other : is_odd (odd % 2 + 1) ≡ not (is_odd odd)
    other = odd_same (odd % 2 + 1) (suc odd) (omega arith) ∙ odd_suc odd

    twice : (b : Bool) → b ≡ not (not b)
    twice true = refl
    twice false = refl

module _ (w : ℕ) (met : Key → Bool) (partner : Key → Key) (sin cos : Float) (s m i : ℕ) (ws : List ℕ) (cs : List Float)
    (long : (k : Key) → length (partner k) ≡ length k) (room : Room s (m + 1) ws cs) (before : i < m) where
  abbrev ts : List Term
  ts = terms_in s m ws cs

  abbrev t : Term
  t = term_at s ws cs i

  at_i : get_or ts i no_term ≡ t
  at_i = get_d_tab m (term_at s ws cs) i no_term before

  whole : length (partner (key_at s ws i)) ≡ s
  whole = long (key_at s ws i) ∙ length_key s ws i (room_at room i (omega arith)).0

  -- the cosine is 0
  pub lone_turned : {v q : Float} {ws' : List ℕ} {cs' : List Float} → is_zero cos ≡ true → v ≡ coeff_at cs i → ws' ≡ put_key s ws i (partner (key_at s ws i))
      → q ≡ flipped_of (odd_y w (key_at s ws i)) sin v → cs' ≡ put_coeff cs i q → Holds s m m (branch_lone w met partner sin cos i ts) ws ws' cs cs'
  lone_turned e ev ew eq ec =
      rw (e, ew, ec, eq, ev, at_i) (hold_set (hold_start s m m ws cs) (room_less (omega arith) room) (le_refl m) i before (flipped_term w met partner sin cos t) whole)

  -- the partner's word appended
  pub lone_grown : {v p q : Float} {ws' : List ℕ} {cs₁ cs₂ : List Float} → is_zero cos ≡ false → v ≡ coeff_at cs i
      → p ≡ scaled_of cos v → cs₁ ≡ put_coeff cs i p → q ≡ flipped_of (odd_y w (key_at s ws i)) sin v → ws' ≡ put_key s ws m (partner (key_at s ws i))
      → cs₂ ≡ put_coeff cs₁ m q → Holds s (m + 1) (m + 1) (branch_lone w met partner sin cos i ts) ws ws' cs cs₂
  lone_grown e ev ep f₁ eq ew f₂ =
      let H = hold_val (hold_start s (m + 1) m ws cs) room (omega arith) i before (scaled_of cos (coeff_at cs i)) in
      let K = hold_push H (hold_room H room) (omega arith) (flipped_term w met partner sin cos t) whole in
      rw (e, ew, f₂, f₁, ep, eq, ev, at_i) K

  -- a pair, at its earlier row
  pub pair_mixed : (j : ℕ) {cs' : List Float} → i < j → j < m
      → cs' ≡ put_coeff (put_coeff cs i (mixed (odd_y w (key_at s ws i)) sin cos (coeff_at cs i) (coeff_at cs j))) j (mixed (not (odd_y w (key_at s ws i))) sin cos (coeff_at cs j) (coeff_at cs i))
      → Holds s m m (branch_pair w met partner sin cos i j ts) ws ws cs cs'
  pair_mixed j ij jm ec =
      let r : Room s m ws cs = room_less (omega arith) room in
      let H = hold_val (hold_start s m m ws cs) r (le_refl m) i before (mixed (odd_y w (key_at s ws i)) sin cos (coeff_at cs i) (coeff_at cs j)) in
      let K = hold_val H (hold_room H r) (le_refl m) j jm (mixed (not (odd_y w (key_at s ws i))) sin cos (coeff_at cs j) (coeff_at cs i)) in
      let at_j : get_or ts j no_term ≡ term_at s ws cs j = get_d_tab m (term_at s ws cs) j no_term jm in
      rw (lt-ltb i j ij, ec, at_i, at_j) K

  pub pair_done : (j : ℕ) → j ≤ i → Holds s m m (branch_pair w met partner sin cos i j ts) ws ws cs cs
  pair_done j ji = rw (le-ltb i j ji) (hold_start s m m ws cs)

  -- ---- the row from its cases

  pub row_unmet : (n : ℕ) → met (key_at s ws i) ≡ false → Holds s m m (branch_row w met partner sin cos n i ts) ws ws cs cs
  unfolding branch_row
  row_unmet n e = rw (at_i, e) (hold_start s m m ws cs)

  module _ (n : ℕ) (le : n ≤ m) (is-met : met (key_at s ws i) ≡ true) {f : Option ℕ} (is : f ≡ first (λ j. same_key (key_at s ws j) (partner (key_at s ws i))) n) where
    found_terms : row_of n (partner (get_or ts i no_term).key) ts ≡ f
    found_terms =
        first_ext (λ j. same_key (get_or ts j no_term).key (partner (get_or ts i no_term).key)) (λ j. same_key (key_at s ws j) (partner (key_at s ws i))) n
        (λ j l k. same_key (get_d_tab m (term_at s ws cs) j no_term (omega arith) k).key (partner (at_i k).key))
        ∙ sym is

    pub row_met : {r : ℕ} {ws' : List ℕ} {cs' : List Float} → Holds s r r (branch_by w met partner sin cos i ts f) ws ws' cs cs'
        → Holds s r r (branch_row w met partner sin cos n i ts) ws ws' cs cs'
    unfolding branch_row
    row_met H = rw (ap (λ (u : Term). met u.key) at_i ∙ is-met, found_terms) H

    pub row_lone : f ≡ None → {r : ℕ} {ws' : List ℕ} {cs' : List Float} → Holds s r r (branch_lone w met partner sin cos i ts) ws ws' cs cs'
        → Holds s r r (branch_row w met partner sin cos n i ts) ws ws' cs cs'
    row_lone e H = row_met (rw e H)

    pub row_pair : (j : ℕ) → f ≡ Some j → {cs' : List Float} → Holds s m m (branch_pair w met partner sin cos i j ts) ws ws cs cs'
        → Holds s m m (branch_row w met partner sin cos n i ts) ws ws cs cs'
    row_pair j e H = row_met (rw e H)

    pub pair_below : (j : ℕ) → f ≡ Some j → j < m
    pair_below j e = let r = (first_at (λ j. same_key (key_at s ws j) (partner (key_at s ws i))) n j (sym is ∙ e)).0 in omega arith

  -- nothing is done: the row is not met, or its partner is not after it
  pub row_done : (n : ℕ) → n ≤ m → (met (key_at s ws i) ≡ true → NotAfter i (first (λ j. same_key (key_at s ws j) (partner (key_at s ws i))) n))
      → Holds s m m (branch_row w met partner sin cos n i ts) ws ws cs cs
  row_done n le h = go (met (key_at s ws i)) refl
    where
      f : Option ℕ
      f = first (λ j. same_key (key_at s ws j) (partner (key_at s ws i))) n

      by : met (key_at s ws i) ≡ true → (g : Option ℕ) → g ≡ f → NotAfter i g → Holds s m m (branch_row w met partner sin cos n i ts) ws ws cs cs
      by e (Some j) q a = row_pair n le e q j refl (pair_done j a)
      by e None q a = absurd a

      go : (b : Bool) → met (key_at s ws i) ≡ b → Holds s m m (branch_row w met partner sin cos n i ts) ws ws cs cs
      go true e = by e f refl (h e)
      go false e = row_unmet n e

-- ---- a turn of the loop

pub branch_turn : (w : ℕ) (met : Key → Bool) (partner : Key → Key) (sin cos : Float) (n i : ℕ) (l : List Term) {s m r : ℕ} {ws₀ ws ws' : List ℕ} {cs₀ cs cs' : List Float}
    → Holds s m m (branch_to w met partner sin cos n i l) ws₀ ws cs₀ cs → m ≤ r → Holds s r r (branch_row w met partner sin cos n i (terms_in s m ws cs)) ws ws' cs cs'
    → Holds s r r (branch_to w met partner sin cos n (i + 1) l) ws₀ ws' cs₀ cs'
unfolding branch_to
branch_turn w met partner sin cos n i l H le K = rw (add-one, ← H.terms) (hold_trans (hold_wide le H) K)
