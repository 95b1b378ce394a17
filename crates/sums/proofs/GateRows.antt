-- One row through a gate, and a loop over the rows. Assumes nothing.
use mathlib.Core.Path.{◌≡◌, refl, sym, ap, ap₂, ◌∙◌, subst⁻¹}
use mathlib.Core.Bool.{Bool, true, false, cond, ◌&&◌, true≢false}
use mathlib.Core.List.{List, ◌++◌, map}
use Prim.Native.Nat.{ℕ, zero, suc, ◌+◌, ◌-◌, ◌*◌, ◌/◌, ◌%◌, ◌≤◌, ◌<◌}
use native.Mathlib.Nat.{le_refl, mod-lt}
use lib.Dec.{ltb, eqb}
use lib.Pow.{pow_pos}
use borrow.Author.Tests.{eqb-true, eqb-false, leb-true}
use Rattle.words.specs.declared.Bits as B
use Rattle.words.specs.Keys.{Key, ◌⊕◌}
use native.Mathlib.Omega.{arith}
use lib.ListN.{length, take, drop}
use lib.Ieee.{Float}
use Rattle.words.specs.declared.Gate.{Gate}
use Rattle.words.specs.Gates.{bits_at, conj_key, conj_phase, has_phase}
use Rattle.words.proofs.GateLaws.{conj_key_length, no_phase}
use Rattle.words.proofs.RowSteps.{part_is, part_back}
use Rattle.terms.specs.Lists.{map_to}
use Rattle.words.specs.Letters.{ys_of, is_odd}
use Rattle.terms.specs.Coefficient.{signed, negates, asks_word}
use Rattle.terms.proofs.SignLaws.{negates_turns, phaseless, asks}
use Rattle.terms.specs.Term.{Term, odd_y, conjugated}
use Rattle.words.specs.Rows.{key_at}
use Rattle.rows.specs.Rows.{coeff_at, term_at, terms_in, rows_in, put_key, put_coeff, Holds, Stepped}
use Rattle.rows.proofs.RowLaws.{length_key, put_val_same}
use Rattle.rows.proofs.HoldLaws.{hold_start, hold_map_row, room_at}
use Rattle.rows.proofs.StepLaws.{rows_room, room_yes, held_rows, held_map, stepped_held}
use Rattle.sums.specs.Through.{Through}

-- the sign as the code makes it: of the parity only where the gate asks for it
pub sign_is : (g : Gate) (s : B.Bits) (w : ℕ) (k : Key) {o q : ℕ} → o ≡ cond (asks_word g) (ys_of w k % 2) 0 → q ≡ conj_phase g s
    → ltb 1 ((o % 4 + q % 4) % 4) ≡ negates g s (odd_y w k)
sign_is g s w k {o} {q} eo eq = ap (λ (n : ℕ). ltb 1 n) (mod_sum o q) ∙ ap₂ (λ (o q : ℕ). ltb 1 ((o + q) % 4)) eo eq ∙ go (asks_word g) refl
  where
    mod_sum : (o q : ℕ) → (o % 4 + q % 4) % 4 ≡ (o + q) % 4
    mod_sum o q = omega arith

    one : (n : ℕ) → n % 2 ≡ cond (is_odd n) 1 0
    one n = at (eqb (n % 2) 1) refl
      where
        at : (b : Bool) → eqb (n % 2) 1 ≡ b → n % 2 ≡ cond b 1 0
        at true e = eqb-true (n % 2) 1 e
        at false e = zero_of (n % 2) (mod-lt n (pow_pos 1)) (eqb-false (n % 2) 1 e)
          where
            zero_of : (m : ℕ) → m < 2 → (m ≡ 1 → ⊥) → m ≡ 0
            zero_of m h d = omega arith

    same_sign : asks_word g ≡ false → (b : Bool) → negates g s false ≡ negates g s b
    same_sign e false = refl
    same_sign e true = alike (negates g s true) (negates g s false) (asks g s ∙ ap (λ (a : Bool). a && is_odd (conj_phase g s)) e)
      where
        alike : (a b : Bool) → a ⊕ b ≡ false → b ≡ a
        alike true true h = refl
        alike true false h = absurd (true≢false h)
        alike false true h = absurd (true≢false h)
        alike false false h = refl

    go : (a : Bool) → asks_word g ≡ a → ltb 1 ((cond a (ys_of w k % 2) 0 + conj_phase g s) % 4) ≡ negates g s (odd_y w k)
    go true e = ap (λ (o : ℕ). ltb 1 ((o + conj_phase g s) % 4)) (one (ys_of w k)) ∙ sym (negates_turns g s (odd_y w k))
    go false e = sym (negates_turns g s false) ∙ same_sign e (odd_y w k)

module _ (g : Gate) (w a b i : ℕ) (ws : List ℕ) (cs : List Float) where
  -- the words of the row as the code takes them, a part of the buffer
  abbrev part : List ℕ
  part = take (i * (2 * w) + 2 * w - i * (2 * w)) (drop (i * (2 * w)) ws)

  pub gate_row : {k : List ℕ} {n : Bool} {u : Float} → k ≡ conj_key g w a b part → n ≡ negates g (bits_at w a b part) (odd_y w part) → u ≡ signed n (coeff_at cs i)
      → (take (i * (2 * w)) ws ++ (k ++ drop (i * (2 * w) + 2 * w - i * (2 * w)) (drop (i * (2 * w)) ws))
      ≡ put_key (2 * w) ws i (conjugated w g a b (term_at (2 * w) ws cs i)).key)
      × (put_coeff cs i u ≡ put_coeff cs i (conjugated w g a b (term_at (2 * w) ws cs i)).coeff)
  unfolding conjugated
  gate_row {k} ek en eu =
      let e = part_is w i ws in (
        part_back w i ws k ∙ ap (put_key (2 * w) ws i) (ek ∙ ap (conj_key g w a b) e),
        ap (put_coeff cs i) (eu ∙ ap (λ (n : Bool). signed n (coeff_at cs i)) (en ∙ ap (λ (l : List ℕ). negates g (bits_at w a b l) (odd_y w l)) e)),
      )

  -- a gate that negates no number
  pub gate_unturned : {k : List ℕ} → k ≡ conj_key g w a b part → has_phase g ≡ false
      → (take (i * (2 * w)) ws ++ (k ++ drop (i * (2 * w) + 2 * w - i * (2 * w)) (drop (i * (2 * w)) ws))
      ≡ put_key (2 * w) ws i (conjugated w g a b (term_at (2 * w) ws cs i)).key)
      × (cs ≡ put_coeff cs i (conjugated w g a b (term_at (2 * w) ws cs i)).coeff)
  unfolding conjugated
  gate_unturned ek e =
      let r = gate_row ek refl refl in
      let k = key_at (2 * w) ws i in
      (r.0, sym (put_val_same cs i) ∙ ap (λ (n : Bool). put_coeff cs i (signed n (coeff_at cs i))) (sym (phaseless g (bits_at w a b k) (odd_y w k) (no_phase g (bits_at w a b k) e))))

  pub gate_long : i < rows_in w ws cs → length (conjugated w g a b (term_at (2 * w) ws cs i)).key ≡ 2 * w
  unfolding conjugated
  gate_long h =
      conj_key_length g w a b (key_at (2 * w) ws i) ∙ length_key (2 * w) ws i (room_at (rows_room w (i + 1) ws cs (omega arith)) i (omega arith)).0

pub gate_turn : (g : Gate) (w a b n i : ℕ) (l : List Term) {ws₀ ws ws' : List ℕ} {cs₀ cs cs' : List Float}
    → Holds (2 * w) n n (map_to (conjugated w g a b) i l) ws₀ ws cs₀ cs → n ≤ rows_in w ws₀ cs₀ → i < n
    → (ws' ≡ put_key (2 * w) ws i (conjugated w g a b (term_at (2 * w) ws cs i)).key) × (cs' ≡ put_coeff cs i (conjugated w g a b (term_at (2 * w) ws cs i)).coeff)
    → Holds (2 * w) n n (map_to (conjugated w g a b) (i + 1) l) ws₀ ws' cs₀ cs'
gate_turn g w a b n i l {ws₀} {ws} {ws'} {cs₀} {cs} H room h e =
    let r = held_rows w H in
    hold_map_row (conjugated w g a b) i l H (rows_room w n ws₀ cs₀ room) (le_refl n) h (gate_long g w a b i ws cs (omega arith)) e.0 e.1

-- ---- a loop over the rows: those before i are through the gate

abbrev pub Midway : Gate → ℕ → ℕ → ℕ → ℕ → ℕ → List ℕ → List ℕ → List Float → List Float → Type 0
Midway g w n a b i ws₀ ws cs₀ cs = (i ≤ n) × Holds (2 * w) n n (map_to (conjugated w g a b) i (terms_in (2 * w) n ws₀ cs₀)) ws₀ ws cs₀ cs

pub midway_start : (g : Gate) (w n a b : ℕ) (ws : List ℕ) (cs : List Float) → Midway g w n a b 0 ws ws cs cs
unfolding map_to
midway_start g w n a b ws cs = (omega arith, hold_start (2 * w) n n ws cs)

module _ (g : Gate) (w n a b i : ℕ) {ws₀ ws : List ℕ} {cs₀ cs : List Float} (m : Midway g w n a b i ws₀ ws cs₀ cs) where
  pub midway_row : n ≤ rows_in w ws₀ cs₀ → i < n → i < rows_in w ws cs
  midway_row room h = let r = held_rows w m.1 in omega arith

  pub midway_turn : {ws' : List ℕ} {cs' : List Float} → n ≤ rows_in w ws₀ cs₀ → i < n
      → (ws' ≡ put_key (2 * w) ws i (conjugated w g a b (term_at (2 * w) ws cs i)).key) × (cs' ≡ put_coeff cs i (conjugated w g a b (term_at (2 * w) ws cs i)).coeff)
      → Midway g w n a b (i + 1) ws₀ ws' cs₀ cs'
  midway_turn room h e = (omega arith, gate_turn g w a b n i _ m.1 room h e)

  pub midway_end : n ≤ i → Through g w n a b ws₀ ws cs₀ cs
  midway_end h = held_map (conjugated w g a b) (2 * w) n n i ws₀ cs₀ m.1 (omega arith) (omega arith)

-- in an arm of a choice the gate is the arm's
pub through_arm : {g k : Gate} (w n a b : ℕ) {ws ws' : List ℕ} {cs cs' : List Float} → g ≡ k → Through k w n a b ws ws' cs cs' → Through g w n a b ws ws' cs cs'
through_arm w n a b {ws} {ws'} {cs} {cs'} e h = subst⁻¹ (λ (g : Gate). Through g w n a b ws ws' cs cs') e h

-- the step over the rows that are there
pub stepped_through : (g : Gate) (w n a b : ℕ) {r : ℕ} {ws ws' : List ℕ} {cs cs' : List Float} → r ≡ rows_in w ws cs → n ≤ r → Through g w n a b ws ws' cs cs'
    → Stepped w n n n (map (conjugated w g a b) (terms_in (2 * w) n ws cs)) n ws ws' cs cs'
stepped_through g w n a b {r} {ws} {ws'} {cs} {cs'} e h H =
    let y = room_yes w n ws cs e h in
    stepped_held w n n y (rows_room w n ws cs (leb-true n _ y)).coeffs_room H

-- a number after quarter turns
pub turned_half : (n : ℕ) (v : Float) → signed (eqb (n % 4 / 2 % 2) 1) v ≡ signed (ltb 1 (n % 4)) v
turned_half n v = ap (λ (b : Bool). signed b v) (go (n % 4) (mod-lt n (pow_pos 2)))
  where
    go : (r : ℕ) → r < 4 → eqb (r / 2 % 2) 1 ≡ ltb 1 r
    go zero h = refl
    go (suc zero) h = refl
    go (suc (suc zero)) h = refl
    go (suc (suc (suc zero))) h = refl
    go (suc (suc (suc (suc r)))) h = absurd (omega arith)
