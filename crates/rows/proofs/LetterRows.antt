-- The count of rows that have a letter on at least one of the targets of a step, and a step that meets none. Assumes nothing.
use mathlib.Core.Path.{◌≡◌, refl, sym, ap, ap₂, ◌∙◌, subst⁻¹}
use mathlib.Core.Bool.{Bool, true, false, cond}
use mathlib.Core.List.{List, [], ◌∷◌}
use Prim.Native.Nat.{ℕ, ◌+◌, ◌*◌, ◌/◌, ◌%◌, ◌<◌}
use native.Mathlib.Omega.{arith}
use lib.Dec.{leb}
use borrow.Author.Tests.{leb-true, le-leb}
use lib.Bits.{bit_or}
use lib.ListN.{length, get_or}
use lib.Ieee.{Float}
use Rattle.words.specs.Keys.{Key, bit_of, bit_at, z_at, has_letter}
use Rattle.words.proofs.BitNumbers.{either_bits}
use Rattle.terms.specs.Lists.{All, tab, foldl}
use Rattle.terms.specs.Term.{Term}
use Rattle.std.specs.Prelude.{Option}
use Rattle.std.specs.Bool.{then_some}
use Rattle.terms.specs.Met.{one_or_two, targets, in_words, letter_among, add_met, met_terms}
use Rattle.terms.proofs.ListLaws.{fold_tab}
use Rattle.terms.proofs.MetLaws.{one_letter, two_letters, none_met_bare}
use Rattle.terms.proofs.LetterSteps.{Bare}
use Rattle.words.specs.Rows.{key_at}
use Rattle.rows.specs.Rows.{term_at, terms_in, rows_in, met_in, Holds, Stepped, Grown}
use Rattle.rows.proofs.RowLaws.{word_at}
use Rattle.rows.proofs.HoldLaws.{hold_start}
use Rattle.rows.proofs.StepLaws.{rows_room, stepped_held, unstepped, grown}

-- the letter of a row, from its two words
module _ (w i q : ℕ) (ws : List ℕ) (h : q / 64 < w) where
  abbrev at : ℕ
  at = i * (2 * w) + q / 64

  x_bit : bit_of (get_or ws at 0) (q % 64) ≡ bit_at (key_at (2 * w) ws i) q
  unfolding bit_at
  x_bit = ap (λ (v : ℕ). bit_of v (q % 64)) (sym (word_at (2 * w) ws i (q / 64) (omega arith)))

  z_bit : bit_of (get_or ws (at + w) 0) (q % 64) ≡ bit_at (key_at (2 * w) ws i) (z_at w q)
  unfolding bit_at
  z_bit =
      let place : at + w ≡ i * (2 * w) + (w + q / 64) = omega arith in
      let word : w + q / 64 ≡ z_at w q / 64 = omega arith in
      let bit : q % 64 ≡ z_at w q % 64 = omega arith in
      ap (λ (v : ℕ). bit_of (get_or ws v 0) (q % 64)) place ∙ ap (λ (v : ℕ). bit_of v (q % 64)) (sym (word_at (2 * w) ws i (w + q / 64) (omega arith)))
      ∙ ap₂ (λ (u v : ℕ). bit_of (get_or (key_at (2 * w) ws i) u 0) v) word bit

  pub letter_bits : {x z : ℕ} → x ≡ cond (bit_of (get_or ws at 0) (q % 64)) 1 0 → z ≡ cond (bit_of (get_or ws (at + w) 0) (q % 64)) 1 0
      → bit_or x z ≡ cond (has_letter w (key_at (2 * w) ws i) q) 1 0
  letter_bits e f =
      either_bits (bit_at (key_at (2 * w) ws i) q) (bit_at (key_at (2 * w) ws i) (z_at w q))
      (e ∙ ap (λ (b : Bool). cond b 1 0) x_bit) (f ∙ ap (λ (b : Bool). cond b 1 0) z_bit)

-- a letter as a number
abbrev pub letter_number : ℕ → List ℕ → Key → ℕ
letter_number w qs k = cond (letter_among w qs k) 1 0

module _ (w a b : ℕ) (k : Key) {x : ℕ} where
  pub one_number : x ≡ cond (has_letter w k a) 1 0 → x ≡ letter_number w (a ∷ []) k
  one_number p = p ∙ ap (λ (c : Bool). cond c 1 0) (one_letter w a k)

  pub two_numbers : {y : ℕ} → x ≡ cond (has_letter w k a) 1 0 → y ≡ cond (has_letter w k b) 1 0 → bit_or x y ≡ letter_number w (a ∷ b ∷ []) k
  two_numbers p q = either_bits (has_letter w k a) (has_letter w k b) p q ∙ ap (λ (c : Bool). cond c 1 0) (two_letters w a b k)

-- ---- the count
module _ (w : ℕ) (qs : List ℕ) where
  pub count_start : (ws : List ℕ) (cs : List Float) → met_terms w qs (terms_in (2 * w) 0 ws cs) ≡ 0
  unfolding tab foldl
  count_start ws cs = refl

  pub count_turn : (i : ℕ) (ws : List ℕ) (cs : List Float) {v : ℕ} → v ≡ letter_number w qs (key_at (2 * w) ws i)
      → met_terms w qs (terms_in (2 * w) (i + 1) ws cs) ≡ met_terms w qs (terms_in (2 * w) i ws cs) + v
  count_turn i ws cs e = fold_tab (add_met w qs) 0 (term_at (2 * w) ws cs) i ∙ ap (λ (n : ℕ). met_terms w qs (terms_in (2 * w) i ws cs) + n) (sym e)

-- ---- the targets of a step that has two or one
pub targets_of : (two : Bool) (a b : ℕ) {o : Option ℕ} → o ≡ then_some two b → targets a o ≡ one_or_two two a b
targets_of true a b e = rw e
targets_of false a b e = rw e

-- ---- what a step reports
module _ (w n : ℕ) (qs : List ℕ) (ws : List ℕ) (cs : List Float) where
  pub met_held : {r : ℕ} → leb n (rows_in w ws cs) ≡ true → in_words w qs ≡ true → r ≡ met_terms w qs (terms_in (2 * w) n ws cs) → r ≡ met_in w qs n ws cs
  met_held e f p = rw (e, f) p

  pub met_no_rows : leb n (rows_in w ws cs) ≡ false → 0 ≡ met_in w qs n ws cs
  met_no_rows e = rw e refl

  pub met_no_words : leb n (rows_in w ws cs) ≡ true → in_words w qs ≡ false → 0 ≡ met_in w qs n ws cs
  met_no_words e f = rw (e, f) refl

  -- where a step meets none of its terms, no term has a bit at a target
  pub untouched_bare : met_in w qs n ws cs ≡ 0 → in_words w qs ≡ true → leb n (rows_in w ws cs) ≡ true → All (λ (t : Term). Bare w t.key qs) (terms_in (2 * w) n ws cs)
  untouched_bare m f e = none_met_bare w qs (terms_in (2 * w) n ws cs) (met_held e f refl ∙ m)

-- a step that changes no term leaves the buffers as they are, with room or without
module _ (w n : ℕ) (us : List Term) (ws : List ℕ) (cs : List Float) where
  here : us ≡ terms_in (2 * w) n ws cs → Holds (2 * w) n n us ws ws cs cs
  here e = subst⁻¹ (λ (l : List Term). Holds (2 * w) n n l ws ws cs cs) e (hold_start (2 * w) n n ws cs)

  pub same_stepped : (leb n (rows_in w ws cs) ≡ true → us ≡ terms_in (2 * w) n ws cs) → Stepped w n n n us n ws ws cs cs
  same_stepped h = go (leb n (rows_in w ws cs)) refl
    where
      go : (b : Bool) → leb n (rows_in w ws cs) ≡ b → Stepped w n n n us n ws ws cs cs
      go true e = stepped_held w n n e (rows_room w n ws cs (leb-true n _ e)).coeffs_room (here (h e))
      go false e = unstepped w n n n us ws cs e

  pub same_grown : (leb (2 * n) (rows_in w ws cs) ≡ true → us ≡ terms_in (2 * w) n ws cs) → Grown w n us n ws ws cs cs
  same_grown h = go (leb (2 * n) (rows_in w ws cs)) refl
    where
      go : (b : Bool) → leb (2 * n) (rows_in w ws cs) ≡ b → Grown w n us n ws ws cs cs
      go true e = grown w n us e (omega arith) (here (h e))
      go false e = unstepped w (2 * n) (length us) n us ws cs e

-- room for twice as many rows
pub once : (w n : ℕ) (ws : List ℕ) (cs : List Float) → leb (2 * n) (rows_in w ws cs) ≡ true → leb n (rows_in w ws cs) ≡ true
once w n ws cs e = let h = leb-true (2 * n) _ e in le-leb n (rows_in w ws cs) (omega arith)
