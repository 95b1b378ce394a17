-- Laws of rows: what a store into one row leaves in each. Assumes nothing.
use mathlib.Core.Path.{◌≡◌, sym, ap, ◌∙◌}
use mathlib.Core.Logic.{⊎_elim}
use mathlib.Core.List.{List, ◌++◌, append_assoc}
use Prim.Native.Nat.{ℕ, ◌+◌, ◌-◌, ◌*◌, ◌≤◌, ◌<◌}
use native.Mathlib.Omega.{arith}
use lib.ListN.{length, get_or, set, take, drop, length-set, length-drop, take-append-drop}
use lib.Seq.{get_or-set_same, get_or-set_other, drop-set-lt, length-take-le, take_at, drop-drop, get_or-take, get_or-drop, paste, paste-zero, paste-suc, set-get_or, drop-paste}
use native.Mathlib.Numerals.{add-one}
use lib.Ieee.{Float, nan}
use Rattle.words.proofs.RowLaws.{length_part, length_with_part, drop_with_part, part_same, part_other}
pub use Rattle.words.proofs.RowLaws.{row_before, drop_more, after}
use Rattle.terms.proofs.CaseLaws.{lt_or_le}
use Rattle.words.specs.Rows.{key_at}
use Rattle.rows.specs.Rows.{coeff_at, put_coeff, put_key}

-- ---- numbers

pub length_put_coeff : (cs : List Float) (i : ℕ) (v : Float) → length (put_coeff cs i v) ≡ length cs
length_put_coeff cs i v = length-set cs i v

pub val_put_same : (cs : List Float) (i : ℕ) (v : Float) → i < length cs → coeff_at (put_coeff cs i v) i ≡ v
val_put_same cs i v h = get_or-set_same cs i v nan h

pub val_put_other : (cs : List Float) (i j : ℕ) (v : Float) → (j ≡ i → ⊥) → coeff_at (put_coeff cs i v) j ≡ coeff_at cs j
val_put_other cs i j v n = get_or-set_other cs i j v nan n

pub drop_put_coeff : (p : ℕ) (cs : List Float) (i : ℕ) (v : Float) → i < p → drop p (put_coeff cs i v) ≡ drop p cs
drop_put_coeff p cs i v h = drop-set-lt p cs i v h

-- a number stored where it stands
pub put_val_same : (cs : List Float) (i : ℕ) → put_coeff cs i (coeff_at cs i) ≡ cs
put_val_same cs i = set-get_or cs i nan

-- ---- keys

module _ (s : ℕ) (ws : List ℕ) (i : ℕ) (k : List ℕ) (room : i * s + s ≤ length ws) (whole : length k ≡ s) where
  pub length_put_key : length (put_key s ws i k) ≡ length ws
  length_put_key = length_with_part s ws i k room whole

  pub drop_put_key : drop (i * s + s) (put_key s ws i k) ≡ drop (i * s + s) ws
  drop_put_key = drop_with_part s ws i k room whole

  pub key_put_same : key_at s (put_key s ws i k) i ≡ k
  key_put_same = part_same s ws i k room whole

  pub key_put_other : (j : ℕ) → (j ≡ i → ⊥) → key_at s (put_key s ws i k) j ≡ key_at s ws j
  key_put_other = part_other s ws i k room whole

-- ---- one word of a row

pub word_at : (s : ℕ) (ws : List ℕ) (i k : ℕ) → k < s → get_or (key_at s ws i) k 0 ≡ get_or ws (i * s + k) 0
word_at s ws i k h = get_or-take s (drop (i * s) ws) k 0 h ∙ get_or-drop (i * s) ws k 0

pub length_key : (s : ℕ) (ws : List ℕ) (i : ℕ) → i * s + s ≤ length ws → length (key_at s ws i) ≡ s
length_key = length_part

-- ---- a row copied to a later one, word by word

module _ (s : ℕ) (ws : List ℕ) (from to : ℕ) where
  -- the buffer with the first k words copied
  unfoldable pub copied : ℕ → List ℕ
  copied k = paste ws (to * s) (drop (from * s) ws) k

  pub copied_zero : ws ≡ copied 0
  unfolding copied
  copied_zero = paste-zero ws (to * s) (drop (from * s) ws)

  pub copied_all : copied s ≡ put_key s ws to (key_at s ws from)
  unfolding copied
  copied_all = append_assoc (take (to * s) ws) (key_at s ws from) (drop (to * s + s) ws)

  -- a word of another row is as it was
  copied_other : (from ≡ to → ⊥) → from * s + s ≤ length ws → to * s + s ≤ length ws → (k : ℕ) → k < s → get_or (copied k) (from * s + k) 0 ≡ get_or ws (from * s + k) 0
  unfolding copied
  copied_other d hf room k h = ⊎_elim
      (λ (lt : from < to).
      let fits : from * s + s ≤ to * s = row_before s lt in
      let head : take (to * s) (copied k) ≡ take (to * s) ws =
      ap (take (to * s)) (append_assoc (take (to * s) ws) (take k (drop (from * s) ws)) (drop (to * s + k) ws))
      ∙ take_at (take (to * s) ws) (take k (drop (from * s) ws) ++ drop (to * s + k) ws) (to * s) (length-take-le (to * s) ws (omega arith)) in
      sym (get_or-take (to * s) (copied k) (from * s + k) 0 (omega arith)) ∙ ap (λ (l : List ℕ). get_or l (from * s + k) 0) head
      ∙ get_or-take (to * s) ws (from * s + k) 0 (omega arith))
      (λ (le : to ≤ from).
      let fits : to * s + s ≤ from * s = row_before s (after le d) in
      let place : to * s + k + (from * s - to * s) ≡ from * s + k = omega arith in
      let tail : drop (to * s + k) (copied k) ≡ drop (to * s + k) ws = drop-paste ws (to * s) (drop (from * s) ws) k (omega arith) (simp length-drop (omega arith)) in
      ap (λ (p : ℕ). get_or (copied k) p 0) (sym place) ∙ sym (get_or-drop (to * s + k) (copied k) (from * s - to * s) 0)
      ∙ ap (λ (l : List ℕ). get_or l (from * s - to * s) 0) tail ∙ get_or-drop (to * s + k) ws (from * s - to * s) 0 ∙ ap (λ (p : ℕ). get_or ws p 0) place)
      (lt_or_le from to)

  pub copied_suc : (from ≡ to → ⊥) → from * s + s ≤ length ws → to * s + s ≤ length ws → (k : ℕ) → k < s → set (copied k) (to * s + k) (get_or (copied k) (from * s + k) 0) ≡ copied (k + 1)
  unfolding copied
  copied_suc d hf room k h =
      ap (set (copied k) (to * s + k)) (copied_other d hf room k h ∙ sym (get_or-drop (from * s) ws k 0))
      ∙ paste-suc ws (to * s) (drop (from * s) ws) k 0 (omega arith) (simp length-drop (omega arith))
      ∙ ap (paste ws (to * s) (drop (from * s) ws)) (sym (add-one k))

pub put_key_same : (s : ℕ) (ws : List ℕ) (i : ℕ) → put_key s ws i (key_at s ws i) ≡ ws
put_key_same s ws i =
    ap (λ (l : List ℕ). take (i * s) ws ++ (key_at s ws i ++ l)) (sym (drop-drop s (i * s) ws))
    ∙ ap (λ (l : List ℕ). take (i * s) ws ++ l) (take-append-drop s (drop (i * s) ws)) ∙ take-append-drop (i * s) ws

pub put_key_put : (s : ℕ) (ws : List ℕ) (i : ℕ) (a b : List ℕ) → i * s + s ≤ length ws → length a ≡ s → put_key s (put_key s ws i a) i b ≡ put_key s ws i b
put_key_put s ws i a b room whole =
    let front : take (i * s) (put_key s ws i a) ≡ take (i * s) ws =
    take_at (take (i * s) ws) (a ++ drop (i * s + s) ws) (i * s) (length-take-le (i * s) ws (omega arith)) in
    λ k. front k ++ (b ++ drop_put_key s ws i a room whole k)
