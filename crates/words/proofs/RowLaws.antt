-- The laws of rows, for the crates above: a buffer with one row replaced has that row, every other row as it was, and its length. Over rows of any size.
-- Assumes nothing.
use Prim.Native.Nat.{ℕ, ◌+◌, ◌-◌, ◌*◌, ◌≤◌, ◌<◌}
use mathlib.Core.Path.{◌≡◌, sym, ap, ◌∙◌, subst}
use mathlib.Core.Logic.{⊎_elim}
use mathlib.Core.List.{List, ◌++◌, append_assoc}
use native.Mathlib.Nat.{mul-le-mul_right, suc-mul, eq-or-lt_of_le}
use native.Mathlib.Omega.{arith}
use native.Mathlib.Decide.{dec_lt}
use lib.ListN.{length, take, drop, length-append, length-drop, take-append-drop}
use lib.Seq.{length-take-le, take-append-le, drop-append-le, take_at, drop_at, drop-drop}

-- ---- rows of s words

-- row i, and the buffer with k as its row i
abbrev pub part : ℕ → List ℕ → ℕ → List ℕ
part s ws i = take s (drop (i * s) ws)

abbrev pub with_part : ℕ → List ℕ → ℕ → List ℕ → List ℕ
with_part s ws i k = take (i * s) ws ++ (k ++ drop (i * s + s) ws)

-- a row ends where a later one begins, or before
pub row_before : (s : ℕ) {i j : ℕ} → i < j → i * s + s ≤ j * s
row_before s {i} {j} h = subst (λ (n : ℕ). n ≤ j * s) (suc-mul i s) (mul-le-mul_right s h)

pub drop_more : {A : Type 0} (p q : ℕ) (x y : List A) → p ≤ q → drop p x ≡ drop p y → drop q x ≡ drop q y
drop_more p q x y h e =
    let s : p + (q - p) ≡ q = omega arith in
    subst (λ (n : ℕ). drop n x ≡ drop n y) s (sym (drop-drop (q - p) p x) ∙ ap (drop (q - p)) e ∙ drop-drop (q - p) p y)

pub after : {i j : ℕ} → i ≤ j → (j ≡ i → ⊥) → i < j
after {i} {j} l n = ⊎_elim (λ e. absurd (n (sym e))) (λ h. h) (eq-or-lt_of_le l)

-- a row lies in a prefix that has it whole
part_prefix : (s : ℕ) (a b : List ℕ) (j : ℕ) → j * s + s ≤ length a → part s (a ++ b) j ≡ part s a j
part_prefix s a b j h =
    ap (take s) (drop-append-le (j * s) a b (omega arith))
    ∙ take-append-le s (drop (j * s) a) b (simp length-drop (omega arith))

pub length_part : (s : ℕ) (ws : List ℕ) (i : ℕ) → i * s + s ≤ length ws → length (part s ws i) ≡ s
length_part s ws i h = length-take-le s (drop (i * s) ws) (simp length-drop (omega arith))

module _ (s : ℕ) (ws : List ℕ) (i : ℕ) (k : List ℕ) (room : i * s + s ≤ length ws) (whole : length k ≡ s) where
  head_length : length (take (i * s) ws) ≡ i * s
  head_length = length-take-le (i * s) ws (omega arith)

  pub length_with_part : length (with_part s ws i k) ≡ length ws
  length_with_part = rw (length-append, length-append, length-drop, head_length) (omega arith)

  pub drop_with_part : drop (i * s + s) (with_part s ws i k) ≡ drop (i * s + s) ws
  drop_with_part =
      ap (drop (i * s + s)) (sym (append_assoc (take (i * s) ws) k (drop (i * s + s) ws)))
      ∙ drop_at (take (i * s) ws ++ k) (drop (i * s + s) ws) (i * s + s) (length-append (take (i * s) ws) k ∙ (λ z. head_length z + whole z))

  pub part_same : part s (with_part s ws i k) i ≡ k
  part_same =
      ap (take s) (drop_at (take (i * s) ws) (k ++ drop (i * s + s) ws) (i * s) head_length)
      ∙ take_at k (drop (i * s + s) ws) s whole

  pub part_other : (j : ℕ) → (j ≡ i → ⊥) → part s (with_part s ws i k) j ≡ part s ws j
  part_other j n = go (dec_lt j i)
    where
      go : Dec (j < i) → part s (with_part s ws i k) j ≡ part s ws j
      go (yes l) =
          let r : j * s + s ≤ length (take (i * s) ws) = rw head_length (row_before s l) in
          part_prefix s (take (i * s) ws) (k ++ drop (i * s + s) ws) j r
          ∙ sym (part_prefix s (take (i * s) ws) (drop (i * s) ws) j r) ∙ ap (λ (z : List ℕ). part s z j) (take-append-drop (i * s) ws)
      go (no l) = let m : i ≤ j = omega arith in ap (take s) (drop_more (i * s + s) (j * s) (with_part s ws i k) ws (row_before s (after m n)) drop_with_part)
