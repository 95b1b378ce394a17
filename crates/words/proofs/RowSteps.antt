-- Rows of a buffer: a row below the count lies within the buffer, and a part that comes back is the buffer with that row. Assumes nothing.
use Prim.Native.Nat.{ℕ, zero, suc, ◌+◌, ◌-◌, ◌*◌, ◌/◌, ◌≤◌, ◌<◌}
use mathlib.Core.Path.{◌≡◌, ap, ◌∙◌, subst}
use mathlib.Core.List.{List, ◌++◌}
use native.Mathlib.Nat.{div-zero, le-div_iff_mul-le, suc-mul, add-sub_cancel_left, div-eq_of_lt}
use native.Mathlib.Omega.{arith}
use lib.ListN.{take, drop}
use lib.Seq.{drop-drop}
use Rattle.words.specs.Rows.{key_at, with_row}

pub rows_fit : (n w l : ℕ) → n ≤ l / (2 * w) → n * (2 * w) ≤ l
rows_fit n zero l h = let z : n ≤ 0 = subst (λ (x : ℕ). n ≤ x) (div-zero l) h in omega arith
rows_fit n (suc w) l h = let p : 0 < 2 * suc w = omega arith in (le-div_iff_mul-le p).0 h

pub row_fits : (n w r : ℕ) → r < n / (2 * w) → r * (2 * w) + 2 * w ≤ n
row_fits n w r h = subst (λ (x : ℕ). x ≤ n) (suc-mul r (2 * w)) (rows_fit (suc r) w n h)

pub few_words : (n w : ℕ) → n / 2 < w → n / (2 * w) ≡ 0
few_words n w h = div-eq_of_lt (omega arith)

pub no_rows : (n w : ℕ) → w ≡ 0 → n / (2 * w) ≡ 0
no_rows n w h = ap (λ (w : ℕ). n / (2 * w)) h ∙ div-zero n

module _ (w r : ℕ) (ws : List ℕ) where
  pub part_is : take (r * (2 * w) + 2 * w - r * (2 * w)) (drop (r * (2 * w)) ws) ≡ key_at (2 * w) ws r
  part_is = ap (λ (n : ℕ). take n (drop (r * (2 * w)) ws)) (add-sub_cancel_left (r * (2 * w)) (2 * w))

  pub part_back : (k : List ℕ) → take (r * (2 * w)) ws ++ (k ++ drop (r * (2 * w) + 2 * w - r * (2 * w)) (drop (r * (2 * w)) ws)) ≡ with_row w r k ws
  part_back k =
      ap (λ (l : List ℕ). take (r * (2 * w)) ws ++ (k ++ l))
      (ap (λ (n : ℕ). drop n (drop (r * (2 * w)) ws)) (add-sub_cancel_left (r * (2 * w)) (2 * w)) ∙ drop-drop (2 * w) (r * (2 * w)) ws)
