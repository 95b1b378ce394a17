-- A row copied to another, for every row number. Assumes nothing.
use mathlib.Core.Path.{◌≡◌, sym, ap, ap₂, ◌∙◌}
use mathlib.Core.Bool.{Bool, true, false, cond, ◌&&◌}
use mathlib.Core.List.{List, append_assoc}
use Prim.Native.Nat.{ℕ, ◌+◌, ◌-◌, ◌*◌, ◌≤◌}
use native.Mathlib.Omega.{arith}
use lib.Dec.{leb}
use lib.ListN.{length, take, drop}
use lib.Seq.{paste}
use borrow.Author.Tests.{le-leb}
use Rattle.words.specs.Rows.{key_at}
use Rattle.rows.specs.Rows.{put_key, copied_row}

module _ (s : ℕ) (ws : List ℕ) (from to : ℕ) where
  pub copied_in : from * s + s ≤ length ws → to * s + s ≤ length ws → copied_row s ws from to ≡ put_key s ws to (key_at s ws from)
  unfolding copied_row
  copied_in h k = ap₂ (λ (x y : Bool). cond (x && y) (put_key s ws to (key_at s ws from)) ws) (le-leb (from * s + s) (length ws) h) (le-leb (to * s + s) (length ws) k)

  pub copied_from : leb (from * s + s) (length ws) ≡ false → ws ≡ copied_row s ws from to
  unfolding copied_row
  copied_from e = ap (λ (x : Bool). cond (x && leb (to * s + s) (length ws)) (put_key s ws to (key_at s ws from)) ws) (sym e)

  pub copied_to : leb (from * s + s) (length ws) ≡ true → leb (to * s + s) (length ws) ≡ false → ws ≡ copied_row s ws from to
  unfolding copied_row
  copied_to e n = ap₂ (λ (x y : Bool). cond (x && y) (put_key s ws to (key_at s ws from)) ws) (sym e) (sym n)

  pub copied_at : {k : ℕ} → k ≡ from * s + s - from * s → leb (from * s + s) (length ws) ≡ true → leb (to * s + s) (length ws) ≡ true
      → paste ws (to * s) (drop (from * s) ws) k ≡ copied_row s ws from to
  unfolding copied_row
  copied_at {k} e h n =
      let size : k ≡ s = omega arith in
      ap (paste ws (to * s) (drop (from * s) ws)) size
      ∙ append_assoc (take (to * s) ws) (key_at s ws from) (drop (to * s + s) ws)
      ∙ ap₂ (λ (x y : Bool). cond (x && y) (put_key s ws to (key_at s ws from)) ws) (sym h) (sym n)
