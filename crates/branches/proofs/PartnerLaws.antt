-- What the functions on one key and one row compute. Assumes nothing.
use mathlib.Core.Path.{◌≡◌, sym, ap, ap₂, ◌∙◌}
use mathlib.Core.List.{List, ◌++◌}
use Prim.Native.Nat.{ℕ, ◌+◌, ◌-◌, ◌*◌, ◌≤◌}
use native.Mathlib.Nat.{add-sub_cancel_left}
use lib.ListN.{length, take, drop}
use lib.Seq.{drop-drop}
use Rattle.words.specs.Keys.{Key, flip_at, z_at}
use Rattle.terms.specs.declared.Axis.{Axis}
use Rattle.terms.specs.declared.Axis.TheVariants.{Z, Zz}
use Rattle.terms.specs.Rotation.{partner_by}
use Rattle.words.specs.Rows.{key_at}
use Rattle.rows.specs.Rows.{put_key}
use Rattle.rows.proofs.RowLaws.{length_key, key_put_same, put_key_put}

-- ---- one row as a part of the buffer

pub part_put : (s i : ℕ) (ws : List ℕ) {k l : Key} → k ≡ l
    → take (i * s) ws ++ (k ++ drop (i * s + s - i * s) (drop (i * s) ws)) ≡ put_key s ws i l
part_put s i ws {k} {l} e =
    ap₂ (λ (x : Key) (n : ℕ). take (i * s) ws ++ (x ++ drop n (drop (i * s) ws))) e (add-sub_cancel_left (i * s) s)
    ∙ ap (λ (r : List ℕ). take (i * s) ws ++ (l ++ r)) (drop-drop s (i * s) ws)

-- a row copied to a later one, and flipped there
pub appended_key : (s i m : ℕ) (f : Key → Key) (ws : List ℕ) {ws₁ ws₂ : List ℕ} → i * s + s ≤ length ws → m * s + s ≤ length ws
    → ws₁ ≡ put_key s ws m (key_at s ws i) → ws₂ ≡ put_key s ws₁ m (f (key_at s ws₁ m)) → ws₂ ≡ put_key s ws m (f (key_at s ws i))
appended_key s i m f ws {ws₁} hi hm e₁ e₂ =
    let l = length_key s ws i hi in
    let k : key_at s ws₁ m ≡ key_at s ws i = ap (λ (x : List ℕ). key_at s x m) e₁ ∙ key_put_same s ws m (key_at s ws i) hm l in
    e₂ ∙ (λ z. put_key s (e₁ z) m (f (k z))) ∙ put_key_put s ws m (key_at s ws i) (f (key_at s ws i)) hm l

-- ---- one key

pub flip_one : (w : ℕ) (x : Axis) (q : ℕ) (k : Key) {l : Key} → x ≡ Z q → l ≡ flip_at k (z_at w q) → l ≡ partner_by w x k
unfolding partner_by
flip_one w x q k e h = h ∙ ap (λ (y : Axis). partner_by w y k) (sym e)

pub flip_two : (w : ℕ) (x : Axis) (a b : ℕ) (k : Key) {l m : Key} → x ≡ Zz a b → l ≡ flip_at k (z_at w a) → m ≡ flip_at l (z_at w b) → m ≡ partner_by w x k
unfolding partner_by
flip_two w x a b k e h g = g ∙ ap (λ (y : Key). flip_at y (z_at w b)) h ∙ ap (λ (y : Axis). partner_by w y k) (sym e)
