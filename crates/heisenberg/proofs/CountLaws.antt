-- How many bits below n are set, of two that differ at one or two places only. Assumes nothing.
use Prim.Native.Nat.{ℕ, zero, suc, ◌+◌, ◌<◌}
use mathlib.Core.Path.{◌≡◌, refl, sym, ap, ap₂, ◌∙◌}
use mathlib.Core.Bool.{Bool, cond, ◌&&◌}
use mathlib.Core.Logic.{◌≢◌}
use native.Mathlib.Nat.{not-suc-le-zero}
use native.Mathlib.Omega.{arith}
use native.Mathlib.Decide.{ℕ_discrete}
use borrow.Author.Tests.{eq-eqb, ne_eqb}
use Rattle.words.specs.Keys.{Key, bit_at, z_at}
use Rattle.words.specs.Letters.{count_y}
use Rattle.heisenberg.specs.TableauRow.{put}

-- ---- one bit replaced

module _ (a : ℕ) (v : Bool) (f : ℕ → Bool) where
  pub put_same : (q : ℕ) → q ≡ a → put a v f q ≡ v
  put_same q e = ap (λ (t : Bool). cond t v (f q)) (eq-eqb q a e)

  pub put_other : (q : ℕ) → q ≢ a → put a v f q ≡ f q
  put_other q n = ap (λ (t : Bool). cond t v (f q)) (ne_eqb q a n)

  -- by what it was
  pub put_own : v ≡ f a → (q : ℕ) → put a v f q ≡ f q
  put_own e q = go (ℕ_discrete q a)
    where
      go : Dec (q ≡ a) → put a v f q ≡ f q
      go (yes m) = put_same q m ∙ e ∙ ap f (sym m)
      go (no n) = put_other q n

-- ---- counts

abbrev pub one : Bool → ℕ
one b = cond b 1 0

unfoldable count : ℕ → (ℕ → Bool) → ℕ
count zero f = 0
count (suc n) f = one (f n) + count n f

abbrev has_y : ℕ → Key → ℕ → Bool
has_y w k q = bit_at k q && bit_at k (z_at w q)

count_ys : (w n : ℕ) (k : Key) → count_y w n k ≡ count n (has_y w k)
unfolding count_y count
count_ys w zero k = refl
count_ys w (suc n) k = ap (λ (m : ℕ). one (has_y w k n) + m) (count_ys w n k)

count_same : (n : ℕ) (f g : ℕ → Bool) → ((q : ℕ) → q < n → f q ≡ g q) → count n f ≡ count n g
unfolding count
count_same zero f g h = refl
count_same (suc n) f g h = ap₂ (λ (y : Bool) (m : ℕ). one y + m) (h n (omega arith)) (count_same n f g (λ q i. h q (omega arith)))

count_but : (n a : ℕ) (f g : ℕ → Bool) → a < n → ((q : ℕ) → q < n → q ≢ a → f q ≡ g q) → count n g + one (f a) ≡ count n f + one (g a)
unfolding count
count_but zero a f g h e = absurd (not-suc-le-zero h)
count_but (suc n) a f g h e = go (ℕ_discrete n a) (λ i. count_but n a f g i (λ q j. e q (omega arith)))
  where
    go : Dec (n ≡ a) → (a < n → count n g + one (f a) ≡ count n f + one (g a)) → one (g n) + count n g + one (f a) ≡ one (f n) + count n f + one (g a)
    go (yes m) below = let s = count_same n f g (λ q i. e q (omega arith) (λ z. omega arith)) in rw (← m) (omega arith)
    go (no d) below =
        let m = below (omega arith) in
        let s = ap one (e n (omega arith) d) in
        omega arith

module _ (w n : ℕ) (k l : Key) where
  -- the Y letters of two words that differ at a only
  pub ys_but : (a : ℕ) → a < n → ((q : ℕ) → q < n → q ≢ a → has_y w k q ≡ has_y w l q) → count_y w n l + one (has_y w k a) ≡ count_y w n k + one (has_y w l a)
  ys_but a h e = omega (arith, count_ys w n k, count_ys w n l, count_but n a (has_y w k) (has_y w l) h e)

  -- or at a and b only
  pub ys_two : (a b : ℕ) → a < n → b < n → a ≢ b → ((q : ℕ) → q < n → q ≢ a → q ≢ b → has_y w k q ≡ has_y w l q)
      → count_y w n l + (one (has_y w k a) + one (has_y w k b)) ≡ count_y w n k + (one (has_y w l a) + one (has_y w l b))
  ys_two a b ha hb ne e =
      let f = has_y w k in
      let g = has_y w l in
      let h = put a (g a) f in
      let p = count_but n a f h ha (λ q i m. sym (put_other a (g a) f q m)) in
      let q = count_but n b h g hb (λ q i m. go q i m (ℕ_discrete q a)) in
      omega (arith, count_ys w n k, count_ys w n l, p, q, ap one (put_same a (g a) f a refl), ap one (put_other a (g a) f b (λ m. ne (sym m))))
    where
      go : (q : ℕ) → q < n → q ≢ b → Dec (q ≡ a) → put a (has_y w l a) (has_y w k) q ≡ has_y w l q
      go q i m (yes z) = put_same a (has_y w l a) (has_y w k) q z ∙ ap (has_y w l) (sym z)
      go q i m (no z) = put_other a (has_y w l a) (has_y w k) q z ∙ e q i z m
