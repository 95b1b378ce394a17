-- Laws of `tab`, `foldl` and `map_to`. Assumes nothing.
use mathlib.Core.Path.{◌≡◌, refl, ap, ◌∙◌}
use mathlib.Core.List.{List, [], ◌∷◌, ◌++◌, map}
use Prim.Native.Nat.{ℕ, zero, suc, ◌+◌, ◌<◌, zero-le, suc-le-suc}
use native.Mathlib.Nat.{le_of_suc-le-suc, not-suc-le-zero, suc_inj, suc-ne-zero}
use native.Mathlib.Omega.{arith}
use lib.ListN.{length, get_or, set, drop}
use native.Mathlib.Numerals.{add-one}
use Rattle.terms.specs.Lists.{tab, foldl, map_to}

module _ {A : Type 0} where
  pub length_tab : (n : ℕ) (f : ℕ → A) → length (tab n f) ≡ n
  unfolding tab
  length_tab zero f = refl
  length_tab (suc n) f = ap suc (length_tab n (λ i. f (suc i)))

  pub get_d_tab : (n : ℕ) (f : ℕ → A) (i : ℕ) (d : A) → i < n → get_or (tab n f) i d ≡ f i
  unfolding tab
  get_d_tab zero f i d h = absurd (not-suc-le-zero h)
  get_d_tab (suc n) f zero d h = refl
  get_d_tab (suc n) f (suc i) d h = get_d_tab n (λ i. f (suc i)) i d (le_of_suc-le-suc h)

  pub tab_ext : (n : ℕ) (f g : ℕ → A) → ((i : ℕ) → i < n → f i ≡ g i) → tab n f ≡ tab n g
  unfolding tab
  tab_ext zero f g h = refl
  tab_ext (suc n) f g h = λ k. h zero (suc-le-suc zero-le) k ∷ tab_ext n (λ i. f (suc i)) (λ i. g (suc i)) (λ i l. h (suc i) (suc-le-suc l)) k

  pub tab_snoc : (n : ℕ) (f : ℕ → A) → tab (suc n) f ≡ tab n f ++ (f n ∷ [])
  unfolding tab
  tab_snoc zero f = refl
  tab_snoc (suc n) f = ap (λ (l : List A). f zero ∷ l) (tab_snoc n (λ i. f (suc i)))

  -- g is f but for v at i
  pub tab_set : (n : ℕ) (f g : ℕ → A) (i : ℕ) (v : A) → i < n → g i ≡ v → ((j : ℕ) → j < n → (j ≡ i → ⊥) → g j ≡ f j) → tab n g ≡ set (tab n f) i v
  unfolding tab
  tab_set zero f g i v h e o = absurd (not-suc-le-zero h)
  tab_set (suc n) f g zero v h e o = λ k. e k ∷ tab_ext n (λ i. g (suc i)) (λ i. f (suc i)) (λ i l. o (suc i) (suc-le-suc l) (λ q. omega arith)) k
  tab_set (suc n) f g (suc i) v h e o =
      λ k. o zero (suc-le-suc zero-le) (λ q. omega arith) k
      ∷ tab_set n (λ i. f (suc i)) (λ i. g (suc i)) i v (le_of_suc-le-suc h) e (λ j l q. o (suc j) (suc-le-suc l) (λ z. q (suc_inj z))) k

  pub map_tab : {B : Type 0} (n : ℕ) (f : ℕ → A) (g : A → B) → map g (tab n f) ≡ tab n (λ i. g (f i))
  unfolding tab
  map_tab zero f g = refl
  map_tab (suc n) f g = ap (λ (l : List _). g (f zero) ∷ l) (map_tab n (λ i. f (suc i)) g)

  -- one turn of a loop that folds the elements of a list
  pub fold_step : {S : Type 0} (f : S → A → S) (s : S) (l : List A) (i : ℕ) (d : A) → i < length l → foldl f s (drop i l) ≡ foldl f (f s (get_or l i d)) (drop (suc i) l)
  unfolding foldl
  fold_step f s [] i d h = absurd (not-suc-le-zero h)
  fold_step f s (x ∷ l) zero d h = refl
  fold_step f s (x ∷ l) (suc i) d h = fold_step f s l i d (le_of_suc-le-suc h)

  -- ---- a loop's turn

  pub map_to_all : (f : A → A) (l : List A) (n : ℕ) → length l ≡ n → map_to f n l ≡ map f l
  unfolding map_to
  map_to_all f [] zero h = refl
  map_to_all f [] (suc n) h = refl
  map_to_all f (x ∷ l) zero h = absurd (suc-ne-zero _ h)
  map_to_all f (x ∷ l) (suc n) h = ap (λ (r : List A). f x ∷ r) (map_to_all f l n (suc_inj h))

  pub map_to_suc : (f : A → A) (l : List A) (n : ℕ) (d : A) → set (map_to f n l) n (f (get_or (map_to f n l) n d)) ≡ map_to f (suc n) l
  unfolding map_to
  map_to_suc f [] zero d = refl
  map_to_suc f [] (suc n) d = refl
  map_to_suc f (x ∷ l) zero d = refl
  map_to_suc f (x ∷ l) (suc n) d = ap (λ (r : List A). f x ∷ r) (map_to_suc f l n d)

  pub fold_snoc : {S : Type 0} (f : S → A → S) (s : S) (l : List A) (a : A) → foldl f s (l ++ (a ∷ [])) ≡ f (foldl f s l) a
  unfolding foldl
  fold_snoc f s [] a = refl
  fold_snoc f s (x ∷ l) a = fold_snoc f (f s x) l a

  pub fold_tab : {S : Type 0} (f : S → A → S) (s : S) (g : ℕ → A) (n : ℕ) → foldl f s (tab (n + 1) g) ≡ f (foldl f s (tab n g)) (g n)
  fold_tab f s g n = ap (λ (k : ℕ). foldl f s (tab k g)) (add-one n) ∙ ap (foldl f s) (tab_snoc n g) ∙ fold_snoc f s (tab n g) (g n)
