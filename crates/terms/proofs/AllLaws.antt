-- Laws of `All`, a property of every element, and of what each step of a fold keeps. Assumes nothing.
use mathlib.Core.List.{List, [], ◌∷◌, ◌++◌, map}
use Prim.Native.Nat.{ℕ, zero, suc, ◌<◌, zero-le, suc-le-suc}
use native.Mathlib.Nat.{le_of_suc-le-suc, not-suc-le-zero}
use lib.ListN.{length, get_or}
use Rattle.terms.specs.Lists.{foldl, All}

module _ {A : Type 0} where
  -- the property of the element at an index, and of every element from those at the indices
  pub all_at : (p : A → Type 0) (l : List A) (i : ℕ) (d : A) → i < length l → All p l → p (get_or l i d)
  all_at p [] i d h x = absurd (not-suc-le-zero h)
  all_at p (a ∷ l) zero d h x = x.0
  all_at p (a ∷ l) (suc i) d h x = all_at p l i d (le_of_suc-le-suc h) x.1

  pub all_of : (p : A → Type 0) (l : List A) (d : A) → ((i : ℕ) → i < length l → p (get_or l i d)) → All p l
  all_of p [] d h = tt
  all_of p (a ∷ l) d h = (h zero (suc-le-suc zero-le), all_of p l d (λ i m. h (suc i) (suc-le-suc m)))

  pub all_every : (p : A → Type 0) (l : List A) → ((a : A) → p a) → All p l
  all_every p [] f = tt
  all_every p (a ∷ l) f = (f a, all_every p l f)

  pub all_imp : (p q : A → Type 0) (l : List A) → ((a : A) → p a → q a) → All p l → All q l
  all_imp p q [] f x = tt
  all_imp p q (a ∷ l) f x = (f a x.0, all_imp p q l f x.1)

  pub all_and : (p q : A → Type 0) (l : List A) → All p l → All q l → All (λ a. p a × q a) l
  all_and p q [] x y = tt
  all_and p q (a ∷ l) x y = ((x.0, y.0), all_and p q l x.1 y.1)

  pub all_append : (p : A → Type 0) (l m : List A) → All p l → All p m → All p (l ++ m)
  all_append p [] m x y = y
  all_append p (a ∷ l) m x y = (x.0, all_append p l m x.1 y)

  pub all_map : {B : Type 0} (p : A → Type 0) (q : B → Type 0) (f : A → B) (l : List A) → ((a : A) → p a → q (f a)) → All p l → All q (map f l)
  all_map p q f [] h x = tt
  all_map p q f (a ∷ l) h x = (h a x.0, all_map p q f l h x.1)

  -- what every step keeps, the fold keeps
  pub fold_keeps : {S : Type 0} (p : A → Type 0) (q : S → Type 0) (f : S → A → S) → ((s : S) (a : A) → p a → q s → q (f s a))
      → (l : List A) (s : S) → All p l → q s → q (foldl f s l)
  unfolding foldl
  fold_keeps p q f step [] s x h = h
  fold_keeps p q f step (a ∷ l) s x h = fold_keeps p q f step l (f s a) x.1 (step s a x.0 h)
