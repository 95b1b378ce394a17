-- Lists made from a function of the index, and a step done to each element in turn.
use Rattle.std.specs.Prelude.{ℕ, zero, suc, List, [], ◌∷◌}

-- f 0, f 1, .., f (n - 1)
unfoldable pub tab : {A : Type 0} → ℕ → (ℕ → A) → List A
tab zero f = []
tab (suc n) f = f zero ∷ tab n (λ i. f (suc i))

-- a step for each element, in order
unfoldable pub foldl : {A S : Type 0} → (S → A → S) → S → List A → S
foldl f s [] = s
foldl f s (a ∷ l) = foldl f (f s a) l

-- a function done to the first n elements
unfoldable pub map_to : {A : Type 0} → (A → A) → ℕ → List A → List A
map_to f zero l = l
map_to f (suc n) [] = []
map_to f (suc n) (a ∷ l) = f a ∷ map_to f n l

-- a property of every element
abbrev pub All : {A : Type 0} → (A → Type 0) → List A → Type 0
All p [] = Unit {0}
All p (a ∷ l) = p a × All p l

-- two lists whose elements are related one by one
pub data Each {A D : Type 0} (R : A → D → Type 0) : List A → List D → Type 0 where
  none : Each R [] []
  more : {a : A} {d : D} {l : List A} {m : List D} → R a d → Each R l m → Each R (a ∷ l) (d ∷ m)
