-- The test that every real of ops is a binary64. Assumes nothing.
use mathlib.Core.Path.{◌≡◌, refl, ap₂}
use mathlib.Core.Bool.{Bool, true, false, ◌&&◌, false≢true}
use mathlib.Core.List.{List, [], ◌∷◌}
use Prim.Native.Nat.{ℕ, ◌≤◌, ◌<◌}
use native.Mathlib.Omega.{arith}
use lib.Dec.{T}
use lib.ListN.{length, get_or}
use lib.Ieee.{Float, binary64}
use Rattle.std.specs.Float.Ieee.{fits}
use Rattle.terms.specs.Lists.{All}
use Rattle.terms.proofs.AllLaws.{all_of}
use Rattle.terms.proofs.CaseLaws.{and_true}
use Rattle.ops.specs.declared.Op.{Op}
use Rattle.ops.specs.declared.Op.TheVariants.{Barrier}
use Rattle.ops.specs.Ops.{shape_of}
use Rattle.ops.specs.Task.{every}
use Rattle.ops.specs.Binary.{IsBinary64, RealsAreBinary64, reals_fit64, all_fit64}

-- a test of every element, and the property that it tests
every_true : {A : Type 0} (p : A → Bool) (P : A → Type 0) → ((a : A) → P a → p a ≡ true) → (l : List A) → All P l → every p l ≡ true
unfolding every
every_true p P h [] x = refl
every_true p P h (a ∷ l) x = ap₂ ◌&&◌ (h a x.0) (every_true p P h l x.1)

every_told : {A : Type 0} (p : A → Bool) (P : A → Type 0) → ((a : A) → p a ≡ true → P a) → (l : List A) → every p l ≡ true → All P l
unfolding every
every_told p P h [] x = tt
every_told p P h (a ∷ l) x = let b = and_true (p a) (every p l) x in (h a b.0, every_told p P h l b.1)

fits_true : (x : Float) → IsBinary64 x → fits binary64 x ≡ true
fits_true x h = go (fits binary64 x) h
  where
    go : (b : Bool) → T b → b ≡ true
    go true t = refl
    go false t = absurd t

fits_told : (x : Float) → fits binary64 x ≡ true → IsBinary64 x
fits_told x e = go (fits binary64 x) e
  where
    go : (b : Bool) → b ≡ true → T b
    go true t = tt
    go false t = absurd (false≢true t)

pub seen_fit : (ops : List Op) (n : ℕ) → length ops ≤ n → ((k : ℕ) → k < n → RealsAreBinary64 (get_or ops k Barrier)) → all_fit64 ops ≡ true
seen_fit ops n h seen =
    every_true reals_fit64 RealsAreBinary64 (λ op x. every_true (fits binary64) IsBinary64 fits_true (shape_of op).reals x) ops
    (all_of RealsAreBinary64 ops Barrier (λ k b. seen k (omega arith)))

-- what a circuit's field says of its ops
pub fit_told : (ops : List Op) → all_fit64 ops ≡ true → All RealsAreBinary64 ops
fit_told ops e =
    every_told reals_fit64 RealsAreBinary64 (λ op x. every_told (fits binary64) IsBinary64 fits_told (shape_of op).reals x) ops e
