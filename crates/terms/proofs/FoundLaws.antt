-- A term looked up by its word, as a row: what is added to it, and whether it is there. Assumes nothing.
use mathlib.Core.Path.{◌≡◌, refl, sym, ap, ap₂, ◌∙◌}
use mathlib.Core.Bool.{Bool, true, false, cond, ◌||◌}
use mathlib.Core.List.{List, [], ◌∷◌}
use lib.ListN.{length, get_or, set}
use lib.Ieee.{Float}
use Rattle.words.specs.Keys.{Key, same_key}
use Rattle.words.proofs.KeyLaws.{same_key_sym}
use Rattle.std.specs.Prelude.{ℕ, Option, Some, None}
use Rattle.terms.specs.Coefficient.{plus_of}
use Rattle.terms.specs.Term.{Term, term, no_term, is_in, add_to}
use Rattle.terms.specs.Branch.{first, row_of}
use Rattle.terms.proofs.FirstLaws.{or_later, first_cons}

-- d added to the coefficient of a row that was found
abbrev pub added_at : Float → List Term → Option ℕ → List Term
added_at d ts (Some j) = let t = get_or ts j no_term in set ts j (term t.key (plus_of t.coeff d))
added_at d ts None = ts

abbrev pub is_at : Option ℕ → Bool
is_at (Some j) = true
is_at None = false

pub added_row : (k : Key) (d : Float) (ts : List Term) → add_to k d ts ≡ added_at d ts (row_of (length ts) k ts)
unfolding add_to first
added_row k d [] = refl
added_row k d (t ∷ ts) =
    (λ i. cond (same_key_sym k t.key i) (term t.key (plus_of t.coeff d) ∷ ts) (t ∷ added_row k d ts i))
    ∙ go (same_key t.key k) (row_of (length ts) k ts)
    ∙ ap (added_at d (t ∷ ts)) (sym (first_cons (λ j. same_key (get_or (t ∷ ts) j no_term).key k) (length ts)))
  where
    go : (b : Bool) (f : Option ℕ) → cond b (term t.key (plus_of t.coeff d) ∷ ts) (t ∷ added_at d ts f) ≡ added_at d (t ∷ ts) (or_later b f)
    go true f = refl
    go false (Some j) = refl
    go false None = refl

pub in_row : (k : Key) (ts : List Term) → is_in k ts ≡ is_at (row_of (length ts) k ts)
unfolding is_in first
in_row k [] = refl
in_row k (t ∷ ts) =
    ap₂ ◌||◌ (same_key_sym k t.key) (in_row k ts) ∙ go (same_key t.key k) (row_of (length ts) k ts)
    ∙ ap is_at (sym (first_cons (λ j. same_key (get_or (t ∷ ts) j no_term).key k) (length ts)))
  where
    go : (b : Bool) (f : Option ℕ) → (b || is_at f) ≡ is_at (or_later b f)
    go true f = refl
    go false (Some j) = refl
    go false None = refl
