-- "A term is words x, z, meaning X^x Z^z, and a complex coefficient." A sum is the list of its terms, in row order.
use Rattle.std.specs.Prelude.{ℕ, Bool, true, false, cond, ◌&&◌, ◌||◌, List, [], ◌∷◌}
use Rattle.std.proofs.Math.Option.{Option, none, some}
use Rattle.published.specs.declared.Complex64.{Complex64}
use Rattle.words.specs.declared.Gate.{Gate}
use Rattle.words.specs.Keys.{Key, same_key}
use Rattle.words.specs.Gates.{bits_at, conj_key, conj_phase}
use Rattle.terms.specs.Term as R
use Rattle.terms.specs.Term.{odd_y}
use Rattle.published.specs.Complex.{plus_of, quarter_turned, finite_of, coeff_of}

pub record Term : Type 0 where
  pub key : Key
  pub coeff : Complex64

abbrev pub term : Key → Complex64 → Term
term k c = record { key = k; coeff = c }

-- the term with a complex coefficient that a row stands for
abbrev pub complex_of : ℕ → R.Term → Term
complex_of w t = term t.key (coeff_of (odd_y w t.key) t.coeff)

-- the coefficient of the word k, if a term has it
unfoldable pub find : Key → List Term → Option Complex64
find k [] = none
find k (t ∷ ts) = let r = find k ts in cond (same_key k t.key) (some t.coeff) r

-- whether a term has the word k
unfoldable pub is_in : Key → List Term → Bool
is_in k [] = false
is_in k (t ∷ ts) = same_key k t.key || is_in k ts

-- d added to the coefficient of the word k
unfoldable pub add_to : Key → Complex64 → List Term → List Term
add_to k d [] = []
add_to k d (t ∷ ts) = let r = add_to k d ts in cond (same_key k t.key) (term t.key (plus_of t.coeff d) ∷ ts) (t ∷ r)

-- "The gates map and phase a term": `conjugate_all_backward_phased`, for one term
unfoldable pub conjugated : ℕ → Gate → ℕ → ℕ → Term → Term
conjugated w g a b t = term (conj_key g w a b t.key) (quarter_turned (conj_phase g (bits_at w a b t.key)) t.coeff)

-- "Is every coefficient (merging included) finite?"
unfoldable pub all_finite : List Term → Bool
all_finite [] = true
all_finite (t ∷ ts) = finite_of t.coeff && all_finite ts
