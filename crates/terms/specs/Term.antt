-- A term: words x, z, meaning X^x Z^z, and the one real that its coefficient has.
use Rattle.std.specs.Prelude.{ℕ, ◌*◌, ◌<◌, ◌≡◌, Bool, true, false, cond, ◌&&◌, ◌||◌, List, [], ◌∷◌, length, get_or, Float}
use Rattle.std.proofs.Math.Option.{Option, none, some}
use Rattle.std.specs.Float.{nan}
use Rattle.numbers.specs.Tests.{is_finite}
use Rattle.words.specs.declared.Gate.{Gate}
use Rattle.words.specs.Keys.{Key, same_key, Words}
use Rattle.words.specs.Gates.{bits_at, conj_key}
use Rattle.words.specs.Letters.{ys_of, is_odd}
use Rattle.terms.specs.Coefficient.{signed, plus_of, negates}

pub record Term : Type 0 where
  pub key : Key
  pub coeff : Float

abbrev pub term : Key → Float → Term
term k v = record { key = k; coeff = v }

abbrev pub no_term : Term
no_term = term [] nan

-- "the qubits with both x and z set .. odd" in number
abbrev pub odd_y : ℕ → Key → Bool
odd_y w k = is_odd (ys_of w k)

-- a term whose word has w x-words and w z-words, of 64 bits each
pub record OnWidth (w : ℕ) (t : Term) : Type 0 where
  pub long : length t.key ≡ 2 * w
  pub words : Words t.key

-- no two terms have the same word
unfoldable pub Distinct : List Term → Type 0
Distinct ts = (i j : ℕ) → i < length ts → j < length ts → (get_or ts i no_term).key ≡ (get_or ts j no_term).key → i ≡ j

-- the number of the word k, if a term has it
unfoldable pub find : Key → List Term → Option Float
find k [] = none
find k (t ∷ ts) = let r = find k ts in cond (same_key k t.key) (some t.coeff) r

unfoldable pub is_in : Key → List Term → Bool
is_in k [] = false
is_in k (t ∷ ts) = same_key k t.key || is_in k ts

-- d added to the number of the word k
unfoldable pub add_to : Key → Float → List Term → List Term
add_to k d [] = []
add_to k d (t ∷ ts) = let r = add_to k d ts in cond (same_key k t.key) (term t.key (plus_of t.coeff d) ∷ ts) (t ∷ r)

-- "The gates map and phase a term": the number is kept or negated
unfoldable pub conjugated : ℕ → Gate → ℕ → ℕ → Term → Term
conjugated w g a b t = term (conj_key g w a b t.key) (signed (negates g (bits_at w a b t.key) (odd_y w t.key)) t.coeff)

-- "Is every coefficient (merging included) finite?"
unfoldable pub all_finite : List Term → Bool
all_finite [] = true
all_finite (t ∷ ts) = is_finite t.coeff && all_finite ts
