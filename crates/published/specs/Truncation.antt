-- "Drop each of size below epsilon. Dropped sizes are summed from 0 in order."
use Rattle.std.specs.Prelude.{ℕ, Bool, cond, ◌&&◌, List, [], ◌∷◌, ltb, length, Float}
use Rattle.std.specs.Float.{binary64}
use Rattle.std.specs.Float.Ieee.{add, lt}
use Rattle.numbers.specs.Constants.{zero64}
use Rattle.published.specs.Complex.{size_of}
use Rattle.terms.specs.Lists.{foldl}
use Rattle.published.specs.Term.{Term}

-- "of size below epsilon"
abbrev pub is_small : Float → Term → Bool
is_small e t = lt (size_of t.coeff) e

-- the terms that stay, in order
unfoldable pub kept_of : Float → List Term → List Term
kept_of e [] = []
kept_of e (t ∷ ts) = let r = kept_of e ts in cond (is_small e t) r (t ∷ r)

-- the sum of the dropped sizes
abbrev pub add_dropped : Float → Float → Term → Float
add_dropped e s t = cond (is_small e t) (add binary64 s (size_of t.coeff)) s

abbrev pub dropped_of : Float → List Term → Float
dropped_of e ts = foldl (add_dropped e) zero64 ts

-- "if max_terms > 0 and there are more terms than that"
abbrev pub crowded : ℕ → List Term → Bool
crowded m ts = ltb 0 m && ltb m (length ts)
