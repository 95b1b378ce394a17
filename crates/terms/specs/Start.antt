-- The terms with which a run starts, from the words and weights of the `term` lines.
use Rattle.std.specs.Prelude.{ℕ, ◌%◌, cond, List, [], ◌∷◌, ◌++◌, ltb, Float}
use Rattle.numbers.specs.Constants.{zero64}
use Rattle.words.specs.Keys.{Key}
use Rattle.words.specs.Letters.{ys_of}
use Rattle.terms.specs.Lists.{foldl}
use Rattle.terms.specs.Coefficient.{signed}
use Rattle.terms.specs.Term.{Term, term, is_in, add_to}

-- "Y sets both and multiplies by i": two Y letters, or three, make a minus sign
unfoldable pub term_of : ℕ → Key → Float → Term
term_of w k weight = term k (signed (ltb 1 (ys_of w k % 4)) weight)

-- "equal words share a row, in order of first line, their coefficients added from 0 in line order"
unfoldable pub share : List Term → Term → List Term
share ts t = add_to t.key t.coeff (cond (is_in t.key ts) ts (ts ++ (term t.key zero64 ∷ [])))

abbrev pub coalesced : List Term → List Term
coalesced ts = foldl share [] ts

abbrev pub merged : List Term → List Term
merged [] = []
merged (t ∷ []) = t ∷ []
merged (t ∷ u ∷ ts) = coalesced (t ∷ u ∷ ts)
