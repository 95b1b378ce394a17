-- The terms with which a run starts, from the words and weights of the `term` lines.
use Rattle.std.specs.Prelude.{ℕ, cond, List, [], ◌∷◌, ◌++◌, Float}
use Rattle.numbers.specs.Constants.{zero64}
use Rattle.words.specs.Keys.{Key}
use Rattle.published.specs.Complex.{complex, none64, quarter_turned}
use Rattle.terms.specs.Lists.{foldl}
use Rattle.words.specs.Letters.{ys_of}
use Rattle.published.specs.Term.{Term, term, is_in, add_to}

-- "Y sets both and multiplies by i": the term of a line with the word k
unfoldable pub term_of : ℕ → Key → Float → Term
term_of w k weight = term k (quarter_turned (ys_of w k) (complex weight zero64))

-- "equal words share a row, in order of first line, their coefficients added from 0 in line order"
unfoldable pub share : List Term → Term → List Term
share ts t = add_to t.key t.coeff (cond (is_in t.key ts) ts (ts ++ (term t.key none64 ∷ [])))

abbrev pub coalesced : List Term → List Term
coalesced ts = foldl share [] ts

-- "Two or more `term` lines are merged at the start"
abbrev pub merged : List Term → List Term
merged [] = []
merged (t ∷ []) = t ∷ []
merged (t ∷ u ∷ ts) = coalesced (t ∷ u ∷ ts)
