-- "Mean: coefficients with x zero, summed in row order, real part."
use Rattle.std.specs.Prelude.{ℕ, cond, List, Float}
use Rattle.std.specs.Float.{binary64}
use Rattle.std.specs.Float.Ieee.{add}
use Rattle.numbers.specs.Constants.{zero64}
use Rattle.words.specs.Keys.{no_x}
use Rattle.terms.specs.Lists.{foldl}
use Rattle.published.specs.Term.{Term}

abbrev pub add_mean : ℕ → Float → Term → Float
add_mean w s t = cond (no_x w t.key) (add binary64 s t.coeff.re) s

abbrev pub mean_of : ℕ → List Term → Float
mean_of w ts = foldl (add_mean w) zero64 ts
