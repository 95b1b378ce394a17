-- What the start of a run, from a table of keys and weights, leaves in the two lent buffers.
use Rattle.std.specs.Prelude.{◌≡◌, ℕ, ◌+◌, ◌*◌, Bool, cond, List, length, get_or, Float, Option, Some, None}
use Rattle.std.specs.Float.{nan}
use Rattle.terms.specs.Lists.{tab}
use Rattle.terms.specs.Coefficient.{plus_of}
use Rattle.numbers.specs.Constants.{zero64}
use Rattle.terms.specs.Term.{Term}
use Rattle.terms.specs.Start.{term_of}
use Rattle.words.specs.Rows.{key_at}
use Rattle.rows.specs.Rows.{coeff_at, put_key, put_coeff, words_with, coeffs_with}

-- the terms of the first lines
abbrev pub lines_of : ℕ → List ℕ → List Float → ℕ → List Term
lines_of w keys weights lines = tab lines (λ l. term_of w (key_at (2 * w) keys l) (get_or weights l nan))

-- the terms ts in the first R rows, and how many they are; without room, or without the lines, all as it was and none
pub record Started (room : Bool) (w R : ℕ) (ts : List Term) (r : ℕ) (ws ws' : List ℕ) (cs cs' : List Float) : Type 0 where
  pub count : r ≡ cond room (length ts) 0
  pub words : ws' ≡ cond room (words_with w R ts ws) ws
  pub coeffs : cs' ≡ cond room (coeffs_with R ts cs) cs

-- ---- row i merged into the first m rows, by where its key is found there

abbrev pub shared_words : ℕ → ℕ → ℕ → List ℕ → Option ℕ → List ℕ
shared_words s i m ws (Some j) = ws
shared_words s i m ws None = put_key s ws m (key_at s ws i)

abbrev pub shared_coeffs : ℕ → ℕ → List Float → Option ℕ → List Float
shared_coeffs i m cs (Some j) = put_coeff cs j (plus_of (coeff_at cs j) (coeff_at cs i))
shared_coeffs i m cs None = put_coeff cs m (plus_of zero64 (coeff_at cs i))

abbrev pub shared_count : ℕ → Option ℕ → ℕ
shared_count m (Some j) = m
shared_count m None = m + 1

pub record SharedRow (s i m : ℕ) (f : Option ℕ) (r : ℕ) (ws ws' : List ℕ) (cs cs' : List Float) : Type 0 where
  pub words : ws' ≡ shared_words s i m ws f
  pub coeffs : cs' ≡ shared_coeffs i m cs f
  pub count : r ≡ shared_count m f
