-- What truncation leaves in the two lent buffers, and the question of finite coefficients.
use Rattle.std.specs.Prelude.{◌≡◌, ℕ, ◌+◌, ◌*◌, Bool, cond, List, [], leb, Float}
use Rattle.std.specs.Float.{binary64}
use Rattle.std.specs.Float.Ieee.{add}
use Rattle.numbers.specs.Constants.{zero64}
use Rattle.terms.specs.Coefficient.{size_of}
use Rattle.terms.specs.Term.{all_finite}
use Rattle.terms.specs.Truncation.{is_small, kept_of, dropped_of}
use Rattle.sums.specs.declared.Kept.{Kept}
use Rattle.words.specs.Rows.{key_at}
use Rattle.rows.specs.Rows.{coeff_at, term_at, terms_in, rows_in, put_key, put_coeff, Stepped}

-- ---- truncation

pub record Truncated (w n : ℕ) (e : Float) (r : Kept) (ws ws' : List ℕ) (cs cs' : List Float) : Type 0 where
  pub step : Stepped w n n n (kept_of e (terms_in (2 * w) n ws cs)) r.count ws ws' cs cs'
  pub sum : r.dropped ≡ cond (leb n (rows_in w ws cs)) (dropped_of e (terms_in (2 * w) n ws cs)) zero64

-- row i, kept as the next row or dropped
pub record KeptRow (s i : ℕ) (e : Float) (r r' : Kept) (ws ws' : List ℕ) (cs cs' : List Float) : Type 0 where
  pub words : ws' ≡ cond (is_small e (term_at s ws cs i)) ws (put_key s ws r.count (key_at s ws i))
  pub coeffs : cs' ≡ cond (is_small e (term_at s ws cs i)) cs (put_coeff cs r.count (coeff_at cs i))
  pub kept : r' ≡ cond (is_small e (term_at s ws cs i))
      (record { count = r.count; dropped = add binary64 r.dropped (size_of (coeff_at cs i)) }) (record { count = r.count + 1; dropped = r.dropped })

-- ---- "Is every coefficient finite?", of the first n rows; the words do not matter
abbrev pub finite_rows : ℕ → List Float → Bool
finite_rows n cs = all_finite (terms_in 0 n [] cs)
