-- The rows of lent memory as one value, and what a function leaves of them.
use Rattle.std.specs.Prelude.{◌≡◌, ℕ, ◌*◌, List, length, Float}
use Rattle.terms.specs.Term.{Term}
use Rattle.words.specs.Rows.{key_at}
use Rattle.words.specs.Keys.{Key}
use Rattle.rows.specs.Rows.{coeff_at, term_at, terms_in, rows_in}
use Rattle.rows.specs.declared.Rows.{Rows}

abbrev pub row_key : Rows → ℕ → Key
row_key r i = key_at (2 * r.w) r.words.now i

abbrev pub row_coeff : Rows → ℕ → Float
row_coeff r i = coeff_at r.coeffs.now i

abbrev pub row_term : Rows → ℕ → Term
row_term r i = term_at (2 * r.w) r.words.now r.coeffs.now i

-- the first n rows
abbrev pub row_terms : Rows → ℕ → List Term
row_terms r n = terms_in (2 * r.w) n r.words.now r.coeffs.now

-- how many rows both buffers hold whole
abbrev pub row_count : Rows → ℕ
row_count r = rows_in r.w r.words.now r.coeffs.now

-- the same slices, at the same width
pub record SameRows (r r' : Rows) : Type 0 where
  pub words : r'.words.ghost_name ≡ r.words.ghost_name
  pub coeffs : r'.coeffs.ghost_name ≡ r.coeffs.ghost_name
  pub width : r'.w ≡ r.w
  pub words_long : length r'.words.now ≡ length r.words.now
  pub coeffs_long : length r'.coeffs.now ≡ length r.coeffs.now

-- the same slices, and what is said of the words and the numbers before and after
pub record OnRows (P : List ℕ → List ℕ → List Float → List Float → Type 0) (r r' : Rows) : Type 0 where
  pub same : SameRows r r'
  pub left : P r.words.now r'.words.now r.coeffs.now r'.coeffs.now
