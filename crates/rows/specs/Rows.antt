-- Terms in two lent buffers. A row has s words, its key, and one number: row i has the s words from i * s on, where s is 2 * W,
-- and the number i. "There are as many rows as every lent row buffer holds whole."
use Rattle.std.specs.Prelude.{◌≡◌, ℕ, ◌+◌, ◌-◌, ◌*◌, ◌/◌, ◌≤◌, min, cond, ◌&&◌, List, [], ◌∷◌, ◌++◌, leb, length, take, drop, get_or, set, replicate, Float}
use Rattle.std.specs.Float.{nan}
use Rattle.numbers.specs.Constants.{zero64}
use Rattle.words.specs.Keys.{Key}
use Rattle.words.specs.Rows.{key_at}
use Rattle.terms.specs.Lists.{tab}
use Rattle.terms.specs.Term.{Term, term}
use Rattle.terms.specs.Met.{in_words, met_terms}

-- ---- rows as terms

abbrev pub coeff_at : List Float → ℕ → Float
coeff_at cs i = get_or cs i nan

abbrev pub term_at : ℕ → List ℕ → List Float → ℕ → Term
term_at s ws cs i = term (key_at s ws i) (coeff_at cs i)

-- the first n rows
abbrev pub terms_in : ℕ → ℕ → List ℕ → List Float → List Term
terms_in s n ws cs = tab n (term_at s ws cs)

abbrev pub rows_in : ℕ → List ℕ → List Float → ℕ
rows_in w ws cs = min (length ws / (2 * w)) (length cs)

-- ---- terms as rows

unfoldable pub keys_of : List Term → List ℕ
keys_of [] = []
keys_of (t ∷ ts) = t.key ++ keys_of ts

unfoldable pub coeffs_of : List Term → List Float
coeffs_of [] = []
coeffs_of (t ∷ ts) = t.coeff ∷ coeffs_of ts

-- the terms in order, zero rows up to row R, and the rest as it was
unfoldable pub words_with : ℕ → ℕ → List Term → List ℕ → List ℕ
unfolding keys_of
words_with w R ts ws = keys_of ts ++ (replicate ((R - length ts) * (2 * w)) 0 ++ drop (R * (2 * w)) ws)

unfoldable pub coeffs_with : ℕ → List Term → List Float → List Float
unfolding coeffs_of
coeffs_with R ts cs = coeffs_of ts ++ (replicate (R - length ts) zero64 ++ drop R cs)

-- What a step leaves that needs room for `need` rows, reaches the first R rows and makes the terms ts of n: without room nothing changes.
pub record Stepped (w need R n : ℕ) (ts : List Term) (r : ℕ) (ws ws' : List ℕ) (cs cs' : List Float) : Type 0 where
  pub count : r ≡ cond (leb need (rows_in w ws cs)) (length ts) n
  pub words : ws' ≡ cond (leb need (rows_in w ws cs)) (words_with w R ts ws) ws
  pub coeffs : cs' ≡ cond (leb need (rows_in w ws cs)) (coeffs_with R ts cs) cs

-- n terms may become 2 * n: such a step needs that many rows, and reaches just the terms that it makes
abbrev pub Grown : ℕ → ℕ → List Term → ℕ → List ℕ → List ℕ → List Float → List Float → Type 0
Grown w n ts r ws ws' cs cs' = Stepped w (2 * n) (length ts) n ts r ws ws' cs cs'

-- "Each gate, rotation and channel step reports how many terms, before it acted, had a letter on at least one of its targets": of the first n rows,
-- at the targets qs. Without the rows, or words for the targets, it meets none.
abbrev pub met_in : ℕ → List ℕ → ℕ → List ℕ → List Float → ℕ
met_in w qs n ws cs = cond (leb n (rows_in w ws cs) && in_words w qs) (met_terms w qs (terms_in (2 * w) n ws cs)) 0

-- ---- words of the private contracts

-- the buffers with another coefficient, or another key, in row i
abbrev pub put_coeff : List Float → ℕ → Float → List Float
put_coeff cs i v = set cs i v

abbrev pub put_key : ℕ → List ℕ → ℕ → Key → List ℕ
put_key s ws i k = take (i * s) ws ++ (k ++ drop (i * s + s) ws)

-- row i has become the term t
abbrev pub Stored : ℕ → ℕ → Term → List ℕ → List ℕ → List Float → List Float → Type 0
Stored s i t ws ws' cs cs' = (ws' ≡ put_key s ws i t.key) × (cs' ≡ put_coeff cs i t.coeff)

-- the key of one row copied to another, where both are there whole
unfoldable pub copied_row : ℕ → List ℕ → ℕ → ℕ → List ℕ
copied_row s ws from to = cond (leb (from * s + s) (length ws) && leb (to * s + s) (length ws)) (put_key s ws to (key_at s ws from)) ws

-- there is room for R rows
pub record Room (s R : ℕ) (ws : List ℕ) (cs : List Float) : Type 0 where
  pub words_room : R * s ≤ length ws
  pub coeffs_room : R ≤ length cs

-- the buffers hold the m terms ts, and from row R on, as in length, they are as they were
pub record Holds (s R m : ℕ) (ts : List Term) (ws₀ ws : List ℕ) (cs₀ cs : List Float) : Type 0 where
  pub terms : terms_in s m ws cs ≡ ts
  pub words_kept : drop (R * s) ws ≡ drop (R * s) ws₀
  pub coeffs_kept : drop R cs ≡ drop R cs₀
  pub words_long : length ws ≡ length ws₀
  pub coeffs_long : length cs ≡ length cs₀
