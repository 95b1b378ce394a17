-- "`term=WEIGHT:FACTORS`. Factors are X, Y or Z and a qubit, split by commas; none means identity."
use Rattle.std.specs.Prelude.{ℕ, Bool, true, cond, not, ◌&&◌, ◌||◌, List, [], ◌∷◌, map, ltb, leb, eqb, length, drop, get_or, Float, is_some}
use Rattle.words.specs.Keys.{Key, set_at, z_at, no_letters}
use Rattle.terms.specs.Lists.{foldl}
use Rattle.text.specs.Bytes.{bytes, parts, index, before, after, comma, colon, begins}
use Rattle.text.specs.Numerals.{decimal, real}
use Rattle.ops.specs.Marks.{member}
use Rattle.ops.specs.Task.{Line, every}
use Rattle.lines.specs.Fields.{or_zero, or_zero_real}

-- X, Y, Z are the bytes 88, 89, 90
unfoldable pub is_factor : List ℕ → Bool
is_factor p = let b = get_or p 0 0 in leb 88 b && leb b 90 && is_some (decimal (drop 1 p))

unfoldable pub are_factors : List (List ℕ) → Bool
are_factors [] = true
are_factors (p ∷ ps) = is_factor p && are_factors ps

-- no text has no factors
unfoldable pub factor_texts : List ℕ → List (List ℕ)
factor_texts [] = []
factor_texts (b ∷ bs) = parts comma (b ∷ bs)

unfoldable pub is_term : List ℕ → Bool
is_term v = ltb (index colon v) (length v) && (is_some (real (before colon v)) && are_factors (factor_texts (after colon v)))

abbrev pub is_term_line : List ℕ → Bool
is_term_line l = begins (bytes "term=") l && is_term (drop 5 l)

-- ---- the values on a `term` line

-- which bits the letter sets, and where: "X sets x, Z sets z, Y sets both"
pub record Factor : Type 0 where
  pub x : Bool
  pub z : Bool
  pub qubit : ℕ

pub record TermLine : Type 0 where
  pub weight : Float
  pub factors : List Factor

abbrev pub sets_x : ℕ → Bool
sets_x b = eqb b 88 || eqb b 89

abbrev pub sets_z : ℕ → Bool
sets_z b = eqb b 89 || eqb b 90

unfoldable pub factor_of : List ℕ → Factor
factor_of p = let b = get_or p 0 0 in record { x = sets_x b; z = sets_z b; qubit = or_zero (decimal (drop 1 p)) }

abbrev pub weight_on : List ℕ → Float
weight_on l = or_zero_real (real (before colon (drop 5 l)))

abbrev pub factors_on : List ℕ → List Factor
factors_on l = map factor_of (factor_texts (after colon (drop 5 l)))

unfoldable pub line_on : List ℕ → TermLine
line_on l = record { weight = weight_on l; factors = factors_on l }

-- ---- the qubits in one term

abbrev pub qubits_in : List Factor → List ℕ
qubits_in fs = map (λ f. f.qubit) fs

-- "Is every qubit below qubits?"
abbrev pub all_below : ℕ → List ℕ → Bool
all_below n qs = every (λ q. ltb q n) qs

-- "Are the qubits in one term .. distinct?"
unfoldable pub distinct : List ℕ → Bool
distinct [] = true
distinct (q ∷ qs) = not (member q qs) && distinct qs

-- ---- the word of the factors

abbrev pub set_if : Bool → ℕ → Key → Key
set_if b i k = cond b (set_at k i) k

unfoldable pub placed : ℕ → Key → Factor → Key
placed w k f = set_if f.z (z_at w f.qubit) (set_if f.x f.qubit k)

abbrev pub word_of : ℕ → List Factor → Key
word_of w fs = foldl (placed w) (no_letters w) fs

-- a `term` line as the runs take it
abbrev pub word_line : ℕ → TermLine → Line
word_line w t = record { key = word_of w t.factors; weight = t.weight }
