-- A formula's reading as a polynomial, where the reals of the channel are polynomials in the parameters.
use mathlib.Core.Bool.{Bool, true, ◌&&◌}
use mathlib.Core.List.{List, [], ◌∷◌}
use lib.ListN.{get_or}
use Rattle.kraus.specs.Formula.{Formula, number, real, ◌⊞◌, ◌⊟◌, ◌⊠◌, ◌÷◌, held, root}
use Rattle.kraus.specs.Operators.{Factor, pauli, rows, product, Element, Element2}
use Rattle.kraus.proofs.Polynomial as P
use Rattle.kraus.proofs.Polynomial.{Polynomial}

unfoldable pub exact : List Polynomial → Formula → Polynomial
unfolding P.plus P.minus P.times P.divided P.halved
exact rs (number n) = P.whole n
exact rs (real i) = get_or rs i []
exact rs (f ⊞ g) = P.plus (exact rs f) (exact rs g)
exact rs (f ⊟ g) = P.plus (exact rs f) (P.minus (exact rs g))
exact rs (f ⊠ g) = P.times (exact rs f) (exact rs g)
exact rs (f ÷ n) = P.divided n (exact rs f)
exact rs (held f) = exact rs f
exact rs (root f) = P.halved (exact rs f)

-- a quotient times n, which is 3 or 15, is what was divided; what is held at 0 is a square; what has its root taken is the square of a parameter
unfoldable pub is_exact : List Polynomial → Formula → Bool
unfolding exact P.divides P.squares P.is_parameter
is_exact rs (number n) = true
is_exact rs (real i) = true
is_exact rs (f ⊞ g) = is_exact rs f && is_exact rs g
is_exact rs (f ⊟ g) = is_exact rs f && is_exact rs g
is_exact rs (f ⊠ g) = is_exact rs f && is_exact rs g
is_exact rs (f ÷ n) = P.divides n (exact rs f) && is_exact rs f
is_exact rs (held f) = P.squares (exact rs f) && is_exact rs f
is_exact rs (root f) = P.squares (exact rs f) && (P.is_parameter (P.halved (exact rs f)) && is_exact rs f)

unfoldable pub all_exact : List Polynomial → List Formula → Bool
unfolding is_exact
all_exact rs [] = true
all_exact rs (f ∷ fs) = is_exact rs f && all_exact rs fs

abbrev pub factor_exact : List Polynomial → Factor → Bool
factor_exact rs (pauli l) = true
factor_exact rs (rows f g h k) = is_exact rs f && (is_exact rs g && (is_exact rs h && is_exact rs k))
factor_exact rs (product m n) = factor_exact rs m && factor_exact rs n

unfoldable pub elements_exact : List Polynomial → List Element → Bool
unfolding is_exact
elements_exact rs [] = true
elements_exact rs (e ∷ es) = is_exact rs e.weight && (factor_exact rs e.factor && elements_exact rs es)

unfoldable pub elements2_exact : List Polynomial → List Element2 → Bool
unfolding is_exact
elements2_exact rs [] = true
elements2_exact rs (e ∷ es) = is_exact rs e.weight && elements2_exact rs es
