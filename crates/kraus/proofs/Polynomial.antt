-- Polynomials in three parameters x, y, z with whole coefficients, by which identities are computed. Their values are in RingLaws.
use Prim.Native.Nat.{ℕ, ◌+◌, ◌*◌, ◌/◌}
use mathlib.Core.Bool.{Bool, true, cond, ◌&&◌, ◌||◌}
use mathlib.Core.List.{List, [], ◌∷◌}
use lib.Dec.{eqb}
use Rattle.kraus.specs.Arithmetic.{Arithmetic}

-- (more - less) x^i y^j z^k: a whole number is a difference of two natural ones
pub record Monomial : Type 0 where
  pub more : ℕ
  pub less : ℕ
  pub i : ℕ
  pub j : ℕ
  pub k : ℕ

abbrev pub monomial : ℕ → ℕ → ℕ → ℕ → ℕ → Monomial
monomial p m x y z = record { more = p; less = m; i = x; j = y; k = z }

-- a sum of monomials
abbrev pub Polynomial : Type 0
Polynomial = List Monomial

abbrev pub whole : ℕ → Polynomial
whole n = monomial n 0 0 0 0 ∷ []

abbrev pub x : Polynomial
x = monomial 1 0 1 0 0 ∷ []

abbrev pub y : Polynomial
y = monomial 1 0 0 1 0 ∷ []

abbrev pub z : Polynomial
z = monomial 1 0 0 0 1 ∷ []

-- whether two monomials have the same powers, and then their sum
abbrev pub alike : Monomial → Monomial → Bool
alike m n = eqb m.i n.i && (eqb m.j n.j && eqb m.k n.k)

abbrev pub joined : Monomial → Monomial → Monomial
joined m n = monomial (m.more + n.more) (m.less + n.less) n.i n.j n.k

-- a monomial added to the one with its powers, if there is one
unfoldable pub add : Monomial → Polynomial → Polynomial
add m [] = m ∷ []
add m (n ∷ p) = let r = add m p in cond (alike m n) (joined m n ∷ p) (n ∷ r)

unfoldable pub plus : Polynomial → Polynomial → Polynomial
unfolding add
plus [] q = q
plus (m ∷ p) q = add m (plus p q)

-- the sign changed
abbrev pub opposite : Monomial → Monomial
opposite m = monomial m.less m.more m.i m.j m.k

unfoldable pub minus : Polynomial → Polynomial
minus [] = []
minus (m ∷ p) = opposite m ∷ minus p

abbrev pub product : Monomial → Monomial → Monomial
product m n =
    monomial (m.more * n.more + m.less * n.less) (m.more * n.less + m.less * n.more) (m.i + n.i) (m.j + n.j) (m.k + n.k)

unfoldable pub by : Monomial → Polynomial → Polynomial
by m [] = []
by m (n ∷ q) = product m n ∷ by m q

unfoldable pub times : Polynomial → Polynomial → Polynomial
unfolding plus by
times [] q = []
times (m ∷ p) q = plus (by m q) (times p q)

-- whether every coefficient is zero, and whether two polynomials are equal
unfoldable pub is_nought : Polynomial → Bool
is_nought [] = true
is_nought (m ∷ p) = eqb m.more m.less && is_nought p

unfoldable pub same : Polynomial → Polynomial → Bool
unfolding is_nought plus minus
same p q = is_nought (plus p (minus q))

-- the coefficients divided by n; the powers halved. `divides` and `squares` say where these are the quotient and the root.
unfoldable pub divided : ℕ → Polynomial → Polynomial
divided n [] = []
divided n (m ∷ p) = monomial (m.more / n) (m.less / n) m.i m.j m.k ∷ divided n p

-- whether n is one of the divisors of Exact
abbrev pub is_divisor : ℕ → Bool
is_divisor n = eqb n 3 || eqb n 15

unfoldable pub divides : ℕ → Polynomial → Bool
unfolding same times divided
divides n p = is_divisor n && same (times (whole n) (divided n p)) p

unfoldable pub halved : Polynomial → Polynomial
halved [] = []
halved (m ∷ p) = monomial m.more m.less (m.i / 2) (m.j / 2) (m.k / 2) ∷ halved p

unfoldable pub squares : Polynomial → Bool
unfolding same times halved
squares p = same (times (halved p) (halved p)) p

unfoldable pub is_parameter : Polynomial → Bool
unfolding same
is_parameter p = same p x || (same p y || same p z)

abbrev pub polynomials : Arithmetic
polynomials =
    record { Number = Polynomial; nought = []; unit = whole 1; plus = plus; times = times; minus = minus; star = λ p. p }
