-- Exact numbers, by what is used of them: a commutative ring in which 3 and 15 can be divided by, with max(v, 0), and with a root for the squares of
-- numbers at least 0. The real numbers are such; so are the seven of proofs/Seven.
use Rattle.std.specs.Prelude.{ℕ, zero, suc, ◌≡◌, List, get_or}
use Rattle.kraus.specs.Arithmetic.{Arithmetic}
use Rattle.kraus.specs.Formula.{Formula, number, real, ◌⊞◌, ◌⊟◌, ◌⊠◌, ◌÷◌, held, root}

-- 1 + 1 + .. + 1
unfoldable pub numeral : (N : Arithmetic) → ℕ → N.Number
numeral N zero = N.nought
numeral N (suc n) = N.plus N.unit (numeral N n)

pub record Ring (N : Arithmetic) : Type 0 where
  pub plus_assoc : (u v w : N.Number) → N.plus (N.plus u v) w ≡ N.plus u (N.plus v w)
  pub plus_comm : (u v : N.Number) → N.plus u v ≡ N.plus v u
  pub plus_nought : (u : N.Number) → N.plus u N.nought ≡ u
  pub plus_minus : (u : N.Number) → N.plus u (N.minus u) ≡ N.nought
  pub times_assoc : (u v w : N.Number) → N.times (N.times u v) w ≡ N.times u (N.times v w)
  pub times_comm : (u v : N.Number) → N.times u v ≡ N.times v u
  pub times_unit : (u : N.Number) → N.times u N.unit ≡ u
  pub times_plus : (u v w : N.Number) → N.times u (N.plus v w) ≡ N.plus (N.times u v) (N.times u w)
  -- real: each number is its own conjugate
  pub star_same : (u : N.Number) → N.star u ≡ u

-- what the formulas of the channels divide by
pub data Divisor : ℕ → Type 0 where
  three : Divisor 3
  fifteen : Divisor 15

pub record Exact (N : Arithmetic) : Type 1 where
  pub ring : Ring N
  pub over : N.Number → ℕ → N.Number
  pub over_times : (u : N.Number) (n : ℕ) → Divisor n → over (N.times (numeral N n) u) n ≡ u
  pub max0 : N.Number → N.Number
  pub max0_square : (u : N.Number) → max0 (N.times u u) ≡ N.times u u
  pub AtLeast0 : N.Number → Type 0
  pub sqrt : N.Number → N.Number
  pub sqrt_square : (u : N.Number) → AtLeast0 u → sqrt (N.times u u) ≡ u

-- a formula's value, where the reals have these values
unfoldable pub value_of : (N : Arithmetic) → Exact N → List N.Number → Formula → N.Number
unfolding numeral
value_of N E rs (number n) = numeral N n
value_of N E rs (real i) = get_or rs i N.nought
value_of N E rs (f ⊞ g) = N.plus (value_of N E rs f) (value_of N E rs g)
value_of N E rs (f ⊟ g) = N.plus (value_of N E rs f) (N.minus (value_of N E rs g))
value_of N E rs (f ⊠ g) = N.times (value_of N E rs f) (value_of N E rs g)
value_of N E rs (f ÷ n) = E.over (value_of N E rs f) n
value_of N E rs (held f) = E.max0 (value_of N E rs f)
value_of N E rs (root f) = E.sqrt (value_of N E rs f)
