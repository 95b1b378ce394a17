-- A formula has two readings: exact (Exact), and as `channel_action` computes it, each operation rounded once in the order in which it is written.
use Rattle.std.specs.Prelude.{ℕ, List, get_or, pos, Float}
use Rattle.std.specs.Float.{nan, binary64}
use Rattle.std.specs.Float.Ieee.{add, sub, mul, div, of_int}
use Rattle.numbers.specs.Tests.{at_least_zero}
use Rattle.numbers.specs.Root.{sqrt_of}

infixl 30 ◌⊞◌ ◌⊟◌
infixl 40 ◌⊠◌ ◌÷◌
pub data Formula : Type 0 where
  number : ℕ → Formula
  -- the reals of the channel, in order, from 0
  real : ℕ → Formula
  ◌⊞◌ : Formula → Formula → Formula
  ◌⊟◌ : Formula → Formula → Formula
  ◌⊠◌ : Formula → Formula → Formula
  ◌÷◌ : Formula → ℕ → Formula
  -- the greater of it and 0
  held : Formula → Formula
  root : Formula → Formula

-- in binary64
unfoldable pub rounded : List Float → Formula → Float
unfolding of_int
rounded rs (number n) = of_int binary64 (pos n)
rounded rs (real i) = get_or rs i nan
rounded rs (f ⊞ g) = add binary64 (rounded rs f) (rounded rs g)
rounded rs (f ⊟ g) = sub binary64 (rounded rs f) (rounded rs g)
rounded rs (f ⊠ g) = mul binary64 (rounded rs f) (rounded rs g)
rounded rs (f ÷ n) = div binary64 (rounded rs f) (of_int binary64 (pos n))
rounded rs (held f) = at_least_zero (rounded rs f)
rounded rs (root f) = sqrt_of (rounded rs f)
