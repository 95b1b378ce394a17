-- "Half of every coefficient is always zero: the imaginary part when the qubits with both x and z set are even in number, the real part when they are odd."
use Rattle.std.specs.Prelude.{ℕ, cond, Float}
use Rattle.numbers.specs.Constants.{zero64}
use Rattle.numbers.specs.Close.{◌≈◌}
use Rattle.published.specs.Term.{Term}
use Rattle.words.specs.Letters.{ys_of, is_odd}

-- the part that is zero, and the other
abbrev pub rest_of : ℕ → Term → Float
rest_of w t = cond (is_odd (ys_of w t.key)) t.coeff.re t.coeff.im

abbrev pub part_of : ℕ → Term → Float
part_of w t = cond (is_odd (ys_of w t.key)) t.coeff.im t.coeff.re

-- of either sign
abbrev pub Parted : ℕ → Term → Type 0
Parted w t = rest_of w t ≈ zero64
