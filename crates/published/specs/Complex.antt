-- "A complex coefficient": by parts, each product and sum rounded once.
use Rattle.std.specs.Prelude.{ℕ, ◌%◌, Bool, cond, ◌&&◌, eqb, Float}
use Rattle.std.specs.Float.{binary64}
use Rattle.std.specs.Float.Ieee.{add, mul, neg}
use Rattle.published.specs.declared.Complex64.{Complex64}
use Rattle.numbers.specs.Constants.{zero64}
use Rattle.numbers.specs.Tests.{is_zero, is_finite, abs_of}

-- "a record of two reals"
abbrev pub complex : Float → Float → Complex64
complex r i = record { re = r; im = i }

-- 0, from which merged coefficients are added
abbrev pub none64 : Complex64
none64 = complex zero64 zero64

-- c × f
abbrev pub scaled_of : Float → Complex64 → Complex64
scaled_of f c = complex (mul binary64 c.re f) (mul binary64 c.im f)

-- "flip(c) = (im × sin, -(re × sin))"
abbrev pub flipped_of : Float → Complex64 → Complex64
flipped_of s c = complex (mul binary64 c.im s) (neg (mul binary64 c.re s))

-- by parts
abbrev pub plus_of : Complex64 → Complex64 → Complex64
plus_of c d = complex (add binary64 c.re d.re) (add binary64 c.im d.im)

-- c times i to the power k: exact, it swaps and negates parts
unfoldable pub quarter_turned : ℕ → Complex64 → Complex64
quarter_turned k c =
    cond (eqb (k % 4) 1) (complex (neg c.im) c.re)
    (cond (eqb (k % 4) 2) (complex (neg c.re) (neg c.im))
    (cond (eqb (k % 4) 3) (complex c.im (neg c.re)) c))

-- "one part is always 0; the size is the other's absolute value"
unfoldable pub size_of : Complex64 → Float
size_of c = cond (is_zero c.re) (abs_of c.im) (abs_of c.re)

-- "Is every coefficient finite?"
abbrev pub finite_of : Complex64 → Bool
finite_of c = is_finite c.re && is_finite c.im

-- the coefficient that the one number of a row stands for, of a word whose Y letters are odd in number, or even
abbrev pub coeff_of : Bool → Float → Complex64
coeff_of odd v = cond odd (complex zero64 v) (complex v zero64)
