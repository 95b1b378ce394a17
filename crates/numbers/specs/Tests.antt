-- What is asked of one binary64, its absolute value, and a number held at zero.
use Rattle.std.specs.Prelude.{Bool, true, false, cond, ◌&&◌, Float}
use Rattle.std.specs.Float.{nan, inf, fin}
use Rattle.std.specs.Float.Ieee.{lt, le, eq}
use Rattle.numbers.specs.Constants.{zero64, one64, minus_one64}

-- "Are .. weights finite", "Is every coefficient .., sum and mean finite?": neither a NaN nor an infinity
abbrev pub is_finite : Float → Bool
is_finite nan = false
is_finite (inf s) = false
is_finite (fin s m e) = true

-- "Sine equal to 0", "if cosine equals 0": IEEE 754's =, so true at either zero
abbrev pub is_zero : Float → Bool
is_zero x = eq x zero64

-- "the size is the other's absolute value": the sign cleared, +0 at -0
abbrev pub abs_of : Float → Float
abs_of nan = nan
abs_of (inf s) = inf false
abs_of (fin s m e) = fin false m e

-- "Are epsilon finite and at least 0"
abbrev pub is_epsilon : Float → Bool
is_epsilon x = is_finite x && le zero64 x

-- "sines and cosines from -1 to 1": false at a NaN
abbrev pub in_sine : Float → Bool
in_sine x = le minus_one64 x && le x one64

-- "rates and excited from 0 to 1": false at a NaN, true at -0
abbrev pub in_unit : Float → Bool
in_unit x = le zero64 x && le x one64

-- "in the operation order of `channel_action`": its `max(0.0)`, +0 at a NaN and at either zero
abbrev pub at_least_zero : Float → Float
at_least_zero x = cond (lt zero64 x) x zero64
