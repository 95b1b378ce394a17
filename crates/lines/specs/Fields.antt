-- "Lines `key=value`": the value of a line, if it is laid out.
use Rattle.std.specs.Prelude.{ℕ, cond, List, length, drop, Float, Option, Some, None, unwrap_or}
use Rattle.numbers.specs.Constants.{zero64}
use Rattle.text.specs.Bytes.{bytes, begins, same}
use Rattle.text.specs.Numerals.{decimal, real}
use Rattle.ops.specs.declared.Run.{Run}
use Rattle.ops.specs.declared.Run.TheVariants.{Full, Cone, All, Path, Wide}

abbrev pub count : List ℕ → List ℕ → Option ℕ
count k l = cond (begins k l) (decimal (drop (length k) l)) None

abbrev pub real_field : List ℕ → List ℕ → Option Float
real_field k l = cond (begins k l) (real (drop (length k) l)) None

-- the value of a line that is laid out; for any other 0, and further down `full`, and the gate id on qubit 0
abbrev pub or_zero : Option ℕ → ℕ
or_zero r = unwrap_or r 0

abbrev pub or_zero_real : Option Float → Float
or_zero_real r = unwrap_or r zero64

-- "`full`, `cone`, `all`, `path`", and "`run=wide`"
unfoldable pub run_field : List ℕ → Option Run
run_field l =
    cond (same (bytes "run=full") l) (Some Full)
    (cond (same (bytes "run=cone") l) (Some Cone)
    (cond (same (bytes "run=all") l) (Some All)
    (cond (same (bytes "run=path") l) (Some Path)
    (cond (same (bytes "run=wide") l) (Some Wide) None))))

abbrev pub or_full : Option Run → Run
or_full r = unwrap_or r Full
