-- "Printed result": the lines that answer a sheet.
use Rattle.std.specs.Prelude.{ℕ, suc, List, [], ◌∷◌, ◌++◌, ℤ, pos, negsuc, take, Float}
use Rattle.numbers.specs.Bits.{printed_bits}
use Rattle.text.specs.Bytes.{bytes, newline}
use Rattle.text.specs.Numerals.{decimal_text, nat_text, hex_text}
use Rattle.replies.specs.declared.Reply.{Reply}

-- a number with its sign
abbrev pub int_text : ℤ → List ℕ
int_text (pos n) = nat_text n
int_text (negsuc n) = 45 ∷ nat_text (suc n)

-- "Zero prints as +0." (printed_bits)
abbrev pub real_text : Float → List ℕ
real_text x = hex_text 16 (printed_bits x)

-- a line `key=value`
abbrev pub field : List ℕ → List ℕ → List ℕ
field key value = key ++ (value ++ (newline ∷ []))

-- "a `z=` line of 16 digits per qubit follows, qubit 0 first"
unfoldable pub z_lines : List Float → List ℕ
z_lines [] = []
z_lines (z ∷ zs) = field (bytes "z=") (real_text z) ++ z_lines zs

-- the text of a reply, whose Z means are the first of the mean places. "`touched`, .. printed after `peak_terms`"
unfoldable pub printed : Reply → List Float → List ℕ
unfolding decimal_text hex_text z_lines
printed r places =
    field (bytes "status=") (nat_text r.status)
    ++ (field (bytes "line=") (nat_text r.line)
    ++ (field (bytes "mean=") (real_text r.mean)
    ++ (field (bytes "shown=") (int_text r.shown)
    ++ (field (bytes "t_count=") (nat_text r.t_count)
    ++ (field (bytes "peak_terms=") (nat_text r.peak_terms)
    ++ (field (bytes "touched=") (nat_text r.touched)
    ++ (field (bytes "discarded=") (real_text r.discarded) ++ z_lines (take r.means places))))))))
