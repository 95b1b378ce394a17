-- "A row shall store the other part alone": the real part of a coefficient where the Y letters of the word are even in number, else the
-- imaginary part. Each product and sum is rounded once.
use Rattle.std.specs.Prelude.{Bool, true, false, cond, not, ◌&&◌, Float}
use Rattle.std.specs.Float.{binary64}
use Rattle.std.specs.Float.Ieee.{add, mul, neg}
use Rattle.numbers.specs.Tests.{is_finite, abs_of}
use Rattle.words.specs.declared.Bits as B
use Rattle.words.specs.declared.Gate.{Gate}
use Rattle.words.specs.declared.Gate.TheVariants.{Id, X, Y, Z, H, S, Sdg, Sx, Sxdg, Cx, Cz, Swap}
use Rattle.words.specs.Keys.{◌⊕◌}

abbrev pub signed : Bool → Float → Float
signed b v = cond b (neg v) v

-- c × f
abbrev pub scaled_of : Float → Float → Float
scaled_of f v = mul binary64 v f

abbrev pub plus_of : Float → Float → Float
plus_of v u = add binary64 v u

-- "flip(c) = (im × sin, -(re × sin))", of a word whose Y letters are odd in number, or even
abbrev pub flipped_of : Bool → Float → Float → Float
flipped_of odd s v = signed (not odd) (mul binary64 v s)

-- Whether a gate negates the number, by the bits at its targets before it. s, sdg, sx and sxdg change the parity of the Y letters, and only
-- they ask for it, of the whole word.
abbrev pub negates : Gate → B.Bits → Bool → Bool
negates Cx s odd = false
negates H s odd = s.xa && s.za
negates S s odd = s.xa && not odd
negates Sdg s odd = s.xa && odd
negates Sx s odd = s.za && odd
negates Sxdg s odd = s.za && not odd
negates Id s odd = false
negates X s odd = s.za
negates Y s odd = s.xa ⊕ s.za
negates Z s odd = s.xa
negates Cz s odd = s.xa && s.xb
negates Swap s odd = false

-- the gates whose sign is not settled by the bits at their targets
abbrev pub asks_word : Gate → Bool
asks_word Cx = false
asks_word H = false
asks_word S = true
asks_word Sdg = true
asks_word Sx = true
asks_word Sxdg = true
asks_word Id = false
asks_word X = false
asks_word Y = false
asks_word Z = false
asks_word Cz = false
asks_word Swap = false

-- "the size is the other's absolute value"
abbrev pub size_of : Float → Float
size_of v = abs_of v

-- "Is every coefficient finite?"
abbrev pub finite_of : Float → Bool
finite_of v = is_finite v
