-- What is and what is not an op, computed from the definitions: each text with what is read.
use Prim.Native.String as string
use mathlib.Core.Path.{◌≡◌, refl}
use mathlib.Core.List.{List, [], ◌∷◌, map}
use lib.Ieee.{Float, of_bits, binary64}
use Rattle.std.specs.Prelude.{Option, Some, None}
use Rattle.words.specs.declared.Gate.TheVariants.{Id, X, Y, Z, H, S, Sdg, Sx, Sxdg, Cx, Cz, Swap}
use Rattle.text.specs.Bytes.{bytes, index, begins}
use Rattle.text.specs.Numerals.{steps, next_digit, decimal, hex_digit, next_hex, hex16}
use Rattle.ops.specs.declared.Op.TheVariants as O
use Rattle.ops.specs.declared.Op.{Op}
use Rattle.lines.specs.OpLines.{name_of, targets_in, reals_in, op_after, op}

-- opens the definitions that the cases compute
unfoldable computed : Unit {0}
unfolding index begins steps next_digit decimal hex_digit next_hex hex16 name_of targets_in reals_in op_after op
computed = tt

-- the op that a text spells, or none
abbrev op_of : string.String → Option Op
op_of s = op (bytes s)

-- 1.0, 0.5 and 0.25 by their bits
abbrev x : Float
x = of_bits binary64 0x3ff0_0000_0000_0000

abbrev y : Float
y = of_bits binary64 0x3fe0_0000_0000_0000

abbrev z : Float
z = of_bits binary64 0x3fd0_0000_0000_0000

-- one text for each name, and the barrier
abbrev pub ops : List string.String
ops =
    "id:0" ∷ "x:1" ∷ "y:2" ∷ "z:3" ∷ "h:4" ∷ "s:5" ∷ "sdg:6" ∷ "t:7" ∷ "tdg:8" ∷ "sx:9" ∷ "sxdg:10" ∷
    "cx:1,0" ∷ "cz:0,1" ∷ "swap:2,255" ∷
    "rz:0:3ff0000000000000,3fe0000000000000" ∷ "p:1:3ff0000000000000,3fe0000000000000" ∷ "rzz:1,2:3ff0000000000000,3fe0000000000000" ∷
    "pauli:0:3ff0000000000000,3fe0000000000000,3fd0000000000000" ∷ "depol:1:3fe0000000000000" ∷ "damp:2:3fe0000000000000" ∷
    "phase:3:3fe0000000000000" ∷ "thermal:4:3ff0000000000000,3fe0000000000000,3fd0000000000000" ∷ "depol2:5,6:3fe0000000000000" ∷
    "barrier:" ∷
    "h:18446744073709551615" ∷ []

pub ops_are :
    map op_of ops
    ≡ map Some
    (O.Native Id 0 0 ∷ O.Native X 1 0 ∷ O.Native Y 2 0 ∷ O.Native Z 3 0 ∷ O.Native H 4 0 ∷ O.Native S 5 0 ∷ O.Native Sdg 6 0 ∷ O.T 7 ∷
    O.Tdg 8 ∷ O.Native Sx 9 0 ∷ O.Native Sxdg 10 0 ∷
    O.Native Cx 1 0 ∷ O.Native Cz 0 1 ∷ O.Native Swap 2 255 ∷
    O.Rz 0 x y ∷ O.P 1 x y ∷ O.Rzz 1 2 x y ∷
    O.Pauli 0 x y z ∷ O.Depol 1 y ∷ O.Damp 2 y ∷ O.Phase 3 y ∷ O.Thermal 4 x y z ∷ O.Depol2 5 6 y ∷
    O.Barrier ∷
    O.Native H 18446744073709551615 0 ∷ [])
unfolding computed
ops_are = refl

-- too few or too many targets or reals, a colon too few or too many, a name that is none, a number that is not spelled as it should be
abbrev pub others : List string.String
others =
    "cx:0" ∷ "h:0,1" ∷ "h:0:" ∷ "h:" ∷ "h" ∷ "rz:0" ∷ "t:0:3ff0000000000000,3ff0000000000000" ∷ "barrier" ∷ "barrier:0" ∷
    "rz:0:3ff0000000000000,3ff0000000000000:" ∷ "depol:0:3ff0000000000000,3ff0000000000000" ∷ "H:0" ∷ "h:00" ∷ "h:+1" ∷ " h:0" ∷ "" ∷
    "h:18446744073709551616" ∷ []

pub others_are_none : map op_of others ≡ map (λ s. None) others
unfolding computed
others_are_none = refl
