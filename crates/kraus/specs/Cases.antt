-- Worked values: each channel on the sum of the four letters of one qubit, each with the number 1. A key is one x-word and one z-word.
use Rattle.std.specs.Prelude.{◌≡◌, refl, List, [], ◌∷◌, Float}
use Rattle.std.specs.Float.{binary64}
use Rattle.std.specs.Float.Ieee.{add, sub, mul, div, neg, lt, eq, of_bits}
use Rattle.numbers.specs.Constants.{one64}
use Rattle.numbers.specs.Root.{sqrt_of}
use Rattle.words.specs.Keys.{bit_of, flip_of, bit_at, flip_at, same_key}
use Rattle.terms.specs.declared.NoiseChannel.{NoiseChannel}
use Rattle.terms.specs.declared.NoiseChannel.TheVariants as N
use Rattle.terms.specs.Lists.{foldl}
use Rattle.terms.specs.Term.{Term, term, is_in, add_to}
use Rattle.terms.specs.Channel.{action_of, insert, channeled}

abbrev letters : Float → Float → Float → Float → List Term
letters i x y z = term (0 ∷ 0 ∷ []) i ∷ term (1 ∷ 0 ∷ []) x ∷ term (1 ∷ 1 ∷ []) y ∷ term (0 ∷ 1 ∷ []) z ∷ []

abbrev through : NoiseChannel → List Term
through c = channeled 1 0 0 (action_of c) (letters one64 one64 one64 one64)

-- 1/8, 1/4, 3/8, 1/2, 3/4, 15/16, 11/8, 7/4
abbrev e1 : Float
e1 = of_bits binary64 0x3fc0_0000_0000_0000

abbrev e2 : Float
e2 = of_bits binary64 0x3fd0_0000_0000_0000

abbrev e3 : Float
e3 = of_bits binary64 0x3fd8_0000_0000_0000

abbrev e4 : Float
e4 = of_bits binary64 0x3fe0_0000_0000_0000

abbrev e6 : Float
e6 = of_bits binary64 0x3fe8_0000_0000_0000

abbrev s15 : Float
s15 = of_bits binary64 0x3fee_0000_0000_0000

abbrev e11 : Float
e11 = of_bits binary64 0x3ff6_0000_0000_0000

abbrev e14 : Float
e14 = of_bits binary64 0x3ffc_0000_0000_0000

-- px = 1/8, py = 1/4, pz = 1/2 leave 1/8: X by 1/8 + 1/8 - 1/4 - 1/2, Y by 1/8 + 1/4 - 1/8 - 1/2, Z by 1/8 + 1/2 - 1/8 - 1/4
pauli : through (N.Pauli e1 e2 e4) ≡ letters one64 (neg e4) (neg e2) e2
unfolding channeled action_of bit_at bit_of neg add sub mul div of_bits eq
pauli = refl

-- p = 3/8, so each of X, Y and Z with 1/8: a letter is negated by two of the three, 1 - 2 · 2/8
depol : through (N.Depolarizing e3) ≡ letters one64 e4 e4 e4
unfolding channeled action_of bit_at bit_of neg add sub mul div of_bits eq
depol = refl

-- gamma = 3/4: the root of 1/4, and 3/4 of Z's goes to I
damp : through (N.AmplitudeDamping e6) ≡ letters e14 e4 e4 e2
unfolding channeled action_of bit_at bit_of flip_at flip_of same_key foldl insert is_in add_to neg add sub mul div of_bits eq lt sqrt_of
damp = refl

phase : through (N.PhaseDamping e6) ≡ letters one64 e4 e4 one64
unfolding channeled action_of bit_at bit_of neg add sub mul div of_bits eq lt sqrt_of
phase = refl

-- gad = 3/4, gpd = 15/16, excited = 1/4: the roots of 1/4 and 1/16, and 3/4 · (1 - 2/4) of Z's goes to I
thermal : through (N.ThermalRelaxation e6 s15 e2) ≡ letters e11 e1 e1 e2
unfolding channeled action_of bit_at bit_of flip_at flip_of same_key foldl insert is_in add_to neg add sub mul div of_bits eq lt sqrt_of
thermal = refl

-- p = 15/32, so each of the fifteen with 1/32: a pair is negated by eight of them, 1 - 2 · 8/32. II, XI, IY, ZZ and YX
abbrev pairs : Float → List Term
pairs v =
    term (0 ∷ 0 ∷ []) one64 ∷ term (1 ∷ 0 ∷ []) v ∷ term (2 ∷ 2 ∷ []) v ∷ term (0 ∷ 3 ∷ []) v ∷ term (3 ∷ 1 ∷ []) v ∷ []

depol2 : channeled 1 0 1 (action_of (N.TwoQubitDepolarizing (of_bits binary64 0x3fde_0000_0000_0000))) (pairs one64) ≡ pairs e4
unfolding channeled action_of bit_at bit_of neg add sub mul div of_bits eq
depol2 = refl
