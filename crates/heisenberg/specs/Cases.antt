-- Worked values, on one or two qubits: a key is one x-word and one z-word.
use Rattle.std.specs.Prelude.{◌≡◌, refl, Bool, true, false, List, [], ◌∷◌}
use Rattle.std.specs.Float.Ieee.{neg, add, mul, eq, of_bits}
use Rattle.numbers.specs.Constants.{zero64, one64, minus_one64, two64, three64, sine_t, cosine_t}
use Rattle.words.specs.declared.Gate.TheVariants as G
use Rattle.words.specs.Keys.{Key, bit_of, flip_of, bit_at, flip_at, same_key}
use Rattle.words.specs.Gates.{conj_key}
use Rattle.terms.specs.declared.Axis.TheVariants.{Z, Zz}
use Rattle.words.specs.Letters.{count_y}
use Rattle.terms.specs.Lists.{tab, foldl}
use Rattle.terms.specs.Term.{term, find, conjugated}
use Rattle.terms.specs.Rotation.{met_by, partner_by, appended_rows, rotated}
use Rattle.heisenberg.specs.TableauRow.{row_of, updated}
use Rattle.heisenberg.specs.Expectation.{flipped_by, sign_by, word_on, ground, nought, plus_one, minus_one, same_bits, inner, word_mean, expectation}
use Rattle.heisenberg.specs.PhaseRotation.{through, times, turned}

-- the words X, XZ and Z of qubit 0, X of both qubits, and none
abbrev x0 : Key
x0 = 1 ∷ 0 ∷ []

abbrev xz0 : Key
xz0 = 1 ∷ 1 ∷ []

abbrev z0 : Key
z0 = 0 ∷ 1 ∷ []

abbrev x0x1 : Key
x0x1 = 3 ∷ 0 ∷ []

abbrev none : Key
none = 0 ∷ 0 ∷ []

-- opens the definitions that the cases compute
unfoldable computed : Unit {0}
unfolding bit_of flip_of bit_at flip_at same_key conj_key count_y tab foldl find conjugated met_by partner_by appended_rows rotated flipped_by sign_by same_bits neg add mul eq of_bits
computed = tt

-- ---- rows: H† Y H = -Y; S† X S = -Y, of which the row is x, z and the sign

y_through_h : (updated G.H 0 1 (row_of 1 xz0 false)).r ≡ true
unfolding computed
y_through_h = refl

x_through_s : let t = updated G.S 0 1 (row_of 1 x0 false) in (t.x 0 ≡ true) × (t.z 0 ≡ true) × (t.r ≡ true)
unfolding computed
x_through_s = (refl, refl, refl)

-- ---- rotations: a quarter turn of X is -Y, stored as -1 of XZ

quarter_of_x : turned 1 (Z 0) one64 zero64 (term x0 one64 ∷ []) ≡ term xz0 minus_one64 ∷ []
unfolding computed
quarter_of_x = refl

s_of_x : through 1 G.S 0 (Z 0) (term x0 one64) ≡ term xz0 minus_one64
unfolding computed
s_of_x = refl

sdg_of_x : through 1 G.Sdg 0 (Z 0) (term x0 one64) ≡ term xz0 one64
unfolding computed
sdg_of_x = refl

z_of_x : through 1 G.Z 0 (Z 0) (term x0 one64) ≡ term x0 minus_one64
unfolding computed
z_of_x = refl

-- t: cos X - sin Y
t_of_x : turned 1 (Z 0) sine_t cosine_t (term x0 one64 ∷ []) ≡ times cosine_t (term x0 one64) ∷ through 1 G.S 0 (Z 0) (times sine_t (term x0 one64)) ∷ []
unfolding computed
t_of_x = refl

-- rzz: X of qubit 0 becomes -YZ, and XX is left
zz_of_x : through 1 G.S 0 (Zz 0 1) (term x0 one64) ≡ term (1 ∷ 3 ∷ []) minus_one64
unfolding computed
zz_of_x = refl

zz_of_xx : through 1 G.S 0 (Zz 0 1) (term x0x1 one64) ≡ term x0x1 one64
unfolding computed
zz_of_xx = refl

-- ---- expectation values

z_in_ground : word_mean 1 z0 ≡ plus_one
unfolding computed
z_in_ground = refl

x_in_ground : word_mean 1 x0 ≡ nought
unfolding computed
x_in_ground = refl

none_in_ground : word_mean 1 none ≡ plus_one
unfolding computed
none_in_ground = refl

-- Z |1⟩ = -|1⟩
abbrev up : List Bool
up = flipped_by (true ∷ []) (ground 1)

z_in_one : inner up (word_on 1 z0 up) ≡ minus_one
unfolding computed
z_in_one = refl

-- 1 Z + 2 X + 2 I
sum_in_ground : expectation 1 (term z0 one64 ∷ term x0 two64 ∷ term none two64 ∷ []) ≡ three64
unfolding computed
sum_in_ground = refl
