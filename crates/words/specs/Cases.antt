-- Worked values: the published rules on Y letters and on the letters that tell the gates apart, and bits across words.
use Rattle.std.specs.Prelude.{◌≡◌, refl, true, false, [], ◌∷◌}
use Rattle.words.specs.declared.Gate.TheVariants.{H, S, Sdg, Cx, Sx}
use Rattle.words.specs.Keys.{bit_of, flip_of, bit_at, flip_at, set_at, z_at, width_of}
use Rattle.words.specs.Gates.{mk, conj_phase, conj_key}
use Rattle.words.specs.Tableau.{published, hadamard, phase, cnot}

-- forward, as published: Hadamard takes Y to -Y, the phase gate takes Y to -X
h_y : hadamard (record { bits = mk true true false false; r = false }) ≡ record { bits = mk true true false false; r = true }
h_y = refl

s_y : phase (record { bits = mk true true false false; r = false }) ≡ record { bits = mk true false false false; r = true }
s_y = refl

-- CNOT takes YY to -XZ, and YI to YX
cnot_yy : cnot (record { bits = mk true true true true; r = false }) ≡ record { bits = mk true false false true; r = true }
cnot_yy = refl

cnot_yi : cnot (record { bits = mk true true false false; r = false }) ≡ record { bits = mk true true true false; r = false }
cnot_yi = refl

-- backward through s: S† X S = -Y, so the word X becomes -i times the word XZ (Y = iXZ); S† Y S = X
s_back_x : conj_phase S (mk true false false false) ≡ 3
s_back_x = refl

s_back_y : published S (record { bits = mk true true false false; r = false }) ≡ record { bits = mk true false false false; r = false }
s_back_y = refl

-- through sdg the word X gains i, through h the word XZ gains -1, through sx the word Z gains i
sdg_back_x : conj_phase Sdg (mk true false false false) ≡ 1
sdg_back_x = refl

h_back_y : conj_phase H (mk true true false false) ≡ 2
h_back_y = refl

sx_back_z : conj_phase Sx (mk false true false false) ≡ 1
sx_back_z = refl

-- 256 qubits take 4 words; z of qubit 65 in a key of 2 x-words and 2 z-words is bit 1 of the last word
width : width_of 256 ≡ 4
width = refl

last_word : set_at (0 ∷ 0 ∷ 0 ∷ 0 ∷ []) (z_at 2 65) ≡ 0 ∷ 0 ∷ 0 ∷ 2 ∷ []
unfolding bit_of flip_of bit_at flip_at
last_word = refl

-- cx from qubit 0 to qubit 64 takes X on 0 to X on both
cx_far : conj_key Cx 2 0 64 (1 ∷ 0 ∷ 0 ∷ 0 ∷ []) ≡ 1 ∷ 1 ∷ 0 ∷ 0 ∷ []
unfolding bit_of flip_of bit_at flip_at conj_key
cx_far = refl
