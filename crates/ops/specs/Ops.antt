-- Ops: their targets, and what each does to a sum.
use Rattle.std.specs.Prelude.{ℕ, ◌+◌, ◌*◌, Bool, true, false, cond, not, ◌&&◌, List, [], ◌∷◌, ltb, eqb, Float}
use Rattle.words.specs.Gates.{has_two_targets}
use Rattle.ops.specs.declared.Op.{Op}
use Rattle.ops.specs.declared.Op.TheVariants.{Native, T, Tdg, Rz, P, Rzz, Pauli, Depol, Damp, Phase, Thermal, Depol2, Barrier}

-- ---- what an op is
pub data Sort : Type 0 where
  gate rotation channel barrier : Sort

-- an op's sort, its targets and its reals
pub record Shape : Type 0 where
  pub sort : Sort
  pub targets : List ℕ
  pub reals : List Float

abbrev pub shape : Sort → List ℕ → List Float → Shape
shape s qs xs = record { sort = s; targets = qs; reals = xs }

-- "One target: .. Two: .. rz and p have one target, rzz two, each with sine,cosine. `op=barrier:` has no target. Channels: .."
abbrev pub shape_of : Op → Shape
shape_of (Native g a b) = shape gate (cond (has_two_targets g) (a ∷ b ∷ []) (a ∷ [])) []
shape_of (T q) = shape rotation (q ∷ []) []
shape_of (Tdg q) = shape rotation (q ∷ []) []
shape_of (Rz q s c) = shape rotation (q ∷ []) (s ∷ c ∷ [])
shape_of (P q s c) = shape rotation (q ∷ []) (s ∷ c ∷ [])
shape_of (Rzz a b s c) = shape rotation (a ∷ b ∷ []) (s ∷ c ∷ [])
shape_of (Pauli q px py pz) = shape channel (q ∷ []) (px ∷ py ∷ pz ∷ [])
shape_of (Depol q p) = shape channel (q ∷ []) (p ∷ [])
shape_of (Damp q gamma) = shape channel (q ∷ []) (gamma ∷ [])
shape_of (Phase q gamma) = shape channel (q ∷ []) (gamma ∷ [])
shape_of (Thermal q gad gpd excited) = shape channel (q ∷ []) (gad ∷ gpd ∷ excited ∷ [])
shape_of (Depol2 a b p) = shape channel (a ∷ b ∷ []) (p ∷ [])
shape_of Barrier = shape barrier [] []

abbrev pub targets : Op → List ℕ
targets op = (shape_of op).targets

abbrev pub is_rotation : Sort → Bool
is_rotation gate = false
is_rotation rotation = true
is_rotation channel = false
is_rotation barrier = false

abbrev pub is_barrier : Sort → Bool
is_barrier gate = false
is_barrier rotation = false
is_barrier channel = false
is_barrier barrier = true

-- "t_count: t, tdg, rz, p, rzz in the whole list"
unfoldable pub t_count : List Op → ℕ
t_count [] = 0
t_count (op ∷ ops) = cond (is_rotation (shape_of op).sort) 1 0 + t_count ops

-- whether the words of 2 * w words have the targets, two of them distinct. Questions 5 and 6 see to it before a run.
unfoldable pub on_words : ℕ → List ℕ → Bool
on_words w [] = true
on_words w (a ∷ []) = ltb a (64 * w)
on_words w (a ∷ b ∷ qs) = ltb a (64 * w) && (ltb b (64 * w) && not (eqb a b))
