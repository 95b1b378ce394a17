-- What op lists are compared by: ops of one name, and the ops that marks set.
use Rattle.std.specs.Prelude.{ℕ, ◌≡◌, Bool, true, false, List, [], ◌∷◌, get_or, Float}
use Rattle.numbers.specs.Constants.{zero64}
use Rattle.terms.specs.Lists.{Each}
use Rattle.ops.specs.declared.Op.{Op}
use Rattle.ops.specs.declared.Op.TheVariants.{Native, T, Tdg, Rz, P, Rzz, Pauli, Depol, Damp, Phase, Thermal, Depol2, Barrier}
use Rattle.ops.specs.Ops.{shape_of}

abbrev qubit : List ℕ → ℕ → ℕ
qubit qs i = get_or qs i 0

abbrev real : List Float → ℕ → Float
real xs i = get_or xs i zero64

-- the op of the same name with these targets and reals, and 0 for what they lack
abbrev pub with_parts : Op → List ℕ → List Float → Op
with_parts (Native g a b) qs xs = Native g (qubit qs 0) (qubit qs 1)
with_parts (T q) qs xs = T (qubit qs 0)
with_parts (Tdg q) qs xs = Tdg (qubit qs 0)
with_parts (Rz q s c) qs xs = Rz (qubit qs 0) (real xs 0) (real xs 1)
with_parts (P q s c) qs xs = P (qubit qs 0) (real xs 0) (real xs 1)
with_parts (Rzz a b s c) qs xs = Rzz (qubit qs 0) (qubit qs 1) (real xs 0) (real xs 1)
with_parts (Pauli q px py pz) qs xs = Pauli (qubit qs 0) (real xs 0) (real xs 1) (real xs 2)
with_parts (Depol q p) qs xs = Depol (qubit qs 0) (real xs 0)
with_parts (Damp q gamma) qs xs = Damp (qubit qs 0) (real xs 0)
with_parts (Phase q gamma) qs xs = Phase (qubit qs 0) (real xs 0)
with_parts (Thermal q gad gpd excited) qs xs = Thermal (qubit qs 0) (real xs 0) (real xs 1) (real xs 2)
with_parts (Depol2 a b p) qs xs = Depol2 (qubit qs 0) (qubit qs 1) (real xs 0)
with_parts Barrier qs xs = Barrier

-- an op's name: the op without its targets and reals
abbrev pub op_name : Op → Op
op_name op = with_parts op [] []

-- "agree in name, targets and reals", the reals by a relation. The second number of a gate with one target is no target.
pub record SameOp (R : Float → Float → Type 0) (o p : Op) : Type 0 where
  pub name : op_name o ≡ op_name p
  pub targets : (shape_of o).targets ≡ (shape_of p).targets
  pub reals : Each R (shape_of o).reals (shape_of p).reals

-- the ops that marks set, in order; an op that has no mark is not set
unfoldable pub chosen : List Bool → List Op → List Op
chosen ms [] = []
chosen [] (op ∷ ops) = []
chosen (true ∷ ms) (op ∷ ops) = op ∷ chosen ms ops
chosen (false ∷ ms) (op ∷ ops) = chosen ms ops
