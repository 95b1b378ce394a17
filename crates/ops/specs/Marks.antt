-- Which ops a run applies: the marks of the runs.
use Rattle.std.specs.Prelude.{ℕ, Bool, true, false, not, ◌||◌, cond, List, [], ◌∷◌, ◌++◌, map, eqb}
use Rattle.ops.specs.declared.Op.{Op}
use Rattle.ops.specs.Ops.{shape_of, targets, is_barrier}

-- `full` and `all`: every op
abbrev pub mark_all : List Op → List Bool
mark_all ops = map (λ op. true) ops

-- `path`: every op but barriers. "in `path` it does nothing"
abbrev pub mark_path : List Op → List Bool
mark_path ops = map (λ op. not (is_barrier (shape_of op).sort)) ops

-- whether a qubit is in a set, and whether one of several is
unfoldable pub member : ℕ → List ℕ → Bool
member q [] = false
member q (x ∷ xs) = eqb q x || member q xs

unfoldable pub touches : List ℕ → List ℕ → Bool
touches [] c = false
touches (q ∷ qs) c = member q c || touches qs c

-- "an op is marked if a target is in the set, starting from the observable's qubits; its targets then join"
unfoldable pub cone_of : List ℕ → List Op → List ℕ
cone_of qs [] = qs
cone_of qs (op ∷ ops) = let c = cone_of qs ops in cond (touches (targets op) c) (targets op ++ c) c

unfoldable pub mark_cone : List ℕ → List Op → List Bool
mark_cone qs [] = []
mark_cone qs (op ∷ ops) = touches (targets op) (cone_of qs ops) ∷ mark_cone qs ops
