-- One turn, and a run over any marks.
use Rattle.std.specs.Prelude.{ℕ, ◌+◌, Bool, true, false, List, [], ◌∷◌, length}
use Rattle.numbers.specs.Constants.{zero64}
use Rattle.terms.specs.Term.{Term}
use Rattle.ops.specs.declared.Limits.{Limits}
use Rattle.ops.specs.declared.Op.{Op}
use Rattle.dynamics.specs.Acts.{act, met}
use Rattle.dynamics.specs.Turn.{Stage, going, bind, State, state, settle, Outcome, finish}

-- ---- one turn, and a run: "Each gate, rotation and channel step reports how many terms, before it acted, had a letter on at least one of its targets"
abbrev pub turn : ℕ → Limits → Op → State → Stage State
turn w l op s = settle l (state (act w op s.terms) s.peak s.discarded (s.touched + met w op s.terms))

-- "Unmarked ops are skipped"
abbrev pub step : ℕ → Limits → Bool → Op → State → Stage State
step w l true op s = turn w l op s
step w l false op s = going s

-- "Ops are taken last to first": the state at an op's turn is the run of the ops behind it. An op that has no mark is skipped.
unfoldable pub runs : ℕ → Limits → List Bool → List Op → State → Stage State
runs w l ms [] s = going s
runs w l [] (op ∷ ops) s = going s
runs w l (m ∷ ms) (op ∷ ops) s = bind (runs w l ms ops s) (step w l m op)

-- "a public run takes any marks, applies just the ops they set"
unfoldable pub marked_run : ℕ → Limits → List Bool → List Op → State → Stage Outcome
unfolding runs finish
marked_run w l ms ops s = bind (runs w l ms ops s) (finish w l)

-- "peak_terms: the largest of the start count .."
abbrev pub begin : List Term → State
begin ts = state ts (length ts) zero64 0
