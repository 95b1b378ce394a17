-- Demand 3 of the public runs: "As soon as the full run and the cone run can be called, the whole of demand 3 is owed of them."
--   "the full and the cone run of each, four runs in all"                          Which, Way, Call
--   a call: what it is given and lent, its answer and what it leaves               Call, by the contract of the run that is called (CalledAs)
--   "that pass every question put before the run"                                  Passes, of the values; Begins, of question 2 of the slices and question 7
--   "end in the same refusal, number .. or all succeed with numerically equal .."  SameAnswer, of the number and values that an answer tells (told_by)
--   "every gate that 01 leaves unmarked .. meets identities only"                  Demand, of the values that the slices hold
use Rattle.std.specs.Prelude.{◌≡◌, ℕ, true, List, Float, Result}
use Rattle.words.specs.Keys.{width_of}
use Rattle.rows.specs.Rows.{rows_in}
use Rattle.ops.specs.declared.Limits.{Limits}
use Rattle.ops.specs.declared.Op.{Op}
use Rattle.ops.specs.declared.Refusal.{Refusal}
use Rattle.ops.specs.Task.{Task}
use Rattle.ops.specs.LineTable.{task_of}
use Rattle.dynamics.specs.Turn.{Stage, refused, going}
use Rattle.cones.specs.LightCone.{Equal, Which, one, another, Way, as_full, as_cone, Passes, Agree, Demand}
use Rattle.turns.specs.declared.Finished.{Finished}
use Rattle.turns.specs.SumRuns.{Results, told_by, sum_fits, has_rows}
use Rattle.runs.specs.ConeRuns.{Slices, FullRan, ConeRan}

-- what a public run is given
pub record Given : Type 0 where
  pub qubits : ℕ
  pub limits : Limits
  pub keys : List ℕ
  pub weights : List Float
  pub ops : List Op

abbrev pub task_given : Given → Task
task_given g = task_of g.qubits g.limits g.keys g.weights g.ops

-- every f64 is a binary64
abbrev pub HeldBySlices : Given → Type 0
HeldBySlices g = Slices g.weights g.ops g.limits

abbrev pub choose : Which → Given → Given → Given
choose one g h = g
choose another g h = h

-- a call: what it is given, its answer, and the lent memory before and after it
pub record Call : Type 0 where
  pub given : Given
  pub answer : Result Finished Refusal
  pub words : List ℕ
  pub words' : List ℕ
  pub coeffs : List Float
  pub coeffs' : List Float
  pub index : List ℕ
  pub index' : List ℕ

-- the contract of `run_spd_weighted_observable_with`, and that of `run_spd_observable_light_cone`
abbrev pub CalledAs : Way → Call → Type 0
CalledAs as_full c = let g = c.given in
    FullRan g.qubits g.limits g.keys g.weights g.ops c.answer c.words c.words' c.coeffs c.coeffs' c.index c.index'
CalledAs as_cone c = let g = c.given in
    ConeRan g.qubits g.limits g.keys g.weights g.ops c.answer c.words c.words' c.coeffs c.coeffs' c.index c.index'

-- questions 2 and 7 are answered yes
pub record Begins (c : Call) : Type 0 where
  pub fits : let g = c.given in sum_fits g.qubits g.limits g.keys g.weights g.ops ≡ true
  pub room : has_rows c.given.limits (rows_in (width_of c.given.qubits) c.words c.coeffs) ≡ true

-- "end in the same refusal, number and line, or all succeed with numerically equal means and discarded weights and equal peaks", and equal `touched`
pub data SameAnswer : Stage Results → Stage Results → Type 0 where
  same_refusal : (n : ℕ) → SameAnswer (refused n) (refused n)
  both_succeed : {x y : Results} → Equal x.mean y.mean → Equal x.discarded y.discarded → x.peak ≡ y.peak → x.touched ≡ y.touched → SameAnswer (going x) (going y)

-- a call's contract says that its numbers are binary64; then all of demand 3 holds of the values, and of the answers of any two of the calls
pub record OfRuns : Type 0 where
  pub slices : (v : Way) (c : Call) → CalledAs v c → HeldBySlices c.given
  pub values : (g h : Given) → HeldBySlices g → HeldBySlices h → Passes (task_given g) → Passes (task_given h) → Agree (task_given g) (task_given h) → Demand (task_given g) (task_given h)
  pub answers : (g h : Given) → HeldBySlices g → HeldBySlices h → Passes (task_given g) → Passes (task_given h) → Agree (task_given g) (task_given h)
      → (i j : Which) (v w : Way) (c d : Call) → c.given ≡ choose i g h → d.given ≡ choose j g h → CalledAs v c → CalledAs w d → Begins c → Begins d
      → SameAnswer (told_by c.answer) (told_by d.answer)
