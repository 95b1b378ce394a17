-- The runs of a sum that make their own marks: answer and all lent memory.
use Rattle.std.specs.Prelude.{◌≡◌, ℕ, ◌*◌, ◌/◌, ◌≤◌, min, true, List, length, get_or, Float, Result}
use Rattle.std.specs.Float.{nan}
use Rattle.words.specs.Keys.{width_of}
use Rattle.terms.specs.Lists.{All}
use Rattle.ops.specs.declared.Limits.{Limits}
use Rattle.ops.specs.declared.Op.{Op}
use Rattle.ops.specs.declared.Refusal.{Refusal}
use Rattle.ops.specs.Sets.{set_marks, letters_in, letters_in_any}
use Rattle.ops.specs.Marks.{mark_all, mark_cone}
use Rattle.ops.specs.Binary.{IsBinary64, RealsAreBinary64}
use Rattle.ops.specs.declared.Run.TheVariants as R
use Rattle.ops.specs.Task.{passes}
use Rattle.ops.specs.LineTable.{task_of}
use Rattle.dynamics.specs.Outcome.{observed, wide_marks}
use Rattle.turns.specs.declared.Finished.{Finished}
use Rattle.turns.specs.SumRuns.{SumRan}

-- every f64 is a binary64: the weights, past whose end a NaN is read, the reals of the ops, and epsilon
pub record Slices (xs : List Float) (ops : List Op) (l : Limits) : Type 0 where
  pub weights : (i : ℕ) → IsBinary64 (get_or xs i nan)
  pub reals : All RealsAreBinary64 ops
  pub epsilon : IsBinary64 l.epsilon

-- `full`: every op
pub record FullRan (qubits : ℕ) (l : Limits) (keys : List ℕ) (weights : List Float) (ops : List Op) (r : Result Finished Refusal) (ws ws' : List ℕ) (cs cs' : List Float) (ix ix' : List ℕ) : Type 0 where
  pub ran : SumRan qubits l keys weights ops (mark_all ops) r ws ws' cs cs' ix ix'
  pub slices : Slices weights ops l

-- `cone`, as it is marked by a set of 256 qubits; and, for a task that the questions pass as `cone`, by the document's set
pub record ConeRan (qubits : ℕ) (l : Limits) (keys : List ℕ) (weights : List Float) (ops : List Op) (r : Result Finished Refusal) (ws ws' : List ℕ) (cs cs' : List Float) (ix ix' : List ℕ) : Type 0 where
  pub always : SumRan qubits l keys weights ops (set_marks (letters_in (width_of qubits) keys) ops) r ws ws' cs cs' ix ix'
  pub cone : let t = task_of qubits l keys weights ops in
      passes R.Cone t ≡ true → SumRan qubits l keys weights ops (mark_cone (observed t) t.ops) r ws ws' cs cs' ix ix'
  pub slices : Slices weights ops l

-- `wide`, as it is marked by a set of 256 qubits; and, for a task that the questions pass as `wide` and whose lines the keys have, by the document's set
pub record WideRan (qubits : ℕ) (l : Limits) (keys : List ℕ) (weights : List Float) (ops : List Op) (r : Result Finished Refusal) (ws ws' : List ℕ) (cs cs' : List Float) (ix ix' : List ℕ) : Type 0 where
  pub always : let w = width_of qubits in
      SumRan qubits l keys weights ops (set_marks (letters_in_any w keys (min (length weights) (length keys / (2 * w)))) ops) r ws ws' cs cs' ix ix'
  pub wide : let t = task_of qubits l keys weights ops in
      passes R.Wide t ≡ true → length weights ≤ length keys / (2 * width_of qubits) → SumRan qubits l keys weights ops (wide_marks t) r ws ws' cs cs' ix ix'
