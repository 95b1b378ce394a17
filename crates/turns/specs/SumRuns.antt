-- A run of a sum in lent memory, under any marks: what is asked before it, its answer, and what it leaves.
use Rattle.std.specs.Prelude.{◌≡◌, Bool, true, cond, ◌&&◌, List, [], ℕ, ◌*◌, leb, length, replicate, Float, Result, Ok, Err}
use Rattle.words.specs.Keys.{width_of}
use Rattle.terms.specs.Term.{Term}
use Rattle.rows.specs.Rows.{rows_in, words_with, coeffs_with, Holds}
use Rattle.ops.specs.declared.Limits.{Limits}
use Rattle.ops.specs.Task.{counts_fit}
use Rattle.ops.specs.declared.Op.{Op}
use Rattle.ops.specs.declared.Refusal.{Refusal}
use Rattle.ops.specs.Refusals.{number_of}
use Rattle.ops.specs.LineTable.{task_of, has_lines}
use Rattle.dynamics.specs.Turn.{Stage, refused, going, ask, Outcome}
use Rattle.dynamics.specs.Outcome.{sum_run}
use Rattle.turns.specs.declared.Finished.{Finished}

-- ---- "When an answer is an enum, a definition gives this paper's number and values for each case of that enum. The promises use that definition."

-- what a run that succeeds returns: the mean, the number of final terms, the peak, the discarded weight and `touched`
pub record Results : Type 0 where
  pub mean : Float
  pub count : ℕ
  pub peak : ℕ
  pub discarded : Float
  pub touched : ℕ

abbrev pub results : Float → ℕ → ℕ → Float → ℕ → Results
results m n p d k = record { mean = m; count = n; peak = p; discarded = d; touched = k }

-- each answer: a refusal with its number, or the values
abbrev pub told_by : Result Finished Refusal → Stage Results
told_by (Err e) = refused (number_of e)
told_by (Ok f) = going (results f.mean f.count f.tally.peak f.tally.discarded f.tally.touched)

-- what a run's definition gives of these
abbrev pub results_of : Stage Outcome → Stage Results
results_of (refused n) = refused n
results_of (going o) = going (results o.mean (length o.terms) o.peak o.discarded o.touched)

-- the terms that a run leaves; a refused run leaves none
abbrev pub left_by : Stage Outcome → List Term
left_by (refused n) = []
left_by (going o) = o.terms

-- ---- what is asked before a run

-- 2, of the counts that a run is given, and of the table: the keys have all lines
abbrev pub sum_fits : ℕ → Limits → List ℕ → List Float → List Op → Bool
sum_fits qubits l keys weights ops = counts_fit qubits l.limit (length weights) (length ops) && has_lines (width_of qubits) keys weights

-- 7. "Are there at least 2 × limit rows ..?"
abbrev pub has_rows : Limits → ℕ → Bool
has_rows l rows = leb (2 * l.limit) rows

-- the lines and the ops under marks: question 2, question 7, then the sum, or the fold
abbrev pub sum_asked : ℕ → Limits → List ℕ → List Float → List Op → List Bool → ℕ → Stage Outcome
sum_asked qubits l keys weights ops ms rows = ask 2 (sum_fits qubits l keys weights ops) (ask 7 (has_rows l rows) (sum_run (task_of qubits l keys weights ops) ms))

-- ---- answer and all lent memory

-- `run` is refused before it starts unless `held`, and then nothing changes; else the rows hold the terms that it leaves, in order, then zeros,
-- and the index zeros
pub record Ran (w : ℕ) (held : Bool) (run : Stage Outcome) (r : Result Finished Refusal) (ws ws' : List ℕ) (cs cs' : List Float) (ix ix' : List ℕ) : Type 0 where
  pub answer : told_by r ≡ results_of run
  pub words : ws' ≡ cond held (words_with w (rows_in w ws cs) (left_by run) ws) ws
  pub coeffs : cs' ≡ cond held (coeffs_with (rows_in w ws cs) (left_by run) cs) cs
  pub index : ix' ≡ cond held (replicate (length ix) 0) ix
  -- the terms read back, and what lies past the rows as it was
  pub rows : held ≡ true → Holds (2 * w) (rows_in w ws cs) (length (left_by run)) (left_by run) ws ws' cs cs'

abbrev pub SumRan : ℕ → Limits → List ℕ → List Float → List Op → List Bool → Result Finished Refusal → List ℕ → List ℕ → List Float → List Float → List ℕ → List ℕ → Type 0
SumRan qubits l keys weights ops ms r ws ws' cs cs' ix ix' =
    let rows = rows_in (width_of qubits) ws cs in
    Ran (width_of qubits) (sum_fits qubits l keys weights ops && has_rows l rows) (sum_asked qubits l keys weights ops ms rows) r ws ws' cs cs' ix ix'
