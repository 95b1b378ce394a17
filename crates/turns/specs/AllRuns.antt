-- The run of `all` in lent memory: what is asked before it, its answer, and what it leaves.
use Rattle.std.specs.Prelude.{◌≡◌, ℕ, ◌*◌, Bool, cond, ◌&&◌, List, [], ◌++◌, leb, length, drop, replicate, Float, Result}
use Rattle.numbers.specs.Constants.{zero64}
use Rattle.words.specs.Keys.{width_of}
use Rattle.rows.specs.Rows.{rows_in, words_with, coeffs_with}
use Rattle.ops.specs.declared.Limits.{Limits}
use Rattle.ops.specs.declared.Op.{Op}
use Rattle.ops.specs.declared.Refusal.{Refusal}
use Rattle.turns.specs.declared.Finished.{Finished}
use Rattle.dynamics.specs.Turn.{Stage, refused, going, ask, Outcome}
use Rattle.ops.specs.Task.{Task, counts_fit}
use Rattle.dynamics.specs.Outcome.{all_runs}
use Rattle.turns.specs.SumRuns.{told_by, results_of}

-- the task of `all`: "no terms"
abbrev pub all_task : ℕ → Limits → List Op → Task
all_task qubits l ops = record { qubits = qubits; limits = l; lines = []; ops = ops }

-- 2, of the counts that the run is given, with no lines
abbrev pub fits_all : ℕ → Limits → List Op → Bool
fits_all qubits l ops = counts_fit qubits l.limit 0 (length ops)

-- 7. "Are there at least 2 × limit rows, and for `all` as many mean places as qubits?"
abbrev pub room_all : ℕ → Limits → ℕ → ℕ → Bool
room_all qubits l rows places = leb (2 * l.limit) rows && leb qubits places

-- whether both are answered yes, so that the first run begins
abbrev pub all_held : ℕ → Limits → List Op → ℕ → ℕ → Bool
all_held qubits l ops rows places = fits_all qubits l ops && room_all qubits l rows places

-- the run that `run_spd_lowered` is equal to
abbrev pub all_asked : ℕ → Limits → List Op → ℕ → ℕ → Stage Outcome
all_asked qubits l ops rows places = ask 2 (fits_all qubits l ops) (ask 7 (room_all qubits l rows places) (all_runs (all_task qubits l ops) qubits))

-- the first `qubits` mean places: "8 and 9 set .. to zero .. the first `qubits` mean places"
abbrev pub means_of : ℕ → Stage Outcome → List Float
means_of qubits (refused n) = replicate qubits zero64
means_of qubits (going o) = o.means

-- answer and all lent memory. "1 to 7 leave rows and mean places untouched"; "after `all` .. every row is zero", and so is the index; "No other
-- mean place is ever touched."
pub record AllRan (qubits : ℕ) (held : Bool) (run : Stage Outcome) (r : Result Finished Refusal) (ws ws' : List ℕ) (cs cs' ms ms' : List Float) (ix ix' : List ℕ) : Type 0 where
  pub answer : told_by r ≡ results_of run
  pub words : ws' ≡ cond held (words_with (width_of qubits) (rows_in (width_of qubits) ws cs) [] ws) ws
  pub coeffs : cs' ≡ cond held (coeffs_with (rows_in (width_of qubits) ws cs) [] cs) cs
  pub means : ms' ≡ cond held (means_of qubits run ++ drop qubits ms) ms
  pub index : ix' ≡ cond held (replicate (length ix) 0) ix
