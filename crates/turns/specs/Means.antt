-- What the answers of the qubits' runs and the mean places tell.
use Rattle.std.specs.Prelude.{◌≡◌, ℕ, zero, suc, ◌*◌, ◌≤◌, Bool, List, [], ◌++◌, length, take, drop, replicate, Float, Result, Ok, Err}
use Rattle.numbers.specs.Constants.{zero64}
use Rattle.rows.specs.Rows.{rows_in, words_with, coeffs_with, Holds}
use Rattle.ops.specs.declared.Limits.{Limits}
use Rattle.ops.specs.declared.Op.{Op}
use Rattle.ops.specs.declared.Refusal.{Refusal}
use Rattle.ops.specs.Refusals.{number_of}
use Rattle.turns.specs.declared.Tally.{Tally}
use Rattle.turns.specs.declared.Finished.{Finished}
use Rattle.dynamics.specs.Turn.{Stage, refused, going, bind, ask, Outcome, outcome}
use Rattle.dynamics.specs.Outcome.{nothing_yet, z_step}
use Rattle.turns.specs.SumRuns.{told_by, results_of}
use Rattle.turns.specs.AllRuns.{fits_all, room_all, means_of}

-- the questions before the first run
abbrev pub early_all : ℕ → Limits → List Op → ℕ → ℕ → Stage (Unit {0})
early_all qubits l ops rows places = ask 2 (fits_all qubits l ops) (ask 7 (room_all qubits l rows places) (going tt))

abbrev pub asked_by : Result (Unit {0}) Refusal → Stage (Unit {0})
asked_by (Err e) = refused (number_of e)
asked_by (Ok x) = going x

-- the runs of the first k qubits, under any marks
unfoldable pub all_to : ℕ → Limits → List Bool → List Op → ℕ → Stage Outcome
all_to w l marks ops zero = going nothing_yet
all_to w l marks ops (suc k) = bind (all_to w l marks ops k) (z_step w l marks ops k)

-- room for the runs of the first k qubits
pub record AllReady (w k : ℕ) (l : Limits) (ops : List Op) (ws : List ℕ) (cs ms : List Float) : Type 0 where
  pub some : 1 ≤ l.limit
  pub low : l.limit ≤ 1048576
  pub short : length ops ≤ 4096
  pub narrow : w ≤ 4
  pub wide : k ≤ 64 * w
  pub room : 2 * l.limit ≤ rows_in w ws cs
  pub places : k ≤ length ms

-- one run's answer; past the rows all is as it was
pub record Answers (w : ℕ) (r : Result Finished Refusal) (ws₀ ws : List ℕ) (cs₀ cs : List Float) (run : Stage Outcome) : Type 0 where
  pub answer : told_by r ≡ results_of run
  pub rows : Holds (2 * w) (rows_in w ws₀ cs₀) 0 [] ws₀ ws cs₀ cs

-- runs of a tally, as an outcome: with these means
abbrev pub outcome_with : List Float → Tally → Outcome
outcome_with ms t = outcome [] zero64 ms t.peak t.discarded t.touched

abbrev pub tallied : Tally → Outcome
tallied t = outcome_with [] t

-- the runs that an answer and the first q mean places tell of
abbrev pub all_in : ℕ → Result Tally Refusal → List Float → Stage Outcome
all_in q (Err e) ms = refused (number_of e)
all_in q (Ok t) ms = going (outcome_with (take q ms) t)

pub record AllTold (w q : ℕ) (r : Result Tally Refusal) (ws₀ ws : List ℕ) (cs₀ cs ms₀ ms : List Float) (run : Stage Outcome) : Type 0 where
  pub told : all_in q r ms ≡ run
  pub rows : Holds (2 * w) (rows_in w ws₀ cs₀) 0 [] ws₀ ws cs₀ cs
  pub kept : drop q ms ≡ drop q ms₀
  pub long : length ms ≡ length ms₀

-- all runs done, the rows and the index cleared, and after a refusal the means
pub record AllLeaves (w n : ℕ) (r : Result Finished Refusal) (ws ws' : List ℕ) (cs cs' ms ms' : List Float) (ix ix' : List ℕ) (run : Stage Outcome) : Type 0 where
  pub answer : told_by r ≡ results_of run
  pub words : ws' ≡ words_with w (rows_in w ws cs) [] ws
  pub coeffs : cs' ≡ coeffs_with (rows_in w ws cs) [] cs
  pub means : ms' ≡ means_of n run ++ drop n ms
  pub index : ix' ≡ replicate (length ix) 0
