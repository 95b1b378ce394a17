-- Words of the private contracts: the run of a sheet whose lines are in a table, and its reply.
use Rattle.std.specs.Prelude.{◌≡◌, ℕ, ◌*◌, ◌≤◌, true, List, length, replicate, Float, Result, Ok, Err, None}
use Rattle.numbers.specs.Shown.{shown_of}
use Rattle.words.specs.Keys.{width_of}
use Rattle.rows.specs.declared.Rows.{Rows}
use Rattle.rows.specs.Rows.{rows_in}
use Rattle.ops.specs.declared.Op.{Op}
use Rattle.ops.specs.declared.Refusal.{Refusal}
use Rattle.ops.specs.Refusals.{number_of}
use Rattle.dynamics.specs.Turn.{Stage, Outcome}
use Rattle.turns.specs.declared.Finished.{Finished}
use Rattle.turns.specs.declared.Memory.{Memory}
use Rattle.turns.specs.Lent.{OnMemory}
use Rattle.turns.specs.SumRuns.{sum_fits, told_by, results_of}
use Rattle.ops.specs.declared.Run.{Run}
use Rattle.ops.specs.declared.Run.TheVariants.{Full, Cone, All, Path, Wide}
use Rattle.ops.specs.Task.{Task, passes}
use Rattle.dynamics.specs.Outcome.{outcome_of}
use Rattle.ops.specs.LineTable as T
use Rattle.layout.specs.declared.Head.{Head}
use Rattle.layout.specs.Layout.{question1, sheet_ops}
use Rattle.replies.specs.declared.Reply.{Reply}
use Rattle.questions.specs.Verdict.{Verdict}
use Rattle.questions.specs.Questions.{question7, later_verdict}
use Rattle.sheet.specs.Answer.{limits_of, reply, refusal, reply_to, Leaves, LeavesBy}

-- how many Z means a run that succeeds leaves
abbrev pub means_count : Run → ℕ → ℕ
means_count Full qubits = 0
means_count Cone qubits = 0
means_count All qubits = qubits
means_count Path qubits = 0
means_count Wide qubits = 0

-- the reply that an answer of a run stands for
abbrev pub reply_end : Run → ℕ → ℕ → Result Finished Refusal → Reply
reply_end r qubits t (Err e) = refusal (number_of e) 0
reply_end r qubits t (Ok f) = reply 0 0 f.mean (shown_of f.mean) t f.tally.peak f.tally.touched f.tally.discarded (means_count r qubits)

-- the task in a table
abbrev pub table_task : Head → List ℕ → List Float → List Op → Task
table_task h keys weights os = T.task_of h.qubits (limits_of h) keys weights os

-- the table holds a task that the questions pass, and there is room
pub record Runnable (h : Head) (keys : List ℕ) (weights : List Float) (os : List Op) (ws : List ℕ) (cs ms : List Float) : Type 0 where
  pub pass : passes h.run (table_task h keys weights os) ≡ true
  pub given : sum_fits h.qubits (limits_of h) keys weights os ≡ true
  pub room : question7 h (rows_in (width_of h.qubits) ws cs) (length ms) ≡ true

-- what is said of the lent memory and the mean places
abbrev pub OnLent : (List ℕ → List ℕ → List Float → List Float → List Float → List Float → List ℕ → List ℕ → Type 0) → Memory → Memory → List Float → List Float → Type 0
OnLent P m m' ms ms' = OnMemory (λ ws ws' cs cs' ix ix'. P ws ws' cs cs' ms ms' ix ix') m m'

-- answer and memory after the run
pub record Ended (h : Head) (run : Stage Outcome) (r : Result Finished Refusal) (ws ws' : List ℕ) (cs cs' ms ms' : List Float) (ix ix' : List ℕ) : Type 0 where
  pub answer : told_by r ≡ results_of run
  pub memory : Leaves h run ws ws' cs cs' ms ms' ix ix'

abbrev pub table_run : Head → List ℕ → List Float → List Op → Stage Outcome
table_run h keys weights os = outcome_of h.run (table_task h keys weights os)

-- ---- the steps of `answer`

-- a blank table with room for a sheet's lines, at the width of its qubits
pub record LinesRoom (h : Head) (t : Rows) : Type 0 where
  pub width : t.w ≡ width_of h.qubits
  pub long : h.terms * (2 * width_of h.qubits) ≤ length t.words.now
  pub blank : t.words.now ≡ replicate (length t.words.now) 0
  pub long' : h.terms ≤ length t.coeffs.now

-- the sheet passes questions 1 and 2, and os is its op list
pub record Sound (h : Head) (ls : List (List ℕ)) (os : List Op) : Type 0 where
  pub laid : question1 h ls ≡ None
  pub qubits : h.qubits ≤ 256
  pub limit : h.limit ≤ 1048576
  pub terms : h.terms ≤ 1024
  pub ops : h.ops ≤ 4096
  pub table : os ≡ sheet_ops h ls

-- reply and memory by the verdict on the sheet
pub record Replied (h : Head) (ls : List (List ℕ)) (v : Verdict) (r : Reply) (ws ws' : List ℕ) (cs cs' ms ms' : List Float) (ix ix' : List ℕ) : Type 0 where
  pub reply : r ≡ reply_to h ls v
  pub memory : LeavesBy h ls v ws ws' cs cs' ms ms' ix ix'

-- the same of a sheet that passed questions 1 and 2, by the verdict on the others
abbrev pub RepliedLater : Head → List (List ℕ) → Reply → List ℕ → List ℕ → List Float → List Float → List Float → List Float → List ℕ → List ℕ → Type 0
RepliedLater h ls r ws ws' cs cs' ms ms' ix ix' =
    Replied h ls (later_verdict h ls (rows_in (width_of h.qubits) ws cs) (length ms)) r ws ws' cs cs' ms ms' ix ix'
