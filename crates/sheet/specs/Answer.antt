-- What a sheet is answered, and all that the call leaves in the memory lent to it.
use Rattle.std.specs.Prelude.{◌≡◌, ℕ, List, [], ◌++◌, map, ℤ, pos, length, drop, replicate, Float}
use Rattle.numbers.specs.Constants.{zero64}
use Rattle.numbers.specs.Shown.{shown_of}
use Rattle.words.specs.Keys.{width_of}
use Rattle.rows.specs.Rows.{rows_in, words_with, coeffs_with}
use Rattle.text.specs.Bytes.{parts, newline}
use Rattle.ops.specs.declared.Limits.{Limits}
use Rattle.ops.specs.declared.Op.{Op}
use Rattle.dynamics.specs.Turn.{Stage, refused, going, Outcome}
use Rattle.turns.specs.SumRuns.{left_by}
use Rattle.ops.specs.declared.Run.{Run}
use Rattle.ops.specs.declared.Run.TheVariants.{Full, Cone, All, Path, Wide}
use Rattle.ops.specs.Task.{Task}
use Rattle.dynamics.specs.Outcome.{outcome_of, t_count_of}
use Rattle.turns.specs.AllRuns.{means_of}
use Rattle.layout.specs.declared.Head.{Head}
use Rattle.lines.specs.TermLines.{word_line}
use Rattle.layout.specs.Layout.{head_of, term_lines, sheet_ops}
use Rattle.replies.specs.declared.Reply.{Reply}
use Rattle.replies.specs.Printed.{printed}
use Rattle.questions.specs.Verdict.{Verdict, RefusedAt, Passed}
use Rattle.questions.specs.Questions.{verdict}

-- ---- the run of a sheet

abbrev pub limits_of : Head → Limits
limits_of h = record { epsilon = h.epsilon; max_terms = h.max_terms; limit = h.limit }

-- what the sheet gives a run
abbrev pub task_of : Head → List (List ℕ) → Task
task_of h ls = record {
  qubits = h.qubits;
  limits = limits_of h;
  lines = map (word_line (width_of h.qubits)) (term_lines h ls);
  ops = sheet_ops h ls;
}

abbrev pub run_of : Head → List (List ℕ) → Stage Outcome
run_of h ls = outcome_of h.run (task_of h ls)

-- ---- the reply

-- in the order in which they are printed, and how many `z=` lines follow
abbrev pub reply : ℕ → ℕ → Float → ℤ → ℕ → ℕ → ℕ → Float → ℕ → Reply
reply n k m s t p u d zs =
    record { status = n; line = k; mean = m; shown = s; t_count = t; peak_terms = p; touched = u; discarded = d; means = zs }

-- "A refusal gives its number, line and zeros for all results."
abbrev pub refusal : ℕ → ℕ → Reply
refusal n k = reply n k zero64 (pos 0) 0 0 0 zero64 0

abbrev pub success : Run → List Op → Outcome → Reply
success r ops o = reply 0 0 o.mean (shown_of o.mean) (t_count_of r ops) o.peak o.touched o.discarded (length o.means)

-- "8, line 0", "9, line 0"
abbrev pub reply_run : Run → List Op → Stage Outcome → Reply
reply_run r ops (refused n) = refusal n 0
reply_run r ops (going o) = success r ops o

abbrev pub reply_to : Head → List (List ℕ) → Verdict → Reply
reply_to h ls (RefusedAt n k) = refusal n k
reply_to h ls Passed = reply_run h.run (sheet_ops h ls) (run_of h ls)

-- the reply to the bytes of a sheet, with so many rows and mean places lent
unfoldable pub reply_of : List ℕ → ℕ → ℕ → Reply
reply_of s rows places =
    let ls = parts newline s in
    let h = head_of ls in
    reply_to h ls (verdict h ls rows places)

-- ---- the lent memory

-- the first mean places, that a run of the kind changes: for `all` one for each qubit. "8 and 9 set .. to zero .. the first `qubits` mean
-- places"; "No other mean place is ever touched."
abbrev pub means_after : Run → ℕ → Stage Outcome → List Float → List Float
means_after Full qubits run ms = ms
means_after Cone qubits run ms = ms
means_after All qubits run ms = means_of qubits run ++ drop qubits ms
means_after Path qubits run ms = ms
means_after Wide qubits run ms = ms

-- reply and all lent memory. "1 to 7 leave rows and mean places untouched"; "Success leaves the final terms in order, then zero rows"; "8 and 9
-- set every row to zero"; "what a buffer has beyond them is never touched". The memory of the index is zeros after a run.
pub record Leaves (h : Head) (run : Stage Outcome) (ws ws' : List ℕ) (cs cs' ms ms' : List Float) (ix ix' : List ℕ) : Type 0 where
  pub words : ws' ≡ words_with (width_of h.qubits) (rows_in (width_of h.qubits) ws cs) (left_by run) ws
  pub coeffs : cs' ≡ coeffs_with (rows_in (width_of h.qubits) ws cs) (left_by run) cs
  pub means : ms' ≡ means_after h.run h.qubits run ms
  pub index : ix' ≡ replicate (length ix) 0

pub record Untouched (ws ws' : List ℕ) (cs cs' ms ms' : List Float) (ix ix' : List ℕ) : Type 0 where
  pub words : ws' ≡ ws
  pub coeffs : cs' ≡ cs
  pub means : ms' ≡ ms
  pub index : ix' ≡ ix

abbrev pub LeavesBy : Head → List (List ℕ) → Verdict → List ℕ → List ℕ → List Float → List Float → List Float → List Float → List ℕ → List ℕ → Type 0
LeavesBy h ls (RefusedAt n k) ws ws' cs cs' ms ms' ix ix' = Untouched ws ws' cs cs' ms ms' ix ix'
LeavesBy h ls Passed ws ws' cs cs' ms ms' ix ix' = Leaves h (run_of h ls) ws ws' cs cs' ms ms' ix ix'

-- the contract of `answer`: s is the sheet, r the reply
pub record Answered (s : List ℕ) (r : Reply) (ws ws' : List ℕ) (cs cs' ms ms' : List Float) (ix ix' : List ℕ) : Type 0 where
  pub reply : r ≡ reply_of s (rows_in (width_of (head_of (parts newline s)).qubits) ws cs) (length ms)
  pub memory : let ls = parts newline s in let h = head_of ls in LeavesBy h ls (verdict h ls (rows_in (width_of h.qubits) ws cs) (length ms)) ws ws' cs cs' ms ms' ix ix'

-- ---- from the bytes of a sheet to the bytes that are printed

-- the Z means: those that a run of `all` that succeeds leaves in the first mean places
abbrev pub means_run : Stage Outcome → List Float
means_run (refused n) = []
means_run (going o) = o.means

abbrev pub means_to : Head → List (List ℕ) → Verdict → List Float
means_to h ls (RefusedAt n k) = []
means_to h ls Passed = means_run (run_of h ls)

unfoldable pub printed_of : List ℕ → ℕ → ℕ → List ℕ
printed_of s rows places =
    let ls = parts newline s in
    let h = head_of ls in
    let v = verdict h ls rows places in
    printed (reply_to h ls v) (means_to h ls v)
