-- Demand 2 of the public function `answer`: what the published form answers to the bytes of a sheet, and that the reply, the rows and the text are that.
-- proofs/Answers.antt proves it (`answers_as_published`). Names are those of sheet, whose questions before a run are asked of the sheet's bytes alone.
use Rattle.std.specs.Prelude.{◌≡◌, ℕ, ◌-◌, ◌*◌, cond, List, [], ◌++◌, map, ltb, length, replicate, Float}
use Rattle.numbers.specs.Close.{◌≈◌}
use Rattle.words.specs.Keys.{width_of}
use Rattle.terms.specs.Lists.{Each}
use Rattle.rows.specs.Rows.{terms_in, rows_in}
use Rattle.dynamics.specs.Turn.{Stage, refused, going}
use Rattle.dynamics.specs.Turn as S
use Rattle.published.specs.Complex.{none64}
use Rattle.published.specs.Term.{Term, term, complex_of}
use Rattle.published.specs.Turn.{Outcome}
use Rattle.published.specs.Outcome.{outcome_of}
use Rattle.text.specs.Bytes.{parts, newline}
use Rattle.layout.specs.declared.Head.{Head}
use Rattle.layout.specs.Layout.{head_of, sheet_ops}
use Rattle.replies.specs.declared.Reply.{Reply}
use Rattle.replies.specs.Printed.{printed}
use Rattle.questions.specs.Verdict.{Verdict, RefusedAt, Passed}
use Rattle.questions.specs.Questions.{verdict}
use Rattle.sheet.specs.Answer.{task_of, refusal, reply_run, means_run, means_after, Untouched, Answered}
use Rattle.sheet.specs.Screen as B

-- ---- the published run of a sheet
abbrev pub run_of : Head → List (List ℕ) → Stage Outcome
run_of h ls = outcome_of h.run (task_of h ls)

-- the terms that it ends with; a refused run has none
abbrev pub left_by : Stage Outcome → List Term
left_by (refused n) = []
left_by (going o) = o.terms

-- all that a reply tells of a run: mean, means, peak, discarded weight and touched
abbrev pub told_of : Stage Outcome → Stage S.Outcome
told_of (refused n) = refused n
told_of (going o) = going (S.outcome [] o.mean o.means o.peak o.discarded o.touched)

-- ---- the reply of the published form, and the text that it prints, with so many rows and mean places lent
abbrev pub reply_to : Head → List (List ℕ) → Verdict → Reply
reply_to h ls (RefusedAt n k) = refusal n k
reply_to h ls Passed = reply_run h.run (sheet_ops h ls) (told_of (run_of h ls))

abbrev pub means_to : Head → List (List ℕ) → Verdict → List Float
means_to h ls (RefusedAt n k) = []
means_to h ls Passed = means_run (told_of (run_of h ls))

unfoldable pub reply_of : List ℕ → ℕ → ℕ → Reply
reply_of s rows places =
    let ls = parts newline s in
    let h = head_of ls in
    reply_to h ls (verdict h ls rows places)

unfoldable pub printed_of : List ℕ → ℕ → ℕ → List ℕ
printed_of s rows places =
    let ls = parts newline s in
    let h = head_of ls in
    let v = verdict h ls rows places in
    printed (reply_to h ls v) (means_to h ls v)

-- the bench's screen
unfoldable pub bench : List ℕ → List ℕ
unfolding printed printed_of
bench s = cond (ltb 65536 (length s)) (printed (refusal 1 0) []) (printed_of s 512 256)

-- ---- "Answers, counts, discarded weights .. are compared, bit for bit with either zero alike": `means` is how many Z means there are
pub record SameReply (r q : Reply) : Type 0 where
  pub status : r.status ≡ q.status
  pub line : r.line ≡ q.line
  pub mean : r.mean ≈ q.mean
  pub shown : r.shown ≡ q.shown
  pub t_count : r.t_count ≡ q.t_count
  pub peak_terms : r.peak_terms ≡ q.peak_terms
  pub touched : r.touched ≡ q.touched
  pub discarded : r.discarded ≈ q.discarded
  pub means : r.means ≡ q.means

-- ---- "and remaining rows"
-- one word, and coefficients that are equal as numbers, part by part
pub record Named (t u : Term) : Type 0 where
  pub key : t.key ≡ u.key
  pub re : t.coeff.re ≈ u.coeff.re
  pub im : t.coeff.im ≈ u.coeff.im

-- "read the compared rows through that" (2026-07): the first n rows, each with the coefficient that its number stands for
abbrev pub rows_read : ℕ → ℕ → List ℕ → List Float → List Term
rows_read w n ws cs = map (complex_of w) (terms_in (2 * w) n ws cs)

-- "the final terms in order, then zero rows", n in all
abbrev pub zero_row : ℕ → Term
zero_row w = term (replicate (2 * w) 0) none64

abbrev pub rows_with : ℕ → ℕ → List Term → List Term
rows_with w n us = us ++ replicate (n - length us) (zero_row w)

-- every row lent, in order, and every mean place, after a published run
pub record Leaves (h : Head) (run : Stage Outcome) (ws ws' : List ℕ) (cs cs' ms ms' : List Float) : Type 0 where
  pub rows : let w = width_of h.qubits in let n = rows_in w ws cs in Each Named (rows_read w n ws' cs') (rows_with w n (left_by run))
  pub means : Each ◌≈◌ ms' (means_after h.run h.qubits (told_of run) ms)

-- "1 to 7 leave rows and mean places untouched"
abbrev pub LeavesBy : Head → List (List ℕ) → Verdict → List ℕ → List ℕ → List Float → List Float → List Float → List Float → List ℕ → List ℕ → Type 0
LeavesBy h ls (RefusedAt n k) ws ws' cs cs' ms ms' ix ix' = Untouched ws ws' cs cs' ms ms' ix ix'
LeavesBy h ls Passed ws ws' cs cs' ms ms' ix ix' = Leaves h (run_of h ls) ws ws' cs cs' ms ms'

-- ---- the reply r to the sheet s, the memory lent to `answer` before and after, and the text printed of both
pub record AsPublished (s : List ℕ) (r : Reply) (ws ws' : List ℕ) (cs cs' ms ms' : List Float) (ix ix' : List ℕ) : Type 0 where
  pub reply : SameReply r (reply_of s (rows_in (width_of (head_of (parts newline s)).qubits) ws cs) (length ms))
  pub memory : let ls = parts newline s in let h = head_of ls in LeavesBy h ls (verdict h ls (rows_in (width_of h.qubits) ws cs) (length ms)) ws ws' cs cs' ms ms' ix ix'
  pub text : printed r ms' ≡ printed_of s (rows_in (width_of (head_of (parts newline s)).qubits) ws cs) (length ms)

-- of every sheet and all lent memory, by the contract of `answer`; and so on the bench's screen, byte for byte
pub record AnswersAsPublished : Type 0 where
  pub called : (s : List ℕ) (r : Reply) (ws ws' : List ℕ) (cs cs' ms ms' : List Float) (ix ix' : List ℕ) → Answered s r ws ws' cs cs' ms ms' ix ix'
      → AsPublished s r ws ws' cs cs' ms ms' ix ix'
  pub screen : (s : List ℕ) → B.bench s ≡ bench s
