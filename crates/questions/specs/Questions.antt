-- "Questions before and during a run": 1 to 7 and 11. "Each is put to the whole sheet before the next, 1 to 7; the line returned is the first that
-- fails, counted from 1." 11 is put after 4 (2026-06), and 5 and 6 together, line by line (2026-01).
use Rattle.std.specs.Prelude.{ℕ, suc, ◌+◌, ◌*◌, Bool, true, cond, ◌&&◌, List, [], ◌∷◌, leb, eqb, Float, Option, None, Some}
use Rattle.std.specs.Float.Ieee.{eq}
use Rattle.numbers.specs.Constants.{one64}
use Rattle.numbers.specs.Tests.{is_finite, is_epsilon}
use Rattle.ops.specs.declared.Op.{Op}
use Rattle.ops.specs.Ops.{shape_of, targets}
use Rattle.ops.specs.declared.Run.{Run}
use Rattle.ops.specs.declared.Run.TheVariants.{Full, Cone, All, Path, Wide}
use Rattle.ops.specs.Task.{not_channel, reals_fit, pair_holds, distinct_targets}
use Rattle.layout.specs.declared.Head.{Head}
use Rattle.lines.specs.TermLines.{TermLine, qubits_in, all_below, distinct}
use Rattle.layout.specs.Layout.{question1, term_lines, sheet_ops}
use Rattle.questions.specs.Verdict.{Verdict, RefusedAt, Passed}

-- what a question asks of each line that it speaks of
pub record Question : Type 0 where
  pub qubits : Bool
  pub epsilon : Bool
  pub limit : Bool
  pub terms : Bool
  pub term : TermLine → Bool
  pub ops : Bool
  pub op : Op → Bool

-- ---- 2. "Are qubits 1 to 256, limit 1 to 1,048,576, terms at most 1,024 and at most limit, ops at most 4,096?"
abbrev pub within : ℕ → ℕ → ℕ → Bool
within a b n = leb a n && leb n b

abbrev pub question2 : Head → Question
question2 h = record {
  qubits = within 1 256 h.qubits;
  epsilon = true;
  limit = within 1 1048576 h.limit;
  terms = leb h.terms 1024 && leb h.terms h.limit;
  term = λ l. true;
  ops = leb h.ops 4096;
  op = λ o. true;
}

-- ---- 3. "Does `cone` have one term of weight 1.0, `all` no terms, and do channels stand only in `path`?" `wide` "counts as `path`" (2026-10)
abbrev pub count_fits : Run → ℕ → Bool
count_fits Full n = true
count_fits Cone n = eqb n 1
count_fits All n = eqb n 0
count_fits Path n = true
count_fits Wide n = true

abbrev pub weight_fits : Run → Float → Bool
weight_fits Full x = true
weight_fits Cone x = eq x one64
weight_fits All x = true
weight_fits Path x = true
weight_fits Wide x = true

abbrev pub channel_fits : Run → Op → Bool
channel_fits Full o = not_channel (shape_of o).sort
channel_fits Cone o = not_channel (shape_of o).sort
channel_fits All o = not_channel (shape_of o).sort
channel_fits Path o = true
channel_fits Wide o = true

abbrev pub question3 : Head → Question
question3 h = record {
  qubits = true;
  epsilon = true;
  limit = true;
  terms = count_fits h.run h.terms;
  term = λ l. weight_fits h.run l.weight;
  ops = true;
  op = channel_fits h.run;
}

-- ---- 4. "Are epsilon finite and at least 0, weights finite, sines and cosines from -1 to 1, rates and excited from 0 to 1?"
abbrev pub question4 : Head → Question
question4 h = record {
  qubits = true;
  epsilon = is_epsilon h.epsilon;
  limit = true;
  terms = true;
  term = λ l. is_finite l.weight;
  ops = true;
  op = reals_fit;
}

-- ---- 11. "a pair or rate triple breaking this, put after question 4" (2026-06)
abbrev pub question11 : Question
question11 = record {
  qubits = true;
  epsilon = true;
  limit = true;
  terms = true;
  term = λ l. true;
  ops = true;
  op = pair_holds;
}

-- ---- 5 and 6 ask of the qubits in one term, and of the targets of one op
abbrev pub of_qubits : (List ℕ → Bool) → (List ℕ → Bool) → Question
of_qubits p r = record {
  qubits = true;
  epsilon = true;
  limit = true;
  terms = true;
  term = λ l. p (qubits_in l.factors);
  ops = true;
  op = λ o. r (targets o);
}

-- 5. "Is every qubit below qubits?"
abbrev pub question5 : Head → Question
question5 h = of_qubits (all_below h.qubits) (all_below h.qubits)

-- 6. "Are the qubits in one term, and the two targets of one op, distinct?"
abbrev pub question6 : Question
question6 = of_qubits distinct distinct_targets

-- ---- 7. "Are there at least 2 × limit rows, and for `all` as many mean places as qubits?"
abbrev pub places_fit : Run → ℕ → ℕ → Bool
places_fit Full qubits places = true
places_fit Cone qubits places = true
places_fit All qubits places = leb qubits places
places_fit Path qubits places = true
places_fit Wide qubits places = true

abbrev pub question7 : Head → ℕ → ℕ → Bool
question7 h rows places = leb (2 * h.limit) rows && places_fit h.run h.qubits places

-- ---- the first line at which the answer is no
infixr 20 ◌or_else◌
abbrev pub ◌or_else◌ : Option ℕ → Option ℕ → Option ℕ
None or_else b = b
(Some k) or_else b = Some k

-- line k, unless the answer is yes
abbrev pub unless : Bool → ℕ → Option ℕ
unless b k = cond b None (Some k)

-- lines from line k on
unfoldable pub first_of : {A : Type 0} → (A → Bool) → ℕ → List A → Option ℕ
first_of p k [] = None
first_of p k (a ∷ l) = let r = first_of p (suc k) l in cond (p a) r (Some k)

-- the lines `qubits` (1) to `terms` (6)
abbrev pub head_line : Question → Option ℕ
head_line q = unless q.qubits 1 or_else unless q.epsilon 3 or_else unless q.limit 5 or_else unless q.terms 6

-- `ops`, and the `op` lines, where there are t `term` lines
abbrev pub ops_line : Question → ℕ → List Op → Option ℕ
ops_line q t os = unless q.ops (7 + t) or_else first_of q.op (8 + t) os

abbrev pub first_no : Question → ℕ → List TermLine → List Op → Option ℕ
first_no q t ls os = head_line q or_else first_of q.term 7 ls or_else ops_line q t os

-- ---- the verdict: the number of the first question that fails, and its line
abbrev pub refused_or : ℕ → Option ℕ → Verdict → Verdict
refused_or n None v = v
refused_or n (Some k) v = RefusedAt n k

abbrev pub line_of : Question → Head → List (List ℕ) → Option ℕ
line_of q h ls = first_no q h.terms (term_lines h ls) (sheet_ops h ls)

abbrev pub room_verdict : Head → ℕ → ℕ → Verdict
room_verdict h rows places = cond (question7 h rows places) Passed (RefusedAt 7 0)

-- questions 1 to 4, then v
abbrev pub by_question : Head → List (List ℕ) → Verdict → Verdict
by_question h ls v =
    refused_or 1 (question1 h ls)
    (refused_or 2 (line_of (question2 h) h ls)
    (refused_or 3 (line_of (question3 h) h ls)
    (refused_or 4 (line_of (question4 h) h ls) v)))

-- ---- 5 and 6: "They are now put line by line, 5 before 6 on one line." (2026-01)

-- the number that refuses a line, by whether its qubits are below `qubits` and whether they are distinct
abbrev pub fault_of : Bool → Bool → Option ℕ
fault_of below apart = cond below (cond apart None (Some 6)) (Some 5)

abbrev pub term_fault : Head → TermLine → Option ℕ
term_fault h l = fault_of ((question5 h).term l) (question6.term l)

abbrev pub op_fault : Head → Op → Option ℕ
op_fault h o = fault_of ((question5 h).op o) (question6.op o)

-- the first line from line k on that is refused, and by what number; else v
abbrev pub refused_by : Option ℕ → ℕ → Verdict → Verdict
refused_by None k v = v
refused_by (Some n) k v = RefusedAt n k

unfoldable pub first_fault : {A : Type 0} → (A → Option ℕ) → ℕ → List A → Verdict → Verdict
first_fault f k [] v = v
first_fault f k (a ∷ l) v = let r = first_fault f (suc k) l v in refused_by (f a) k r

-- the `term` lines, the `op` lines, then v
abbrev pub by_line : Head → List (List ℕ) → Verdict → Verdict
by_line h ls v = first_fault (term_fault h) 7 (term_lines h ls) (first_fault (op_fault h) (8 + h.terms) (sheet_ops h ls) v)

unfoldable pub verdict : Head → List (List ℕ) → ℕ → ℕ → Verdict
unfolding first_fault
verdict h ls rows places = by_question h ls (refused_or 11 (line_of question11 h ls) (by_line h ls (room_verdict h rows places)))

-- questions 1 and 2, and then the others
abbrev pub early_verdict : Head → List (List ℕ) → Verdict
early_verdict h ls = refused_or 1 (question1 h ls) (refused_or 2 (line_of (question2 h) h ls) Passed)

abbrev pub later_verdict : Head → List (List ℕ) → ℕ → ℕ → Verdict
later_verdict h ls rows places =
    refused_or 3 (line_of (question3 h) h ls)
    (refused_or 4 (line_of (question4 h) h ls)
    (refused_or 11 (line_of question11 h ls) (by_line h ls (room_verdict h rows places))))
