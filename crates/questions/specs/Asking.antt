-- Words of the private contracts: how the questions are asked.
use Rattle.std.specs.Prelude.{ℕ, ◌+◌, Bool, cond, ◌&&◌, List, Option, None, Some}
use Rattle.ops.specs.declared.Op.{Op}
use Rattle.ops.specs.Task.{distinct_targets}
use Rattle.layout.specs.declared.Head.{Head}
use Rattle.layout.specs.Layout.{term_lines, sheet_ops}
use Rattle.lines.specs.TermLines.{TermLine, all_below, distinct}
use Rattle.questions.specs.declared.Asked.{Asked}
use Rattle.questions.specs.declared.Asked.TheVariants.{Two, Three, Four, FiveAndSix, Eleven}
use Rattle.questions.specs.Verdict.{Verdict}
use Rattle.questions.specs.Questions.{Question, question2, question3, question4, of_qubits, question11, unless, head_line, refused_or, term_fault, op_fault, first_fault}

-- 5 and 6
abbrev pub question56 : Head → Question
question56 h = of_qubits (λ qs. all_below h.qubits qs && distinct qs) (λ qs. all_below h.qubits qs && distinct_targets qs)

abbrev pub question_of : Asked → Head → Question
question_of Two h = question2 h
question_of Three h = question3 h
question_of Four h = question4 h
question_of FiveAndSix h = question56 h
question_of Eleven h = question11

-- the number of the question that refuses a line of the head, where 5 and 6 ask of none
abbrev pub number : Asked → ℕ
number Two = 2
number Three = 3
number Four = 4
number FiveAndSix = 5
number Eleven = 11

-- the number of a question, unless the answer is yes
abbrev pub number_unless : Bool → ℕ → Option ℕ
number_unless b n = cond b None (Some n)

-- the number that refuses a `term` line
abbrev pub term_number : Asked → Head → TermLine → Option ℕ
term_number Two h l = None
term_number Three h l = number_unless ((question_of Three h).term l) 3
term_number Four h l = number_unless ((question_of Four h).term l) 4
term_number FiveAndSix h l = term_fault h l
term_number Eleven h l = None

-- the number that refuses an op
abbrev pub op_number : Asked → Head → Op → Option ℕ
op_number Two h o = None
op_number Three h o = number_unless ((question_of Three h).op o) 3
op_number Four h o = number_unless ((question_of Four h).op o) 4
op_number FiveAndSix h o = op_fault h o
op_number Eleven h o = number_unless ((question_of Eleven h).op o) 11

-- a question put to the head, the `term` lines, `ops` and the ops, then v
abbrev pub head_verdict : Asked → Head → Verdict → Verdict
head_verdict a h v = refused_or (number a) (head_line (question_of a h)) v

abbrev pub term_verdict : Asked → Head → List (List ℕ) → Verdict → Verdict
term_verdict a h ls v = first_fault (term_number a h) 7 (term_lines h ls) v

abbrev pub count_verdict : Asked → Head → Verdict → Verdict
count_verdict a h v = refused_or (number a) (unless (question_of a h).ops (7 + h.terms)) v

abbrev pub op_verdict : Asked → Head → List (List ℕ) → Verdict → Verdict
op_verdict a h ls v = first_fault (op_number a h) (8 + h.terms) (sheet_ops h ls) v

abbrev pub asked_verdict : Asked → Head → List (List ℕ) → Verdict → Verdict
asked_verdict a h ls v = head_verdict a h (term_verdict a h ls (count_verdict a h (op_verdict a h ls v)))
