-- 2026-01 Top line first: "Questions 5 and 6 overlap on such sheets. They are now put line by line, 5 before 6 on one line. The old answers that
-- change are those with a repeat on an earlier line than the first outside qubit: 5 becomes 6, with the earlier line. All others hold."
use Rattle.std.specs.Prelude.{ℕ, Bool, false, ◌&&◌, List, eqb, ltb, Option, None, Some}
use Rattle.lines.specs.Fields.{or_zero}
use Rattle.layout.specs.declared.Head.{Head}
use Rattle.layout.specs.Layout.{term_lines, sheet_ops}
use Rattle.questions.specs.Verdict.{Verdict}
use Rattle.questions.specs.Questions.{question5, question6, question11, first_no, refused_or, line_of, by_question, room_verdict}
use Rattle.changes.specs.Compared.{Change, Compared}

-- the first line with a qubit outside, and the first with a repeat
abbrev pub outside_line : Head → List (List ℕ) → Option ℕ
outside_line h ls = first_no (question5 h) h.terms (term_lines h ls) (sheet_ops h ls)

abbrev pub repeat_line : Head → List (List ℕ) → Option ℕ
repeat_line h ls = first_no question6 h.terms (term_lines h ls) (sheet_ops h ls)

-- before: "Each is put to the whole sheet before the next, 1 to 7; the line returned is the first that fails"
unfoldable pub one_by_one : Head → List (List ℕ) → ℕ → ℕ → Verdict
one_by_one h ls rows places =
    by_question h ls
    (refused_or 11 (line_of question11 h ls)
    (refused_or 5 (outside_line h ls)
    (refused_or 6 (repeat_line h ls) (room_verdict h rows places))))

-- a line before line k
abbrev pub earlier_than : Option ℕ → ℕ → Bool
earlier_than None k = false
earlier_than (Some r) k = ltb r k

-- 5 at line k, and "a repeat on an earlier line"
abbrev pub hides : Head → List (List ℕ) → ℕ → ℕ → Bool
hides h ls n k = eqb n 5 && earlier_than (repeat_line h ls) k

-- "5 becomes 6, with the earlier line"
abbrev pub top_line : Change
top_line = record { before = one_by_one; moves = hides; number = 6; line = λ h ls. or_zero (repeat_line h ls) }

-- "All others hold."
abbrev pub TopLineFirst : Type 0
TopLineFirst = Compared top_line
