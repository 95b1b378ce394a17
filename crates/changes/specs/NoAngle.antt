-- 2026-06 Pairs that are no angle: "Question 4's ranges stay. .. New numbers: 11, a pair or rate triple breaking this, put after question 4." The answers that
-- change are those of sheets that pass 1 to 4 and have such an op; all others hold.
use Rattle.std.specs.Prelude.{ℕ, Bool, not, ◌&&◌, List, leb, ltb, Option, is_some}
use Rattle.lines.specs.Fields.{or_zero}
use Rattle.layout.specs.declared.Head.{Head}
use Rattle.questions.specs.Verdict.{Verdict}
use Rattle.questions.specs.Questions.{question11, line_of, by_question, by_line, room_verdict}
use Rattle.changes.specs.Compared.{Change, Compared}

-- before: 5 and 6 after 4
unfoldable pub unasked : Head → List (List ℕ) → ℕ → ℕ → Verdict
unasked h ls rows places = by_question h ls (by_line h ls (room_verdict h rows places))

-- refused by one of 1 to 4, at line k
abbrev pub earlier : ℕ → ℕ → Bool
earlier n k = leb 1 n && (leb n 4 && ltb 0 k)

-- the first op that breaks it
abbrev pub broken_line : Head → List (List ℕ) → Option ℕ
broken_line h ls = line_of question11 h ls

abbrev pub breaks : Head → List (List ℕ) → ℕ → ℕ → Bool
breaks h ls n k = is_some (broken_line h ls) && not (earlier n k)

abbrev pub no_angle : Change
no_angle = record { before = unasked; moves = breaks; number = 11; line = λ h ls. or_zero (broken_line h ls) }

abbrev pub AnglesOnly : Type 0
AnglesOnly = Compared no_angle
