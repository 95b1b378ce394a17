-- No `term` line before i is refused.
use Rattle.std.proofs.Common.{◌≡◌, ◌+◌}
use Rattle.text.specs.Bytes.{parts, newline}
use Rattle.layout.specs.Cursor.{start_at}
use Rattle.layout.specs.Layout.{term_lines}
use Rattle.questions.specs.Asking.{term_number}
use Rattle.questions.proofs.WalkLaws.{Walked}
use Rattle.questions.proofs.asking.ask_terms.Given as goal

abbrev pub invariant-loop-i : goal.invariant-loop-i
invariant-loop-i l = record {
  place : l.at ≡ start_at l.laid.sheet.text.now 0 (6 + l.i);
  walked : Walked (term_number l.asked l.laid.sheet.head) 7 (term_lines l.laid.sheet.head (parts newline l.laid.sheet.text.now)) l.i;
}
