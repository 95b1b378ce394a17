use Rattle.std.proofs.Common.{ℕ, ap, ◌∙◌}
use Rattle.std.proofs.Math.ListN.{replicate, length-replicate}
use Rattle.text.specs.Bytes.{parts, newline}
use Rattle.sheet.proofs.AnswerLaws.{lines_room}
use Rattle.sheet.proofs.answer.answer_table.Goals as goal

pub answer_in-requires-clause-lines_room : goal.answer_in-requires-clause-lines_room
answer_in-requires-clause-lines_room g c =
    lines_room c.args.sheet.head (parts newline c.args.sheet.text.now) c.requires.early g.row.LINES _ c.width.ensures c.requires.lines_room.0
    (length-replicate g.row.WORDS 0 ∙ c.requires.words_room) (ap (λ (n : ℕ). replicate n 0) c.requires.words_room) (length-replicate g.row.LINES _)
