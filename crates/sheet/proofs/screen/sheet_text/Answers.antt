use Rattle.std.proofs.Common.{ℕ, Float}
use Rattle.std.proofs.Math.ListN.{length-replicate}
use Rattle.numbers.specs.Constants.{zero64}
use Rattle.sheet.proofs.ScreenLaws.{same_text, answer_printed}
use Rattle.sheet.proofs.screen.sheet_text.Goals as goal

pub returns : goal.returns
returns c =
    same_text (answer_printed c.args.s.now _ (length-replicate {A = ℕ} 4096 0) (length-replicate {A = Float} 512 zero64) (length-replicate {A = Float} 256 zero64) c.answer-reply.ensures)
    c.printed.ensures
