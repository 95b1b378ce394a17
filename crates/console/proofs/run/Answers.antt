-- The text is that of the input, and on the other output nothing is written where all went well.
use Rattle.console.proofs.TextLaws.{input_of, lost}
use Rattle.console.proofs.WriteLaws.{keeps_itself}
use Rattle.std.proofs.Common.{◌∙◌}
use Rattle.console.proofs.run.Goals as goal

pub returns-then-write_text-clause-delivers : goal.returns-then-write_text-clause-delivers
returns-then-write_text-clause-delivers g c =
    let x = input_of _ _ _ _ _ c.in-Ok.ensures.fed in
    let e = c.in-Ok.ensures.says.shown ∙ x.2 in
    (x.0, x.1, rw (← e) c.if-write_text.ensures, keeps_itself _)

pub returns-then-write_text-clause-input : goal.returns-then-write_text-clause-input
returns-then-write_text-clause-input g c = lost _ _ _ _ _ c.answer_input.auto.buf c.in-Ok.ensures.fed

pub returns-clause-delivers : goal.returns-clause-delivers
returns-clause-delivers g c =
    let x = input_of _ _ _ _ _ c.in-Ok.ensures.fed in
    let e = c.in-Ok.ensures.says.shown ∙ x.2 in
    (x.0, x.1, rw (← e) c.if-write_text.ensures, c.write_text-told-2.ensures)

pub returns-clause-input : goal.returns-clause-input
returns-clause-input g c = lost _ _ _ _ _ c.answer_input.auto.buf c.in-Ok.ensures.fed
