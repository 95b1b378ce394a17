use Rattle.std.proofs.Common.{◌∙◌}
use Rattle.std.proofs.lemmas.Result.{err_from_is_err_and}
use Rattle.text.specs.Bytes.{parts, newline}
use Rattle.questions.specs.declared.Asked.TheVariants.{Three, Four, FiveAndSix, Eleven}
use Rattle.questions.specs.Questions.{room_verdict}
use Rattle.questions.specs.Asking.{asked_verdict}
use Rattle.questions.proofs.AskLaws.{refused_is, asked_step, pass_on, stop_here, later_is}
use Rattle.questions.proofs.verdicts.later_verdict.Goals as goal

pub returns-in_err-ask : goal.returns-in_err-ask
returns-in_err-ask c =
    let h = c.args.laid.sheet.head in
    let ls = parts newline c.args.laid.sheet.text.now in
    let room = room_verdict h c.args.rows c.args.places in
    let p = err_from_is_err_and c.from_residual.result c.from_residual.ensures.1 in
    refused_is _ _ _ p.1 p.2
    ∙ stop_here (asked_step Three h ls) c.in_err-ask.ensures (asked_verdict Four h ls (asked_verdict Eleven h ls (asked_verdict FiveAndSix h ls room)))
    ∙ later_is h ls room

pub returns-in_err-ask-2 : goal.returns-in_err-ask-2
returns-in_err-ask-2 c =
    let h = c.args.laid.sheet.head in
    let ls = parts newline c.args.laid.sheet.text.now in
    let room = room_verdict h c.args.rows c.args.places in
    let p = err_from_is_err_and c.from_residual-in_err-ask-2.result c.from_residual-in_err-ask-2.ensures.1 in
    refused_is _ _ _ p.1 p.2
    ∙ stop_here (asked_step Four h ls) c.in_err-ask-2.ensures (asked_verdict Eleven h ls (asked_verdict FiveAndSix h ls room))
    ∙ pass_on (asked_step Three h ls) c.in_ok-ask.ensures _
    ∙ later_is h ls room

pub returns-in_err-ask-3 : goal.returns-in_err-ask-3
returns-in_err-ask-3 c =
    let h = c.args.laid.sheet.head in
    let ls = parts newline c.args.laid.sheet.text.now in
    let room = room_verdict h c.args.rows c.args.places in
    let p = err_from_is_err_and c.from_residual-in_err-ask-3.result c.from_residual-in_err-ask-3.ensures.1 in
    refused_is _ _ _ p.1 p.2
    ∙ stop_here (asked_step Eleven h ls) c.in_err-ask-3.ensures (asked_verdict FiveAndSix h ls room)
    ∙ pass_on (asked_step Four h ls) c.in_ok-ask-2.ensures _
    ∙ pass_on (asked_step Three h ls) c.in_ok-ask.ensures _
    ∙ later_is h ls room

pub returns-in_err-ask-4 : goal.returns-in_err-ask-4
returns-in_err-ask-4 c =
    let h = c.args.laid.sheet.head in
    let ls = parts newline c.args.laid.sheet.text.now in
    let room = room_verdict h c.args.rows c.args.places in
    let p = err_from_is_err_and c.from_residual-in_err-ask-4.result c.from_residual-in_err-ask-4.ensures.1 in
    refused_is _ _ _ p.1 p.2
    ∙ stop_here (asked_step FiveAndSix h ls) c.in_err-ask-4.ensures room
    ∙ pass_on (asked_step Eleven h ls) c.in_ok-ask-3.ensures _
    ∙ pass_on (asked_step Four h ls) c.in_ok-ask-2.ensures _
    ∙ pass_on (asked_step Three h ls) c.in_ok-ask.ensures _
    ∙ later_is h ls room

pub returns : goal.returns
returns c =
    let h = c.args.laid.sheet.head in
    let ls = parts newline c.args.laid.sheet.text.now in
    let room = room_verdict h c.args.rows c.args.places in
    c.ask_room.ensures
    ∙ pass_on (asked_step FiveAndSix h ls) c.in_ok-ask-4.ensures room
    ∙ pass_on (asked_step Eleven h ls) c.in_ok-ask-3.ensures _
    ∙ pass_on (asked_step Four h ls) c.in_ok-ask-2.ensures _
    ∙ pass_on (asked_step Three h ls) c.in_ok-ask.ensures _
    ∙ later_is h ls room
