use Rattle.std.proofs.Common.{◌∙◌}
use Rattle.std.proofs.lemmas.Result.{err_from_is_err_and}
use Rattle.text.specs.Bytes.{parts, newline}
use Rattle.questions.specs.Verdict.{Passed}
use Rattle.questions.specs.Asking.{term_verdict, count_verdict, op_verdict}
use Rattle.questions.proofs.AskLaws.{refused_is, head_step, term_step, count_step, pass_on, stop_here}
use Rattle.questions.proofs.asking.ask.Goals as goal

pub returns-in_err-ask_terms : goal.returns-in_err-ask_terms
returns-in_err-ask_terms c =
    let a = c.args.asked in
    let h = c.args.laid.sheet.head in
    let ls = parts newline c.args.laid.sheet.text.now in
    let p = err_from_is_err_and c.from_residual-in_err-ask_terms.result c.from_residual-in_err-ask_terms.ensures.1 in
    refused_is _ _ _ p.1 p.2
    ∙ stop_here (term_step a h ls) c.in_err-ask_terms.ensures (count_verdict a h (op_verdict a h ls Passed))
    ∙ pass_on (head_step a h) c.in_ok-ask_head.ensures (term_verdict a h ls (count_verdict a h (op_verdict a h ls Passed)))

pub returns : goal.returns
returns c =
    let a = c.args.asked in
    let h = c.args.laid.sheet.head in
    let ls = parts newline c.args.laid.sheet.text.now in
    c.ask_ops.ensures
    ∙ pass_on (count_step a h) c.in_ok-ask_count.ensures (op_verdict a h ls Passed)
    ∙ pass_on (term_step a h ls) c.in_ok-ask_terms.ensures (count_verdict a h (op_verdict a h ls Passed))
    ∙ pass_on (head_step a h) c.in_ok-ask_head.ensures (term_verdict a h ls (count_verdict a h (op_verdict a h ls Passed)))
