use Rattle.std.proofs.Common.{rules}
use Rattle.sheet.proofs.AnswerLaws.{answered_refused, answered_laid, answered_left}
use Rattle.sheet.proofs.answer.answer.Goals as goal

pub returns-in-Err : goal.returns-in-Err
returns-in-Err c =
    answered_refused c.args.s.now c.args.words.now c.args.coeffs.now c.args.means.now c.args.index.now _ _ _ _ c.read_head.ensures c.in-Err.ensures c.refusal.ensures

pub returns-in-Ok : goal.returns-in-Ok
returns-in-Ok c =
    answered_left
    (answered_laid c.args.s.now c.args.words.now _ c.args.coeffs.now _ c.args.means.now _ c.args.index.now _ _ _ c.read_head.ensures c.in-Ok.ensures c.answer_laid.ensures.left)
    (search rules) (search rules) (search rules)
