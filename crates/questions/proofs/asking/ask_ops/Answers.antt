use Rattle.std.proofs.Common.{ap, ◌∙◌, ◌+◌, arith, List}
use Rattle.ops.specs.declared.Op.{Op}
use Rattle.questions.specs.Verdict.{Passed}
use Rattle.questions.specs.Questions.{first_fault}
use Rattle.questions.specs.Asking.{op_number}
use Rattle.questions.proofs.WalkLaws.{walked_stop, walked_more, walked_all}
use Rattle.questions.proofs.asking.ask_ops.Goals as goal

pub returns-in-Some : goal.returns-in-Some
returns-in-Some c =
    walked_stop c.loop-i.invariant _ _ (omega arith) c.in-Some.ensures
    ∙ ap (λ (os : List Op). first_fault (op_number c.args.asked c.args.laid.sheet.head) (8 + c.args.laid.sheet.head.terms) os Passed) c.args.laid.op_list

pub loop-i-preserved : goal.loop-i-preserved
loop-i-preserved c = walked_more c.loop-i.invariant _ (omega arith) c.in_default.ensures

pub returns : goal.returns
returns c =
    walked_all c.loop-i.invariant (omega arith)
    ∙ ap (λ (os : List Op). first_fault (op_number c.args.asked c.args.laid.sheet.head) (8 + c.args.laid.sheet.head.terms) os Passed) c.args.laid.op_list
