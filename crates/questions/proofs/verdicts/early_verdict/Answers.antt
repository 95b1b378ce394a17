use Rattle.std.proofs.Common.{ℕ, Option, ap, ◌∙◌}
use Rattle.text.specs.Bytes.{parts, newline}
use Rattle.questions.specs.declared.Asked.TheVariants.{Two}
use Rattle.questions.specs.Verdict.{Passed}
use Rattle.questions.specs.Questions.{question2, line_of, refused_or}
use Rattle.questions.specs.Asking.{count_verdict}
use Rattle.questions.proofs.AskLaws.{head_step, pass_on, second_is}
use Rattle.questions.proofs.verdicts.early_verdict.Goals as goal

pub returns : goal.returns
returns c =
    let h = c.args.sheet.head in
    let ls = parts newline c.args.sheet.text.now in
    c.ask_count.ensures
    ∙ pass_on (head_step Two h) c.in_ok-ask_head.ensures (count_verdict Two h Passed)
    ∙ second_is h ls Passed
    ∙ ap (λ (line : Option ℕ). refused_or 1 line (refused_or 2 (line_of (question2 h) h ls) Passed)) c.in_default.ensures
