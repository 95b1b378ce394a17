use Rattle.std.proofs.Common.{rules}
use Rattle.std.proofs.Common.{◌∙◌, ap, eqb, tests}
use Rattle.std.proofs.lemmas.Iterator.Search.{all_from_yields_List}
use Rattle.std.proofs.lemmas.Iterator.Splits.{YieldsList-from_slice_split}
use Rattle.std.specs.List.{list_all}
use Rattle.lines.specs.TermLines.{is_factor, are_factors}
use Rattle.lines.proofs.FactorLaws.{texts_none, texts_split, all_factors}
use Rattle.lines.proofs.termlines.are_factors.Goals as goal

pub returns-then-is_empty : goal.returns-then-is_empty
unfolding are_factors
returns-then-is_empty c = c.if-is_empty.true ∙ ap are_factors (texts_none _ _ c.is_empty.ensures c.if-is_empty.true)

pub returns-else-is_empty : goal.returns-else-is_empty
unfolding are_factors
returns-else-is_empty c =
    let f = c.args.f.now in
    let e = all_from_yields_List is_factor _ _ c.all.result c.all.ensures.ran
    (YieldsList-from_slice_split _ (λ b. eqb b 44) f c.split.ensures.rest c.split.ensures.done c.split.ensures.closure (λ x b q k. search (rules, tests)))
    (λ x b q k. search (rules, tests)) in
    e ∙ ap (list_all is_factor) (texts_split f _ c.is_empty.ensures c.if-is_empty.false) ∙ all_factors _
