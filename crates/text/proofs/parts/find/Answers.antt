use Rattle.std.proofs.Common.{◌∙◌, rules, tests, eqb}
use Rattle.std.proofs.lemmas.Iterator.{YieldsList-from_slice}
use Rattle.std.proofs.lemmas.Iterator.Search.{position_from_yields_List}
use Rattle.text.proofs.PartLaws.{index_found}
use Rattle.text.proofs.parts.find.Goals as goal

pub returns : goal.returns
returns c =
    let e = position_from_yields_List (λ b. eqb b c.args.c) _ _ c.position.result c.position.ensures.ran (YieldsList-from_slice c.args.s.now cc) (λ x b q k. search (rules, tests)) in
    c.unwrap_or.ensures ∙ index_found _ _ _ e
