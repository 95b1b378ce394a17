-- The x-words are all 0, or the term has no part of the mean.
use Rattle.std.proofs.Common.{eqb, ◌∙◌, refl, rules, tests}
use Rattle.std.proofs.lemmas.Iterator.{YieldsList-from_slice}
use Rattle.std.proofs.lemmas.Iterator.Search.{all_from_yields_List}
use Rattle.sums.proofs.MeanLaws.{mean_added, mean_passed, all_zeros}
use Rattle.sums.proofs.mean.add_mean.Goals as goal

pub returns-then-all : goal.returns-then-all
returns-then-all c =
    let a = c.args in
    let e = all_from_yields_List (λ x. eqb x 0) _ _ _ c.all.ensures.ran (YieldsList-from_slice _ c.iter.ensures.rest) (λ x b q k. search (rules, tests)) in
    mean_added a.w a.i a.words.now a.coeffs.now a.sum (e ∙ all_zeros a.w a.i a.words.now) c.if-all.true refl

pub returns-else-all : goal.returns-else-all
returns-else-all c =
    let a = c.args in
    let e = all_from_yields_List (λ x. eqb x 0) _ _ _ c.all.ensures.ran (YieldsList-from_slice _ c.iter.ensures.rest) (λ x b q k. search (rules, tests)) in
    mean_passed a.w a.i a.words.now a.coeffs.now a.sum (e ∙ all_zeros a.w a.i a.words.now) c.if-all.false
