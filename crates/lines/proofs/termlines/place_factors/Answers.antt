use Rattle.std.proofs.Common.{rules, arith}
use Rattle.std.proofs.Common.{◌∙◌, sym, ap, eqb, tests, length, drop, ℕ, List, map}
use Rattle.std.proofs.lemmas.Iterator.Splits.{YieldsList-from_slice_split}
use Rattle.std.proofs.lemmas.Iterator.Consumers.{YieldsList-turn, YieldsList-end}
use Rattle.std.proofs.lemmas.List.{length_push, at_drop_all}
use Rattle.text.specs.Bytes.{after, colon}
use Rattle.terms.specs.Lists.{foldl}
use Rattle.lines.specs.TermLines.{factor_of, factor_texts, placed}
use Rattle.lines.proofs.FactorLaws.{texts_none, texts_split, factor_next}
use Rattle.lines.proofs.termlines.place_factors.Goals as goal

pub returns-then-is_empty : goal.returns-then-is_empty
unfolding foldl
returns-then-is_empty c = ap (λ (ps : List (List ℕ)). foldl (placed c.args.w) c.args.key.now (map factor_of ps)) (texts_none _ _ c.is_empty.ensures c.if-is_empty.true ∙ ap factor_texts c.factors_text-f.ensures)

pub loop-p-preserved : goal.loop-p-preserved
unfolding foldl
loop-p-preserved c =
    let t = YieldsList-turn (YieldsList-from_slice_split _ (λ b. eqb b 44) c.factors_text-f.result.now (cc) (cc) (cc) (λ x b q k. search (rules, tests))) c.loop-p.yielded _ c.loop-p.yielded_by _ _ c.in-Some.p c.in-Some.is c.next.ensures.steps in
    let ts = texts_split _ _ c.is_empty.ensures c.if-is_empty.false ∙ ap factor_texts c.factors_text-f.ensures in
    let e = factor_next (λ ps. foldl (placed c.args.w) c.loop-p.key (map factor_of ps)) _ _ _ (rw ts at t) in
    rw (length_push c.loop-p.yielded c.in-Some.p, c.place_factor.ensures) (sym e ∙ c.loop-p.invariant)

pub returns : goal.returns
unfolding foldl
returns c =
    let t = YieldsList-end (YieldsList-from_slice_split _ (λ b. eqb b 44) c.factors_text-f.result.now (cc) (cc) (cc) (λ x b q k. search (rules, tests))) c.loop-p.yielded _ c.loop-p.yielded_by _ _ c.in-None.is c.next.ensures.steps in
    let ts = texts_split _ _ c.is_empty.ensures c.if-is_empty.false ∙ ap factor_texts c.factors_text-f.ensures in
    let n = t.1 ∙ ap length ts in
    sym (at_drop_all (λ ps. foldl (placed c.args.w) c.loop-p.key (map factor_of ps)) (factor_texts (after colon (drop 5 c.args.l.now))) (length c.loop-p.yielded) (omega (arith, n))) ∙ c.loop-p.invariant
