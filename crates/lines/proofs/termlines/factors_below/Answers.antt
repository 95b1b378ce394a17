use Rattle.std.proofs.Common.{rules}
use Rattle.std.proofs.Common.{◌∙◌, ap, eqb, ltb, tests}
use Rattle.std.proofs.lemmas.Iterator.Search.{all_from_yields_List}
use Rattle.std.proofs.lemmas.Iterator.Splits.{YieldsList-from_slice_split}
use Rattle.std.specs.List.{list_all}
use Rattle.std.proofs.Common.{ℕ, List, map}
use Rattle.ops.specs.Task.{every}
use Rattle.lines.specs.TermLines.{factor_of, factor_texts, qubits_in, all_below}
use Rattle.lines.proofs.FactorLaws.{texts_none, texts_split, all_qubits}
use Rattle.lines.proofs.termlines.factors_below.Goals as goal

pub returns-then-is_empty : goal.returns-then-is_empty
unfolding every
returns-then-is_empty c = c.if-is_empty.true ∙ ap (λ (ps : List (List ℕ)). all_below c.args.n (qubits_in (map factor_of ps))) (texts_none _ _ c.is_empty.ensures c.if-is_empty.true ∙ ap factor_texts c.factors_text-f.ensures)

pub returns-else-is_empty : goal.returns-else-is_empty
unfolding every
returns-else-is_empty c =
    let f = c.factors_text-f.result.now in
    let test = λ (p : List ℕ). ltb (factor_of p).qubit c.args.n in
    let e = all_from_yields_List test _ _ c.all.result c.all.ensures.ran
    (YieldsList-from_slice_split _ (λ b. eqb b 44) f c.split.ensures.rest c.split.ensures.done c.split.ensures.closure (λ x b q k. search (rules, tests)))
    (λ x b q k. search (rules, tests)) in
    e ∙ ap (list_all test) (texts_split f _ c.is_empty.ensures c.if-is_empty.false ∙ ap factor_texts c.factors_text-f.ensures) ∙ all_qubits c.args.n _
