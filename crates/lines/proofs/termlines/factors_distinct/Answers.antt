use Rattle.std.proofs.Common.{rules, arith}
use Rattle.std.proofs.Common.{◌∙◌, ◌+◌, sym, ap, eqb, tests, length, drop, ℕ, List, map}
use Rattle.std.proofs.lemmas.Iterator.Splits.{YieldsList-from_slice_split}
use Rattle.std.proofs.lemmas.Iterator.Consumers.{YieldsList-turn, YieldsList-end}
use Rattle.std.proofs.lemmas.List.{length_push, at_drop_all}
use Rattle.text.specs.Bytes.{after, colon}
use Rattle.lines.proofs.termlines.factors_distinct.Goals.{then-q-ge256-via-then-q-ge256, then-q-ge256-via-else-q-ge256+then-seen-q}
use Rattle.ops.specs.Task.{every}
use Rattle.lines.specs.TermLines.{factor_of, factor_texts, factors_on, qubits_in, distinct}
use Rattle.lines.proofs.FactorLaws.{texts_none, texts_split, factor_next}
use Rattle.lines.proofs.DistinctLaws.{told, where_holds, fresh, fresh_start, fresh_high, fresh_seen, fresh_next}
use Rattle.lines.proofs.termlines.factors_distinct.Goals as goal

pub returns-then-is_empty : goal.returns-then-is_empty
unfolding every distinct
returns-then-is_empty c = where_holds (ap (λ (ps : List (List ℕ)). told (qubits_in (map factor_of ps))) (texts_none _ _ c.is_empty.ensures c.if-is_empty.true ∙ ap factor_texts c.factors_text-f.ensures))

pub loop-p-init : goal.loop-p-init
unfolding every distinct
loop-p-init c = (search rules, fresh_start (qubits_in (factors_on c.args.l.now)))

pub returns-then-q-ge256 : goal.returns-then-q-ge256
unfolding every distinct
returns-then-q-ge256 c =
    let t = YieldsList-turn (YieldsList-from_slice_split _ (λ b. eqb b 44) c.factors_text-f.result.now (cc) (cc) (cc) (λ x b q k. search (rules, tests))) c.loop-p.yielded _ c.loop-p.yielded_by _ _ c.in-Some.p c.in-Some.is c.next.ensures.steps in
    let ts = texts_split _ _ c.is_empty.ensures c.if-is_empty.false ∙ ap factor_texts c.factors_text-f.ensures in
    let e = factor_next (λ ps. fresh c.loop-p.seen (qubits_in (map factor_of ps))) _ _ _ (rw ts at t) in
    let qs = qubits_in (map factor_of (drop (length c.loop-p.yielded + 1) (factor_texts (after colon (drop 5 c.args.l.now))))) in
    elim c.then-q-ge256.branch [
      | then-q-ge256-via-then-q-ge256 w ↦ where_holds (sym (fresh_high c.loop-p.seen _ _ c.qubit_of-q.ensures w.if-q-ge256.true qs) ∙ sym e ∙ c.loop-p.invariant.1)
      | then-q-ge256-via-else-q-ge256+then-seen-q w ↦ where_holds (sym (fresh_seen c.loop-p.seen _ _ c.qubit_of-q.ensures w.if-q-ge256.false w.if-seen-q.true qs) ∙ sym e ∙ c.loop-p.invariant.1)
    ]

pub loop-p-preserved : goal.loop-p-preserved
unfolding every distinct
loop-p-preserved c =
    let t = YieldsList-turn (YieldsList-from_slice_split _ (λ b. eqb b 44) c.factors_text-f.result.now (cc) (cc) (cc) (λ x b q k. search (rules, tests))) c.loop-p.yielded _ c.loop-p.yielded_by _ _ c.in-Some.p c.in-Some.is c.next.ensures.steps in
    let ts = texts_split _ _ c.is_empty.ensures c.if-is_empty.false ∙ ap factor_texts c.factors_text-f.ensures in
    let e = factor_next (λ ps. fresh c.loop-p.seen (qubits_in (map factor_of ps))) _ _ _ (rw ts at t) in
    let qs = qubits_in (map factor_of (drop (length c.loop-p.yielded + 1) (factor_texts (after colon (drop 5 c.args.l.now))))) in
    (search rules, rw (length_push c.loop-p.yielded c.in-Some.p) (sym (fresh_next c.loop-p.seen _ _ c.qubit_of-q.ensures c.if-q-ge256.false c.if-seen-q.false qs) ∙ sym e ∙ c.loop-p.invariant.1))

pub returns : goal.returns
unfolding every distinct fresh
returns c =
    let t = YieldsList-end (YieldsList-from_slice_split _ (λ b. eqb b 44) c.factors_text-f.result.now (cc) (cc) (cc) (λ x b q k. search (rules, tests))) c.loop-p.yielded _ c.loop-p.yielded_by _ _ c.in-None.is c.next.ensures.steps in
    let ts = texts_split _ _ c.is_empty.ensures c.if-is_empty.false ∙ ap factor_texts c.factors_text-f.ensures in
    let n = t.1 ∙ ap length ts in
    where_holds (sym (at_drop_all (λ ps. fresh c.loop-p.seen (qubits_in (map factor_of ps))) (factor_texts (after colon (drop 5 c.args.l.now))) (length c.loop-p.yielded) (omega (arith, n))) ∙ c.loop-p.invariant.1)
