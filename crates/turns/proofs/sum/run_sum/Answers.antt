use Rattle.std.proofs.Common.{ℕ, rules, refl, ◌∙◌, ap, replicate}
use Rattle.rows.proofs.LentLaws.{same_trans}
use Rattle.turns.proofs.SumLaws.{sum_ready, sum_room, sum_2, sum_7, sum_left}
use Rattle.turns.proofs.LentMemory.{memory_start, memory_left}
use Rattle.turns.proofs.sum.run_sum.Goals as goal

pub returns-then-not-sum_fits : goal.returns-then-not-sum_fits
returns-then-not-sum_fits c =
    let a = c.args in let o = a.observable in
    let m = c.args.memory.now in
    memory_start m (sum_2 a.circuit.qubits a.limits o.keys.now o.weights.now a.circuit.ops.now a.marks.now m.words.now m.coeffs.now m.index.now c.sum_fits.ensures c.if-not-sum_fits.true)

pub returns-then-count-limits : goal.returns-then-count-limits
returns-then-count-limits c =
    let a = c.args in let o = a.observable in
    let m = c.args.memory.now in
    memory_start m (sum_7 a.circuit.qubits a.limits o.keys.now o.weights.now a.circuit.ops.now a.marks.now m.words.now m.coeffs.now m.index.now
    c.width.ensures c.sum_fits.ensures c.count-count.ensures c.if-not-sum_fits.false c.if-count-limits.true)

pub sum_rows-end-requires : goal.sum_rows-end-requires
sum_rows-end-requires c =
    let a = c.args in let o = a.observable in
    let m = c.args.memory.now in
    record {
      width = c.width.ensures;
      ready = sum_ready a.circuit.qubits a.limits o.keys.now o.weights.now a.circuit.ops.now c.sum_fits.ensures c.if-not-sum_fits.false
          (sum_room a.circuit.qubits a.limits o.keys.now o.weights.now a.circuit.ops.now a.marks.now m.words.now m.coeffs.now m.index.now
          c.width.ensures c.sum_fits.ensures c.count-count.ensures c.if-count-limits.false);
    }

pub returns : goal.returns
returns c =
    let a = c.args in let o = a.observable in
    let m = c.args.memory.now in
    let E = c.sum_rows-end.ensures in
    let C = c.clear.ensures in
    let same = same_trans E.same C.same in
    memory_left
    (sum_left a.circuit.qubits a.limits o.keys.now o.weights.now a.circuit.ops.now a.marks.now m.words.now m.coeffs.now m.index.now
    c.width.ensures c.sum_fits.ensures c.count-count.ensures c.if-not-sum_fits.false c.if-count-limits.false (rw c.width.ensures at E.left) (search rules)
    (rw E.same.width at C.left) (c.clear-2.ensures ∙ ap (λ (m : ℕ). replicate m 0) c.sum_rows-end.auto.index))
    (search rules) (search rules) refl refl refl same.words_long same.coeffs_long (search rules)
