use Rattle.std.proofs.Common.{replicate, refl, false, rules}
use Rattle.std.proofs.lemmas.Result.{err_from_is_err_and}
use Rattle.turns.proofs.SumLaws.{few_ops}
use Rattle.turns.proofs.AllRunLaws.{all_refused, all_ready, all_on}
use Rattle.turns.proofs.LentMemory.{memory_start, memory_left}
use Rattle.turns.proofs.all.run_spd_lowered.Goals as goal

pub all_marked-requires : goal.all_marked-requires
all_marked-requires c =
    let a = c.args in
    let m = c.args.memory.now in
    all_ready a.circuit.qubits a.limits a.circuit.ops.now m.words.now m.coeffs.now a.means.now m.index.now c.width.ensures c.count.ensures c.in_ok-asked.ensures

pub returns : goal.returns
returns c =
    let a = c.args in
    let m = c.args.memory.now in
    let E = c.all_marked.ensures in
    memory_left
    (all_on a.circuit.qubits a.limits a.circuit.ops.now m.words.now m.coeffs.now a.means.now m.index.now c.width.ensures c.count.ensures c.in_ok-asked.ensures
    (replicate 4096 false) few_ops c.full_marks.ensures E.left)
    (search rules) (search rules) refl refl refl E.same.words_long E.same.coeffs_long c.all_marked.auto.index

pub returns-in_err-asked : goal.returns-in_err-asked
returns-in_err-asked c =
    let a = c.args in
    let m = c.args.memory.now in
    let p = err_from_is_err_and c.from_residual.result c.from_residual.ensures.1 in
    rw (p.1, p.2) (memory_start m (all_refused a.circuit.qubits a.limits a.circuit.ops.now m.words.now m.coeffs.now a.means.now m.index.now c.width.ensures c.count.ensures c.in_err-asked.ensures))
