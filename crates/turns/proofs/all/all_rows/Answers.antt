use Rattle.std.proofs.Common.{arith}
use Rattle.std.proofs.lemmas.Result.{err_from_is_err_and}
use Rattle.rows.proofs.LentLaws.{on_rows_start, same_trans}
use Rattle.turns.proofs.AllRunLaws.{qubits_none, z_ready, z_slack, z_done, z_refused, qubits_all}
use Rattle.turns.proofs.all.all_rows.Goals as goal

pub loop-q-init : goal.loop-q-init
loop-q-init c =
    let a = c.args in
    let s = c.args.rows.now in
    on_rows_start s (qubits_none s.w a.limits a.marks.now a.circuit.ops.now s.words.now s.coeffs.now a.means.now c.begun-tally.ensures)

pub run_z-requires : goal.run_z-requires
run_z-requires c =
    let a = c.args in
    let s = c.args.rows.now in
    let L = c.loop-q.invariant in
    rw L.same.width (z_ready s.w a.limits a.marks.now a.circuit.ops.now s.words.now s.coeffs.now a.means.now c.requires c.loop-q-test.true L.left)

pub overflow_add-touched : goal.overflow_add-touched
overflow_add-touched c =
    let a = c.args in
    let s = c.args.rows.now in
    let L = c.loop-q.invariant in
    record { fits = z_slack s.w a.limits a.marks.now a.circuit.ops.now s.words.now s.coeffs.now a.means.now c.requires c.loop-q-test.true L.left (rw L.same.width at c.in_ok-end.ensures.left) }

pub loop-q-preserved : goal.loop-q-preserved
loop-q-preserved c =
    let a = c.args in
    let s = c.args.rows.now in
    let L = c.loop-q.invariant in
    let E = c.in_ok-end.ensures in
    record {
      same = same_trans L.same E.same;
      left = z_done s.w a.limits a.marks.now a.circuit.ops.now s.words.now s.coeffs.now a.means.now c.requires c.loop-q-test.true L.left (rw L.same.width at E.left);
    }

pub returns-in_err-end : goal.returns-in_err-end
returns-in_err-end c =
    let a = c.args in
    let s = c.args.rows.now in
    let L = c.loop-q.invariant in
    let E = c.in_err-end.ensures in
    let p = err_from_is_err_and c.from_residual.result c.from_residual.ensures.1 in
    rw (p.1, p.2) (record {
      same = same_trans L.same E.same;
      left = z_refused s.w a.limits a.marks.now a.circuit.ops.now s.words.now s.coeffs.now a.means.now c.requires c.loop-q-test.true L.left (rw L.same.width at E.left);
    })

pub returns : goal.returns
returns c =
    let a = c.args in
    let s = c.args.rows.now in
    let L = c.loop-q.invariant in
    record { same = L.same; left = qubits_all s.w a.limits a.marks.now a.circuit.ops.now s.words.now s.coeffs.now a.means.now c.loop-q.q (omega arith) L.left }
