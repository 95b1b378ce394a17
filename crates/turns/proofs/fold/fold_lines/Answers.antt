use Rattle.std.proofs.Common.{◌+◌, ◌∙◌}
use Rattle.std.proofs.lemmas.Result.{err_from_is_err_and}
use Rattle.rows.proofs.LentLaws.{on_rows_start, same_trans}
use Rattle.turns.proofs.FoldLaws.{folded_none, folded_all, folded_refused, line_there, line_room, line_slack, line_added, line_refused}
use Rattle.turns.proofs.fold.fold_lines.Goals as goal

pub loop-i-init : goal.loop-i-init
loop-i-init c =
    let a = c.args in let o = a.observable in
    let s = c.args.rows.now in
    on_rows_start s (folded_none a.circuit.qubits a.limits o.keys.now o.weights.now a.circuit.ops.now a.marks.now s.words.now s.coeffs.now c.none-totals.ensures)

pub start_alone-start-requires : goal.start_alone-start-requires
start_alone-start-requires c =
    let a = c.args in let o = a.observable in
    let s = c.args.rows.now in
    let L = c.loop-i.invariant in
    let wide = L.same.width ∙ c.requires.width in (
      c.requires.ready.some,
      line_there a.circuit.qubits a.limits o.keys.now o.weights.now a.circuit.ops.now a.marks.now s.words.now s.coeffs.now c.requires.ready c.loop-i-test.true L.left wide,
      line_room a.circuit.qubits a.limits o.keys.now o.weights.now a.circuit.ops.now a.marks.now s.words.now s.coeffs.now c.requires.ready c.loop-i-test.true L.left wide,
    )

pub with_line-totals-requires : goal.with_line-totals-requires
with_line-totals-requires c =
    let a = c.args in let o = a.observable in
    let s = c.args.rows.now in
    let L = c.loop-i.invariant in
    let wide = L.same.width ∙ c.requires.width in
    let S = c.start_alone-start.ensures in
    line_slack a.circuit.qubits a.limits o.keys.now o.weights.now a.circuit.ops.now a.marks.now s.words.now s.coeffs.now c.requires.ready c.loop-i-test.true L.left wide
    S.left (rw S.same.width at c.in_ok-end.ensures.left)

pub loop-i-preserved : goal.loop-i-preserved
loop-i-preserved c =
    let a = c.args in let o = a.observable in
    let s = c.args.rows.now in
    let L = c.loop-i.invariant in
    let wide = L.same.width ∙ c.requires.width in
    let S = c.start_alone-start.ensures in
    let E = c.in_ok-end.ensures in
    record {
      same = same_trans L.same (same_trans S.same E.same);
      left = line_added a.circuit.qubits a.limits o.keys.now o.weights.now a.circuit.ops.now a.marks.now s.words.now s.coeffs.now c.requires.ready c.loop-i-test.true L.left wide
          S.left (rw S.same.width at E.left) c.with_line-totals.ensures;
    }

pub returns-in_err-end : goal.returns-in_err-end
returns-in_err-end c =
    let a = c.args in let o = a.observable in
    let s = c.args.rows.now in
    let L = c.loop-i.invariant in
    let wide = L.same.width ∙ c.requires.width in
    let S = c.start_alone-start.ensures in
    let E = c.in_err-end.ensures in
    let p = err_from_is_err_and c.from_residual.result c.from_residual.ensures.1 in
    rw (p.1, p.2) (record {
      same = same_trans L.same (same_trans S.same E.same);
      left = rw c.requires.width
          (folded_refused a.circuit.qubits a.limits o.keys.now o.weights.now a.circuit.ops.now a.marks.now s.words.now s.coeffs.now (c.loop-i.i + 1)
          (line_refused a.circuit.qubits a.limits o.keys.now o.weights.now a.circuit.ops.now a.marks.now s.words.now s.coeffs.now c.requires.ready c.loop-i-test.true L.left wide
          S.left (rw S.same.width at E.left)));
    })

pub returns : goal.returns
returns c =
    let a = c.args in let o = a.observable in
    let s = c.args.rows.now in
    let L = c.loop-i.invariant in
    record { same = L.same; left = rw c.requires.width (folded_all a.circuit.qubits a.limits o.keys.now o.weights.now a.circuit.ops.now a.marks.now s.words.now s.coeffs.now c.loop-i-test.false L.left) }
