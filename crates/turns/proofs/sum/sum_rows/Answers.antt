use Rattle.std.proofs.Common.{◌∙◌, rules}
use Rattle.rows.proofs.LentLaws.{same_trans}
use Rattle.turns.proofs.SumLaws.{sum_stands, sum_folded, fold_ready}
use Rattle.turns.proofs.sum.sum_rows.Goals as goal

pub start_lines-start-requires : goal.start_lines-start-requires
start_lines-start-requires c = let r = c.requires.ready in rw c.requires.width (r.few, r.there, r.room)

pub run_from-end-requires : goal.run_from-end-requires
run_from-end-requires c =
    let r = c.requires.ready in
    let S = c.start_lines-start.ensures in
    record { ready = rw S.same.width S.left.ready; none = search rules; low = r.low; short = r.short }

pub fold-requires : goal.fold-requires
fold-requires c =
    let a = c.args in let o = a.observable in
    let S = c.start_lines-start.ensures in
    let E = c.run_from-end.ensures in
    let e = rw S.same.width at E.left in
    record {
      width = E.same.width ∙ S.same.width ∙ c.requires.width;
      ready = fold_ready a.circuit.qubits a.limits o.keys.now o.weights.now a.circuit.ops.now a.marks.now c.requires.width S.left e c.requires.ready;
    }

pub returns-then-meets_nine : goal.returns-then-meets_nine
returns-then-meets_nine c =
    let a = c.args in let o = a.observable in
    let S = c.start_lines-start.ensures in
    let E = c.run_from-end.ensures in
    let e = rw S.same.width at E.left in
    let F = c.fold.ensures in
    let wide = E.same.width ∙ S.same.width ∙ c.requires.width in
    record {
      same = same_trans S.same (same_trans E.same F.same);
      left = rw c.requires.width (sum_folded a.circuit.qubits a.limits o.keys.now o.weights.now a.circuit.ops.now a.marks.now c.requires.width S.left e c.meets_nine.ensures c.if-meets_nine.true (rw wide at F.left));
    }

pub returns : goal.returns
returns c =
    let a = c.args in let o = a.observable in
    let S = c.start_lines-start.ensures in
    let E = c.run_from-end.ensures in
    let e = rw S.same.width at E.left in
    record {
      same = same_trans S.same E.same;
      left = rw c.requires.width (sum_stands a.circuit.qubits a.limits o.keys.now o.weights.now a.circuit.ops.now a.marks.now c.requires.width S.left e c.meets_nine.ensures c.if-meets_nine.false);
    }
