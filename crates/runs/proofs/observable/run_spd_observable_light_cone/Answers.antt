use Rattle.std.proofs.Common.{ℕ, ◌∙◌, ap, false, replicate}
use Rattle.ops.specs.Sets.{overlay, set_marks, letters_in}
use Rattle.ops.proofs.MarkLaws.{length_cone}
use Rattle.turns.proofs.SumLaws.{sum_marked, few_ops}
use Rattle.runs.proofs.ConeCode.{cone_ran}
use Rattle.runs.proofs.observable.run_spd_observable_light_cone.Goals as goal

pub returns : goal.returns
returns c =
    let a = c.args in let o = a.observable in let ops = a.circuit.ops.now in
    let marks = λ (w : ℕ). overlay (set_marks (letters_in w o.keys.now) ops) (replicate 4096 false) in
    let E = c.run_sum.ensures in
    record {
      same = E.same;
      left = cone_ran a.circuit.qubits a.limits o.keys.now o.weights.now ops c.fits64.ensures
          (sum_marked a.circuit.qubits a.limits o.keys.now o.weights.now ops _ (replicate 4096 false) (length_cone _ ops) few_ops (c.inverse_light_cone.ensures.by_set ∙ ap marks c.width-w.ensures) E.left);
    }
