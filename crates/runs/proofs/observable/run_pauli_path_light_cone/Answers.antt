use Rattle.std.proofs.Common.{ℕ, ◌*◌, ◌/◌, ◌∙◌, ap, false, length, min, replicate}
use Rattle.ops.specs.Sets.{overlay, set_marks, letters_in_any}
use Rattle.ops.proofs.MarkLaws.{length_cone}
use Rattle.turns.proofs.SumLaws.{sum_marked, few_ops}
use Rattle.runs.proofs.WideCode.{wide_ran}
use Rattle.runs.proofs.observable.run_pauli_path_light_cone.Goals as goal

pub returns : goal.returns
returns c =
    let a = c.args in let o = a.observable in let ops = a.circuit.ops.now in
    let marks = λ (w : ℕ). overlay (set_marks (letters_in_any w o.keys.now (min (length o.weights.now) (length o.keys.now / (2 * w)))) ops) (replicate 4096 false) in
    let E = c.run_sum.ensures in
    record {
      same = E.same;
      left = wide_ran a.circuit.qubits a.limits o.keys.now o.weights.now ops
          (sum_marked a.circuit.qubits a.limits o.keys.now o.weights.now ops _ (replicate 4096 false) (length_cone _ ops) few_ops (c.wide_marks.ensures ∙ ap marks c.width.ensures) E.left);
    }
