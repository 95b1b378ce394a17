use Rattle.std.proofs.Common.{false, replicate}
use Rattle.ops.proofs.MarkLaws.{path_long}
use Rattle.turns.proofs.SumLaws.{sum_marked, few_ops}
use Rattle.runs.proofs.observable.run_pauli_path_weighted_observable.Goals as goal

pub returns : goal.returns
returns c =
    let a = c.args in let o = a.observable in
    let E = c.run_sum.ensures in
    record {
      same = E.same;
      left = sum_marked a.circuit.qubits a.limits o.keys.now o.weights.now a.circuit.ops.now _ (replicate 4096 false) (path_long a.circuit.ops.now) few_ops
          c.path_marks.ensures E.left;
    }
