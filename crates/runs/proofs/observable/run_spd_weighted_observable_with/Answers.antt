use Rattle.std.proofs.Common.{false, replicate}
use Rattle.turns.proofs.SumLaws.{sum_marked, few_ops, all_long}
use Rattle.runs.proofs.observable.run_spd_weighted_observable_with.Goals as goal

pub returns : goal.returns
returns c =
    let a = c.args in let o = a.observable in let ops = a.circuit.ops.now in
    let E = c.run_sum.ensures in
    record {
      same = E.same;
      left = record {
        ran = sum_marked a.circuit.qubits a.limits o.keys.now o.weights.now ops _ (replicate 4096 false) (all_long ops) few_ops c.full_marks.ensures E.left;
        slices = c.fits64.ensures;
      };
    }
