use Rattle.std.proofs.Common.{ℕ, List, length, ap, ◌∙◌}
use Rattle.words.specs.Keys.{width_of}
use Rattle.rows.specs.Rows.{rows_in}
use Rattle.ops.specs.declared.Limits.{Limits}
use Rattle.ops.specs.declared.Op.{Op}
use Rattle.ops.specs.declared.Run.{Run}
use Rattle.dynamics.specs.Outcome.{outcome_of}
use Rattle.turns.specs.SumRuns.{left_by}
use Rattle.turns.specs.AllRuns.{all_held, all_asked, AllRan}
use Rattle.sheet.specs.Running.{table_task}
use Rattle.sheet.proofs.OutcomeLaws.{all_left}
use Rattle.sheet.proofs.RunLaws.{as_sheet, all_ended}
use Rattle.sheet.proofs.running.run_table.Goals as goal

pub returns-in-All : goal.returns-in-All
returns-in-All c =
    let a = c.args in
    let m = c.args.memory.now in
    let t = table_task a.head a.observable.keys.now a.observable.weights.now a.ops.now in
    let n = length a.means.now in
    let ran = c.run_spd_lowered in
    record {
      same = ran.ensures.same;
      left = all_ended a.head a.observable.keys.now a.observable.weights.now a.ops.now m.words.now m.coeffs.now a.means.now m.index.now c.requires c.in-All.is
          (as_sheet a.head
          (λ (q : ℕ) (l : Limits) (os : List Op). let rows = rows_in (width_of q) m.words.now m.coeffs.now in
          AllRan q (all_held q l os rows n) (all_asked q l os rows n) ran.result m.words.now ran.new.memory.words.now m.coeffs.now ran.new.memory.coeffs.now a.means.now ran.new.means m.index.now ran.new.memory.index.now)
          c.new-circuit.ensures.qubits c.limits_of-limits.ensures c.new-circuit.ensures.ops ran.ensures.left)
          (ap (λ (r : Run). left_by (outcome_of r t)) c.in-All.is ∙ all_left t t.qubits);
    }
