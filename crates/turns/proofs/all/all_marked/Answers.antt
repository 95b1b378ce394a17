use Rattle.std.proofs.Common.{refl, arith}
use Rattle.numbers.specs.Constants.{zero64}
use Rattle.rows.proofs.LentLaws.{same_trans}
use Rattle.turns.proofs.AllRunLaws.{leaves_done, leaves_refused}
use Rattle.turns.proofs.all.all_marked.Goals as goal

pub returns-in-Ok : goal.returns-in-Ok
returns-in-Ok c =
    let s = c.args.rows.now in
    let E = c.in-Ok.ensures in
    let C = c.clear.ensures in
    record {
      same = same_trans E.same C.same;
      left = leaves_done s.w c.args.circuit.qubits E.left c.count-count.ensures (rw E.same.width at C.left) c.clear-2.ensures (omega arith);
    }

pub returns-in-Err : goal.returns-in-Err
returns-in-Err c =
    let s = c.args.rows.now in
    let E = c.in-Err.ensures in
    let C = c.clear.ensures in
    record {
      same = same_trans E.same C.same;
      left = leaves_refused s.w c.args.circuit.qubits c.fill.new.self E.left c.count-count.ensures (rw E.same.width at C.left) c.clear-2.ensures (omega arith)
          (let p = c.requires.places in omega arith) c.fill.ensures.len (λ i h. c.fill.ensures.clones i zero64 h refl);
    }
