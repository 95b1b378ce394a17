use Rattle.rows.proofs.LentLaws.{same_trans}
use Rattle.turns.proofs.TurnLaws.{turn_slack, turn_ready, turn_told}
use Rattle.turns.proofs.turn.turn.Goals as goal

pub overflow_add-touched : goal.overflow_add-touched
overflow_add-touched c =
    let a = c.args in
    let s = c.args.rows.now in
    record { fits = turn_slack a.limits s.w a.op a.at s.words.now s.coeffs.now c.requires.0 c.apply_backward-step.ensures.0 c.requires.1 }

pub settle-requires : goal.settle-requires
settle-requires c =
    let a = c.args in
    let s = c.args.rows.now in
    let e = c.apply_backward-step.ensures.1 in
    rw e.same.width (turn_ready a.limits s.w a.op a.at s.words.now s.coeffs.now c.requires.0 e.left c.fits64.ensures)

pub returns : goal.returns
returns c =
    let a = c.args in
    let s = c.args.rows.now in
    let e = c.apply_backward-step.ensures in
    record {
      same = same_trans e.1.same c.settle.ensures.same;
      left = turn_told a.limits s.w a.op a.at s.words.now s.coeffs.now c.requires.0 e.1.left e.0 (rw e.1.same.width at c.settle.ensures.left);
    }
