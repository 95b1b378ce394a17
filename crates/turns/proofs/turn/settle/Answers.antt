use Rattle.rows.proofs.LentLaws.{on_rows_start}
use Rattle.turns.proofs.TurnLaws.{checked_fine, enforced, not_enforced, settled_8, settled}
use Rattle.turns.proofs.turn.settle.Goals as goal

pub returns-then-not-fine : goal.returns-then-not-fine
returns-then-not-fine c =
    let s = c.args.rows.now in
    on_rows_start s (settled_8 c.args.limits s.w c.args.at s.words.now s.coeffs.now c.fine.ensures c.if-not-fine.true)

pub returns-then-not-is_crowded : goal.returns-then-not-is_crowded
returns-then-not-is_crowded c =
    let a = c.args in
    let s = c.args.rows.now in
    on_rows_start s
    (settled a.limits s.w a.at s.words.now s.coeffs.now c.fine.ensures c.if-not-fine.false c.requires.0 c.requires.1 c.requires.2
    (not_enforced a.limits s.w a.at s.words.now s.coeffs.now c.is_crowded.ensures c.if-not-is_crowded.true)
    (checked_fine a.limits a.at s.coeffs.now c.fine.ensures c.if-not-fine.false c.within.ensures))

pub returns : goal.returns
returns c =
    let a = c.args in
    let s = c.args.rows.now in
    let d = c.drop_small-left.ensures in
    record {
      same = d.same;
      left = settled a.limits s.w a.at s.words.now s.coeffs.now c.fine.ensures c.if-not-fine.false c.requires.0 c.requires.1 c.requires.2
          (enforced a.limits s.w a.at s.words.now s.coeffs.now c.is_crowded.ensures c.if-not-is_crowded.false d.left) c.checked.ensures;
    }
