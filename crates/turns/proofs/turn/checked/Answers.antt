use Rattle.turns.proofs.TurnLaws.{checked_8, checked_fine}
use Rattle.turns.proofs.turn.checked.Goals as goal

pub returns-then-not-fine : goal.returns-then-not-fine
returns-then-not-fine c = checked_8 c.args.limits c.args.at c.args.rows.now.coeffs.now c.fine.ensures c.if-not-fine.true

pub returns : goal.returns
returns c = checked_fine c.args.limits c.args.at c.args.rows.now.coeffs.now c.fine.ensures c.if-not-fine.false c.within.ensures
