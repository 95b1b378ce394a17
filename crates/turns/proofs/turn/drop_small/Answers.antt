use Rattle.turns.proofs.TurnLaws.{dropped}
use Rattle.turns.proofs.turn.drop_small.Goals as goal

pub returns : goal.returns
returns c =
    let s = c.args.rows.now in
    let e = c.truncate-kept.ensures in
    record { same = e.same; left = dropped s.w c.args.at s.words.now s.coeffs.now c.args.epsilon c.requires c.fits64.ensures e.left }
