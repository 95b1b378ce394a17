use Rattle.rows.proofs.LentLaws.{on_rows_start}
use Rattle.turns.proofs.EndLaws.{swept, not_swept}
use Rattle.turns.proofs.finish.final_sweep.Goals as goal

pub returns-then-limits : goal.returns-then-limits
returns-then-limits c =
    let s = c.args.rows.now in
    let d = c.drop_small.ensures in
    record { same = d.same; left = swept s.w c.args.limits c.args.at c.if-limits.true d.left }

pub returns : goal.returns
returns c = let s = c.args.rows.now in on_rows_start s (not_swept s.w c.args.limits c.args.at s.words.now s.coeffs.now c.if-limits.false)
