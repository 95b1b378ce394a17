use Rattle.rows.proofs.LentLaws.{same_trans}
use Rattle.turns.proofs.AllRunLaws.{z_answers}
use Rattle.turns.proofs.all.run_z.Goals as goal

pub returns : goal.returns
returns c =
    let a = c.args in
    let S = c.start_z-start.ensures in
    let E = c.run_from.ensures in
    record { same = same_trans S.same E.same; left = z_answers a.rows.now.w a.limits a.marks.now a.ops.now a.q a.before c.requires.3 S.left (rw S.same.width at E.left) }
