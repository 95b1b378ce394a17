use Rattle.rows.proofs.LentLaws.{same_trans}
use Rattle.turns.proofs.RunLaws.{run_ends, run_refused}
use Rattle.std.proofs.lemmas.Result.{err_from_is_err_and}
use Rattle.turns.proofs.run.run_from.Goals as goal

pub returns : goal.returns
returns c =
    let a = c.args in
    let e = c.in_ok-last.ensures in
    let f = c.finish.ensures in
    record { same = same_trans e.same f.same; left = run_ends c.args.rows.now.w a.limits a.marks.now a.ops.now _ e.left (rw e.same.width at f.left) }

pub returns-in_err-last : goal.returns-in_err-last
returns-in_err-last c =
    let e = c.in_err-last.ensures in
    let p = err_from_is_err_and c.from_residual.result c.from_residual.ensures.1 in
    rw (p.1, p.2) (record { same = e.same; left = run_refused c.args.rows.now.w c.args.limits c.args.marks.now c.args.ops.now _ e.left })
