use Rattle.turns.proofs.EndLaws.{finished, finished_8, finished_mean}
use Rattle.turns.proofs.finish.finish.Goals as goal
use Rattle.turns.proofs.finish.finish.Goals.{then-not-fine-via-then-not-fine, then-not-fine-via-else-not-fine+then-not-is_finite}

pub returns-then-not-fine : goal.returns-then-not-fine
returns-then-not-fine c =
    let a = c.args in
    let s = c.args.rows.now in
    let d = c.final_sweep-left.ensures in
    let m = rw d.same.width at c.rows_mean-mean.ensures in
    record {
      same = d.same;
      left = elim c.then-not-fine.branch [
        | then-not-fine-via-then-not-fine w ↦ finished_8 s.w a.limits a.at c.requires d.left m c.fine.ensures w.if-not-fine.true
        | then-not-fine-via-else-not-fine+then-not-is_finite w ↦
            finished_mean s.w a.limits a.at c.requires d.left m c.fine.ensures w.if-not-fine.false w.is_finite.ensures w.if-not-is_finite.true
      ];
    }

pub returns : goal.returns
returns c =
    let a = c.args in
    let s = c.args.rows.now in
    let d = c.final_sweep-left.ensures in
    record {
      same = d.same;
      left = finished s.w a.limits a.at c.requires d.left (rw d.same.width at c.rows_mean-mean.ensures) c.fine.ensures c.is_finite.ensures
          c.if-not-fine.false c.if-not-is_finite.false;
    }
