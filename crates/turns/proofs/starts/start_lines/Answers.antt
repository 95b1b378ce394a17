use Rattle.turns.proofs.StartLaws.{lines_tell}
use Rattle.turns.proofs.starts.start_lines.Goals as goal

pub returns : goal.returns
returns c =
    let o = c.args.observable in
    let e = c.weighted_sum.ensures.terms in
    record {
      same = e.same;
      left = lines_tell c.args.rows.now.w c.args.limits c.requires.2 o.keys.now o.weights.now c.requires.0 c.requires.1 c.fits64.ensures c.begun.ensures e.left;
    }
