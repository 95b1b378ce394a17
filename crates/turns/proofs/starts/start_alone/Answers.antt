use Rattle.turns.proofs.StartLaws.{alone_tells}
use Rattle.turns.proofs.starts.start_alone.Goals as goal

pub returns : goal.returns
returns c =
    let s = c.args.rows.now in
    let e = c.single_term.ensures in
    record { same = e.same; left = alone_tells s.w c.args.limits c.requires.2 c.args.keys.now c.args.i c.requires.0 c.requires.1 c.begun.ensures e.left }
