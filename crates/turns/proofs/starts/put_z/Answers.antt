use Rattle.turns.proofs.StartLaws.{z_started}
use Rattle.turns.proofs.starts.put_z.Goals as goal

pub returns : goal.returns
returns c =
    let e = c.single_term.ensures in
    record { same = e.same; left = z_started c.args.rows.now.w c.args.q c.requires.0 c.requires.1 c.flip_bit.ensures e.left }
