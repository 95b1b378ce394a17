use Rattle.std.proofs.Common.{refl}
use Rattle.turns.proofs.StartLaws.{z_tells}
use Rattle.turns.proofs.starts.start_z.Goals as goal

pub returns : goal.returns
returns c =
    let e = c.put_z-count.ensures in
    record { same = e.same; left = z_tells c.args.rows.now.w c.args.limits c.requires.3 c.args.q c.args.before c.requires.0 refl e.left }
