use Rattle.layout.proofs.LoadLaws.{rows_hold}
use Rattle.layout.proofs.loads.holds_rows.Goals as goal

pub returns-else-w-eq0 : goal.returns-else-w-eq0
returns-else-w-eq0 c = rows_hold c.args.n c.args.w c.args.len _ c.if-w-eq0.false c.rows_of.ensures
