use Rattle.std.proofs.Common.{rules}
use Rattle.replies.proofs.WriteLaws.{more, all}
use Rattle.replies.proofs.Page.write_text.Goals as goal

pub loop-b-preserved : goal.loop-b-preserved
loop-b-preserved c = more _ c.loop-b.b-index (search rules) c.loop-b.invariant c.write_byte.ensures

pub returns : goal.returns
returns c = all _ c.loop-b.b-index (search rules) c.loop-b.invariant
