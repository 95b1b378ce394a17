use Rattle.std.proofs.Common.{rules}
use Rattle.lines.specs.OpLines.{op}
use Rattle.lines.proofs.oplines.read_op.Goals as goal

pub returns-then-is_text : goal.returns-then-is_text
unfolding op
returns-then-is_text c = search rules

pub returns-in_err-n : goal.returns-in_err-n
unfolding op
returns-in_err-n c = search rules

pub returns : goal.returns
unfolding op
returns c = search rules
