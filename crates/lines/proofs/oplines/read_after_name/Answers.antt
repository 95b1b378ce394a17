use Rattle.std.proofs.Common.{rules}
use Rattle.lines.specs.OpLines.{op_after, reals_in}
use Rattle.lines.proofs.oplines.read_after_name.Goals as goal

pub returns-in_err-a : goal.returns-in_err-a
unfolding op_after
returns-in_err-a c = search rules

pub returns-in_err-x : goal.returns-in_err-x
unfolding op_after reals_in
returns-in_err-x c = search rules

pub returns : goal.returns
unfolding op_after
returns c = search rules
