use Rattle.std.proofs.Common.{rules}
use Rattle.lines.specs.TermLines.{factor_of}
use Rattle.lines.proofs.termlines.qubit_of.Goals as goal

pub returns : goal.returns
unfolding factor_of
returns c = search rules
