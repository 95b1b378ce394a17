use Rattle.std.proofs.Common.{arith}
use Rattle.std.proofs.lemmas.Bool.Decides.{nat_tests}
use Rattle.lines.specs.TermLines.{is_factor}
use Rattle.lines.proofs.termlines.is_factor.Goals as goal

pub returns-then-matches : goal.returns-then-matches
unfolding is_factor
returns-then-matches c = grind (arith, nat_tests)

pub returns-else-matches : goal.returns-else-matches
unfolding is_factor
returns-else-matches c = grind (arith, nat_tests)
