use Rattle.std.proofs.Common.{rules}
use Rattle.lines.specs.TermLines.{is_term}
use Rattle.lines.proofs.termlines.is_term.Goals as goal

pub returns-then-is_some : goal.returns-then-is_some
unfolding is_term
returns-then-is_some c = search rules

pub returns-else-is_some : goal.returns-else-is_some
unfolding is_term
returns-else-is_some c = search rules
