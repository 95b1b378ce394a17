use Rattle.std.proofs.Common.{arith}
use Rattle.std.proofs.lemmas.Bool.Decides.{nat_tests}
use Rattle.layout.specs.Layout.{kind}
use Rattle.layout.proofs.kinds.line_kind.Goals as goal

pub returns-then-k-lt7 : goal.returns-then-k-lt7
unfolding kind
returns-then-k-lt7 c = grind (arith, nat_tests)

pub returns-else-k-lt7 : goal.returns-else-k-lt7
unfolding kind
returns-else-k-lt7 c = grind (arith, nat_tests)
