use Rattle.std.proofs.Common.{arith}
use Rattle.std.proofs.lemmas.Bool.Decides.{nat_tests}
use Rattle.layout.specs.Layout.{later_kind}
use Rattle.layout.proofs.kinds.later_kind.Goals as goal

pub returns-then-i-t : goal.returns-then-i-t
unfolding later_kind
returns-then-i-t c = grind (arith, nat_tests)

pub returns-then-i-t-2 : goal.returns-then-i-t-2
unfolding later_kind
returns-then-i-t-2 c = grind (arith, nat_tests)

pub returns-then-i-t-3 : goal.returns-then-i-t-3
unfolding later_kind
returns-then-i-t-3 c = grind (arith, nat_tests)

pub returns-else-i-t-3 : goal.returns-else-i-t-3
unfolding later_kind
returns-else-i-t-3 c = grind (arith, nat_tests)
