use Rattle.std.proofs.Common.{arith}
use Rattle.std.proofs.lemmas.Bool.Decides.{nat_tests}
use Rattle.layout.specs.Layout.{head_kind}
use Rattle.layout.proofs.kinds.head_kind.Goals as goal

pub returns-in-1 : goal.returns-in-1
unfolding head_kind
returns-in-1 c = grind (arith, nat_tests)

pub returns-in-2 : goal.returns-in-2
unfolding head_kind
returns-in-2 c = grind (arith, nat_tests)

pub returns-in-3 : goal.returns-in-3
unfolding head_kind
returns-in-3 c = grind (arith, nat_tests)

pub returns-in-4 : goal.returns-in-4
unfolding head_kind
returns-in-4 c = grind (arith, nat_tests)

pub returns-in-5 : goal.returns-in-5
unfolding head_kind
returns-in-5 c = grind (arith, nat_tests)

pub returns-in_default : goal.returns-in_default
unfolding head_kind
returns-in_default c = grind (arith, nat_tests)
