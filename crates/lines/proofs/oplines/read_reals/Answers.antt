use Rattle.std.proofs.Common.{rules}
use Rattle.lines.specs.OpLines.{reals_in}
use Rattle.lines.proofs.oplines.read_reals.Goals as goal

pub returns-then-n-eq0 : goal.returns-then-n-eq0
unfolding reals_in
returns-then-n-eq0 c = search rules

pub returns-in_err-read_real : goal.returns-in_err-read_real
unfolding reals_in
returns-in_err-read_real c = search rules

pub returns-then-n-eq1 : goal.returns-then-n-eq1
unfolding reals_in
returns-then-n-eq1 c = search rules

pub returns-in_err-x : goal.returns-in_err-x
unfolding reals_in
returns-in_err-x c = search rules

pub returns-in_err-read_real-2 : goal.returns-in_err-read_real-2
unfolding reals_in
returns-in_err-read_real-2 c = search rules

pub returns-then-n-eq2 : goal.returns-then-n-eq2
unfolding reals_in
returns-then-n-eq2 c = search rules

pub returns-in_err-y : goal.returns-in_err-y
unfolding reals_in
returns-in_err-y c = search rules

pub returns-in_err-z : goal.returns-in_err-z
unfolding reals_in
returns-in_err-z c = search rules

pub returns : goal.returns
unfolding reals_in
returns c = search rules
