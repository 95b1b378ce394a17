use Rattle.std.proofs.Common.{rules}
use Rattle.lines.specs.OpLines.{targets_in}
use Rattle.lines.proofs.oplines.read_targets.Goals as goal

pub returns-in_err-a : goal.returns-in_err-a
unfolding targets_in
returns-in_err-a c = search rules

pub returns-in_err-b : goal.returns-in_err-b
unfolding targets_in
returns-in_err-b c = search rules

pub returns-in_err-read_decimal : goal.returns-in_err-read_decimal
unfolding targets_in
returns-in_err-read_decimal c = search rules

pub returns-in_ok-b : goal.returns-in_ok-b
unfolding targets_in
returns-in_ok-b c = search rules

pub returns-in_ok-read_decimal : goal.returns-in_ok-read_decimal
unfolding targets_in
returns-in_ok-read_decimal c = search rules
