use Rattle.std.proofs.Common.{rules}
use Rattle.lines.specs.Fields.{run_field}
use Rattle.lines.proofs.fields.read_run.Goals as goal

pub returns-then-is_text : goal.returns-then-is_text
unfolding run_field
returns-then-is_text c = search rules

pub returns-then-is_text-2 : goal.returns-then-is_text-2
unfolding run_field
returns-then-is_text-2 c = search rules

pub returns-then-is_text-3 : goal.returns-then-is_text-3
unfolding run_field
returns-then-is_text-3 c = search rules

pub returns-then-is_text-4 : goal.returns-then-is_text-4
unfolding run_field
returns-then-is_text-4 c = search rules

pub returns-then-is_text-5 : goal.returns-then-is_text-5
unfolding run_field
returns-then-is_text-5 c = search rules

pub returns-else-is_text-5 : goal.returns-else-is_text-5
unfolding run_field
returns-else-is_text-5 c = search rules
