-- The ops from i on are taken.
use Rattle.std.proofs.Common.{Ok}
use Rattle.turns.proofs.RunLaws.{RowsTaken}
use Rattle.turns.proofs.run.run_rows.Given as goal

abbrev pub invariant-loop-i : goal.invariant-loop-i
invariant-loop-i l = RowsTaken l.limits l.marks l.ops l.fn.start l.fn.rows l.i (Ok l.at) l.rows
