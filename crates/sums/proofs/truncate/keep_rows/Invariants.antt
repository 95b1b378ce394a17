-- The rows before i are done, and those from i on are as they were.
use Rattle.std.proofs.Common.{◌*◌}
use Rattle.rows.specs.Lent.{OnRows}
use Rattle.sums.proofs.TruncateLaws.{Compacted}
use Rattle.sums.proofs.truncate.keep_rows.Given as goal

abbrev pub invariant-loop-i : goal.invariant-loop-i
invariant-loop-i l = OnRows (λ ws₀ ws cs₀ cs. Compacted (2 * l.fn.rows.w) l.n l.epsilon ws₀ ws cs₀ cs l.kept l.i) l.fn.rows l.rows
