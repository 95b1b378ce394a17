-- The lines of the means that were passed stand on the page.
use Rattle.std.proofs.Common.{take}
use Rattle.replies.specs.Written.{Writes}
use Rattle.replies.specs.Printed.{z_lines}
use Rattle.replies.proofs.Page.write_means.Given as goal

abbrev pub invariant-loop-x : goal.invariant-loop-x
invariant-loop-x l = Writes l.fn.self (z_lines (take l.x-index l.x-items)) l.self
