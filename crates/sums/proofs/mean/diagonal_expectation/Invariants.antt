-- The sum is the mean of the rows before i.
use Rattle.std.proofs.Common.{◌≡◌, ◌*◌}
use Rattle.terms.specs.Mean.{mean_of}
use Rattle.rows.specs.Rows.{terms_in}
use Rattle.sums.proofs.mean.diagonal_expectation.Given as goal

abbrev pub invariant-loop-i : goal.invariant-loop-i
invariant-loop-i l = l.sum ≡ mean_of l.w (terms_in (2 * l.w) l.i l.words l.coeffs)
