-- Those before the index are finite.
use Rattle.std.proofs.Common.{◌≡◌}
use Rattle.sums.proofs.MeanLaws.{numbers_finite}
use Rattle.sums.proofs.mean.all_finite.Given as goal

abbrev pub invariant-loop-c : goal.invariant-loop-c
invariant-loop-c l = l.finite ≡ numbers_finite l.c-index l.coeffs
