-- One number more.
use Rattle.std.proofs.Common.{refl, sym}
use Rattle.sums.proofs.MeanLaws.{numbers_finite, missing_finite, finite_turn, finite_end}
use Rattle.sums.proofs.mean.all_finite.Goals as goal

pub returns-then-coeffs-n : goal.returns-then-coeffs-n
returns-then-coeffs-n c = sym (missing_finite c.args.n c.args.coeffs.now c.if-coeffs-n.true)

pub loop-c-init : goal.loop-c-init
unfolding numbers_finite
loop-c-init c = refl

pub loop-c-preserved : goal.loop-c-preserved
loop-c-preserved c = finite_turn c.args.n c.loop-c.c-index c.args.coeffs.now c.if-coeffs-n.false c.loop-c.invariant c.loop-c-test.true c.is_finite-finite.ensures

pub returns : goal.returns
returns c = finite_end c.args.n c.loop-c.c-index c.args.coeffs.now c.if-coeffs-n.false c.loop-c.invariant c.loop-c.auto.c-index-end c.loop-c-test.false
