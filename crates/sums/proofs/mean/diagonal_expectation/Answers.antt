-- A turn adds row i.
use Rattle.std.proofs.Common.{refl, ◌∙◌}
use Rattle.terms.specs.Lists.{tab, foldl}
use Rattle.terms.proofs.ListLaws.{fold_tab}
use Rattle.sums.proofs.mean.diagonal_expectation.Goals as goal

pub loop-i-init : goal.loop-i-init
unfolding tab foldl
loop-i-init c = refl

pub loop-i-preserved : goal.loop-i-preserved
loop-i-preserved c = c.add_mean-sum.ensures ∙ rw (fold_tab, c.loop-i.invariant)
