-- A turn of the loop looks at one row more.
use Rattle.std.proofs.Common.{◌+◌, ◌≤◌, refl, sym, ◌∙◌, add-one, arith}
use Rattle.terms.specs.Branch.{first}
use Rattle.terms.proofs.FirstLaws.{first_none, first_here, first_more}
use Rattle.branches.proofs.probe.scan.Goals as goal

pub loop-j-init : goal.loop-j-init
unfolding first
loop-j-init c = refl

pub returns-then-is_sought : goal.returns-then-is_sought
returns-then-is_sought c =
    let more : c.loop-j.j + 1 ≤ c.args.n = omega arith in
    sym (first_more _ _ _ _ more (rw add-one (first_here _ _ c.loop-j.invariant (sym c.is_sought.ensures ∙ c.if-is_sought.true))))

pub loop-j-preserved : goal.loop-j-preserved
loop-j-preserved c = rw add-one (first_none _ _ c.loop-j.invariant (sym c.is_sought.ensures ∙ c.if-is_sought.false))
