use Rattle.std.proofs.Common.{rules}
use Rattle.std.proofs.Common.{◌≡◌, ◌∙◌, refl, ap}
use Rattle.layout.specs.Cursor.{start_at}
use Rattle.layout.proofs.CursorLaws.{start_next, start_end}
use Rattle.layout.proofs.cursor.start_at.Goals as goal

pub loop-init : goal.loop-init
unfolding start_at
loop-init c = refl

pub returns-then-s-place : goal.returns-then-s-place
unfolding start_at
returns-then-s-place c = start_end c.args.s.now c.args.at c.loop.counter c.args.n _ c.loop.invariant (search rules) c.if-s-place.true

pub loop-preserved : goal.loop-preserved
unfolding start_at
loop-preserved c = start_next _ c.args.at c.loop.counter _ _ c.loop.invariant c.next_at-place.ensures

pub returns : goal.returns
unfolding start_at
returns c =
    let e : c.loop.counter ≡ c.args.n = search rules in
    c.loop.invariant ∙ ap (start_at c.args.s.now c.args.at) e
