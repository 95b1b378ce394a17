use Rattle.std.proofs.Common.{refl}
use Rattle.ops.proofs.MarkLaws.{seen_none, seen_turn, marked_all}
use Rattle.ops.proofs.marks.cone_from.Goals as goal

pub loop-i-init : goal.loop-i-init
loop-i-init c = seen_none _ _ c.args.ops.now _ _ refl refl

pub loop-i-preserved : goal.loop-i-preserved
loop-i-preserved c = seen_turn c.loop-i.invariant _ _ _ _ _ _ _ c.loop-i-test.true refl refl c.targets_of.ensures c.grow-met.ensures.met c.put_mark.ensures c.grow-met.ensures.grown

pub returns : goal.returns
returns c = marked_all c.loop-i.invariant.marked c.loop-i-test.false
