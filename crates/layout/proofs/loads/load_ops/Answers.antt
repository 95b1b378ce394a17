use Rattle.std.proofs.Common.{arith}
use Rattle.layout.proofs.LoadLaws.{loading_none, loading_turn, loading_all}
use Rattle.layout.proofs.loads.load_ops.Goals as goal

pub loop-i-init : goal.loop-i-init
loop-i-init c = loading_none c.args.sheet.text.now c.args.sheet.head c.args.ops.now _ _ c.start_at.ensures c.start_at-at.ensures

pub loop-i-preserved : goal.loop-i-preserved
loop-i-preserved c = loading_turn c.loop-i.invariant (omega arith) c.line_at.result.now _ _ c.line_at.ensures c.op_on.ensures c.next_at-at.ensures

pub returns : goal.returns
returns c = loading_all c.loop-i.invariant (omega arith)
