use Rattle.std.proofs.Common.{arith}
use Rattle.ops.proofs.MarkLaws.{any_none, any_turn, letters_lines}
use Rattle.ops.proofs.qubits.QubitSet.of_lines.Goals as goal

pub loop-i-init : goal.loop-i-init
loop-i-init c = λ q h. any_none c.args.w c.args.keys.now q

pub loop-i-preserved : goal.loop-i-preserved
loop-i-preserved c = λ q h. any_turn c.args.w c.args.keys.now c.loop-i.i q (c.add_letters.ensures q h) (c.loop-i.invariant q h)

pub returns : goal.returns
returns c = letters_lines c.args.w c.args.keys.now c.args.n c.loop-i.i (omega arith) _ c.loop-i.set.long c.loop-i.invariant
