-- A turn of the loop takes one row more through the gate.
use Rattle.std.proofs.Common.{arith}
use Rattle.sums.proofs.GateRows.{midway_turn, midway_end}
use Rattle.sums.proofs.loops.gate_rows.Goals as goal

pub loop-i-preserved : goal.loop-i-preserved
loop-i-preserved g c = midway_turn c.constant-gate.result _ _ _ _ _ c.loop-i.invariant c.requires.rows (omega arith) c.conjugate_row.ensures

pub returns : goal.returns
returns g c = (c.constant-gate.result, c.constant-gate.ensures, midway_end c.constant-gate.result _ _ _ _ _ c.loop-i.invariant (omega arith))
