-- The rows before i are through the gate.
use Rattle.sums.proofs.GateRows.{Midway}
use Rattle.sums.proofs.loops.gate_rows.Given as goal

abbrev pub invariant-loop-i : goal.invariant-loop-i
invariant-loop-i g l = Midway l.gate l.w l.n l.a l.b l.i l.fn.words l.words l.fn.coeffs l.coeffs
