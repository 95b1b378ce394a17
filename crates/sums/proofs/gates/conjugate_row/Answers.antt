-- The part comes back as the row's key, and the number is negated where the gate's sign says so.
use Rattle.std.proofs.Common.{sym, ◌∙◌}
use Rattle.sums.proofs.GateRows.{gate_row, gate_unturned}
use Rattle.sums.proofs.gates.conjugate_row.Goals as goal

pub returns-then-has_phase : goal.returns-then-has_phase
returns-then-has_phase c =
    let a = c.args in
    let k = c.conjugate_turned-quarters.ensures in
    gate_row a.gate a.w a.a a.b a.i a.words.now a.coeffs.now k.0 k.1 c.turned.ensures

pub returns-else-has_phase : goal.returns-else-has_phase
returns-else-has_phase c =
    let a = c.args in
    gate_unturned a.gate a.w a.a a.b a.i a.words.now a.coeffs.now c.conjugate_turned-quarters.ensures.0 (sym c.has_phase.ensures ∙ c.if-has_phase.false)
