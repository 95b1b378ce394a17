-- The qubits below q are done.
use Rattle.std.proofs.Common.{Ok}
use Rattle.rows.specs.Lent.{OnRows}
use Rattle.turns.proofs.AllRunLaws.{Qubits}
use Rattle.turns.proofs.all.all_rows.Given as goal

abbrev pub invariant-loop-q : goal.invariant-loop-q
invariant-loop-q l =
    let s = l.fn.rows in
    OnRows (λ ws₀ ws cs₀ cs. Qubits s.w l.limits l.marks l.circuit.ops.now ws₀ cs₀ l.fn.means l.q (Ok l.tally) ws cs l.means) s l.rows
