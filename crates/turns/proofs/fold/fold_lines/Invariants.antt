-- The lines before i are folded.
use Rattle.std.proofs.Common.{Ok}
use Rattle.rows.specs.Lent.{OnRows}
use Rattle.turns.proofs.FoldLaws.{Folded}
use Rattle.turns.proofs.fold.fold_lines.Given as goal

abbrev pub invariant-loop-i : goal.invariant-loop-i
invariant-loop-i l =
    OnRows (λ ws₀ ws cs₀ cs. Folded l.circuit.qubits l.limits l.observable.keys.now l.observable.weights.now l.circuit.ops.now l.marks ws₀ cs₀ l.i (Ok l.totals) ws cs)
    l.fn.rows l.rows
