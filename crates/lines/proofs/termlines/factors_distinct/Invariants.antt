-- The qubits that are left are told against those seen so far.
use Rattle.std.proofs.Common.{◌≡◌, length, drop}
use Rattle.std.specs.Prelude.{map, ◌&&◌}
use Rattle.text.specs.Bytes.{after, colon}
use Rattle.lines.specs.TermLines.{factor_texts, factor_of, factors_on, qubits_in, all_below, distinct}
use Rattle.lines.proofs.DistinctLaws.{fresh}
use Rattle.lines.proofs.termlines.factors_distinct.Given as goal

abbrev pub invariant-loop-p : goal.invariant-loop-p
invariant-loop-p l = (length l.seen ≡ 256)
    × (fresh l.seen (qubits_in (map factor_of (drop (length l.yielded) (factor_texts (after colon (drop 5 l.l)))))) ≡ (all_below 256 (qubits_in (factors_on l.l)) && distinct (qubits_in (factors_on l.l))))
