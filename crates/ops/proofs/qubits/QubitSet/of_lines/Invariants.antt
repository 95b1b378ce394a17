-- The letters of the lines before i are added.
use Rattle.std.proofs.Common.{◌≡◌, ℕ, false, ◌<◌, get_or}
use Rattle.ops.specs.Sets.{letter_in_any}
use Rattle.ops.proofs.qubits.QubitSet.of_lines.Given as goal

abbrev pub invariant-loop-i : goal.invariant-loop-i
invariant-loop-i l = (q : ℕ) → q < 256 → get_or l.set.members q false ≡ letter_in_any l.w l.keys l.i q
