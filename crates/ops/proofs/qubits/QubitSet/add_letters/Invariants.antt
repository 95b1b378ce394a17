-- The letters below q are added.
use Rattle.std.proofs.Common.{◌≡◌, ℕ, false, ◌||◌, ◌<◌, ◌≤◌, get_or}
use Rattle.ops.specs.Sets.{letter_in}
use Rattle.ops.proofs.qubits.QubitSet.add_letters.Given as goal

abbrev pub invariant-loop-q : goal.invariant-loop-q
invariant-loop-q l = record {
  below : (k : ℕ) → k < l.q → get_or l.self.members k false ≡ (get_or l.fn.self.members k false || letter_in l.w l.key k);
  above : (k : ℕ) → l.q ≤ k → get_or l.self.members k false ≡ get_or l.fn.self.members k false;
}
