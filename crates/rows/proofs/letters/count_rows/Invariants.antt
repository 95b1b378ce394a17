-- The count is that of the rows before i, and at most i.
use Rattle.std.proofs.Common.{◌≡◌, ℕ, ◌+◌, ◌<◌, ◌≤◌}
use Rattle.rows.proofs.letters.count_rows.Given as goal

abbrev pub invariant-loop-i : goal.invariant-loop-i
invariant-loop-i g l =
    (l.count ≤ l.i) × ((m : ℕ → ℕ) → m 0 ≡ 0 → ((i x : ℕ) → i < l.n → goal.F-post g l.letter i x → m (i + 1) ≡ m i + x) → l.count ≡ m l.i)
