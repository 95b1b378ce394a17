-- The words before word k are those looked for.
use Rattle.std.proofs.Common.{◌≡◌, ℕ, ◌+◌, ◌*◌, ◌<◌, get_or}
use Rattle.branches.specs.Probe.{sought_word}
use Rattle.branches.proofs.probe.is_sought.Given as goal

abbrev pub invariant-loop-k : goal.invariant-loop-k
invariant-loop-k l = (m : ℕ) → m < l.k → get_or l.rows.words.now (l.j * (2 * l.rows.w) + m) 0 ≡ sought_word l.rows.w l.sought m (get_or l.rows.words.now (l.i * (2 * l.rows.w) + m) 0)
