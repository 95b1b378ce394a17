-- No row before row j has the key looked for.
use Rattle.std.proofs.Common.{◌≡◌, ℕ, None}
use Rattle.words.specs.Keys.{same_key}
use Rattle.terms.specs.Branch.{first}
use Rattle.rows.specs.Lent.{row_key}
use Rattle.branches.specs.Probe.{sought_by}
use Rattle.branches.proofs.probe.scan.Given as goal

abbrev pub invariant-loop-j : goal.invariant-loop-j
invariant-loop-j l = first (λ (m : ℕ). same_key (row_key l.rows m) (sought_by l.rows.w l.sought (row_key l.rows l.i))) l.j ≡ None
