-- The walk down the chain so far.
use Rattle.words.specs.Keys.{same_key}
use Rattle.rows.specs.Lent.{row_key}
use Rattle.branches.specs.Probe.{sought_by}
use Rattle.branches.specs.Chains.{Linked}
use Rattle.branches.proofs.WalkLaws.{Walk}
use Rattle.branches.proofs.Index.walk.Given as goal

abbrev pub invariant-loop-at : goal.invariant-loop-at
invariant-loop-at l = (L : Linked l.n l.self.buckets l.self.memory.now)
    → Walk L.place (λ j. same_key (row_key l.rows j) (sought_by l.rows.w l.sought (row_key l.rows l.i))) l.n l.b l.at l.best

abbrev pub decreases-loop-at : goal.decreases-loop-at
decreases-loop-at l = l.at
