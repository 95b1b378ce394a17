-- The rows that share a key are one, and those that this frees are cleared.
use Rattle.std.proofs.Common.{rules}
use Rattle.rows.proofs.LentLaws.{same_trans}
use Rattle.branches.proofs.ShareLaws.{coalesced_none, coalesced_past, coalesced_done}
use Rattle.branches.proofs.start.coalesce.Goals as goal
use Rattle.branches.proofs.start.coalesce.Goals.{then-n-eq0-via-then-n-eq0, then-n-eq0-via-else-n-eq0+then-count-n}

pub returns-then-n-eq0-clause-terms : goal.returns-then-n-eq0-clause-terms
returns-then-n-eq0-clause-terms c =
    record {
      same = search rules;
      left = elim c.then-n-eq0.branch [
        | then-n-eq0-via-then-n-eq0 w ↦ coalesced_none _ _ w.if-n-eq0.true
        | then-n-eq0-via-else-n-eq0+then-count-n w ↦ coalesced_past _ _ w.count.ensures w.if-count-n.true
      ];
    }

pub returns-clause-terms : goal.returns-clause-terms
returns-clause-terms c =
    let a = c.args in
    let s = a.rows.now in
    let e = c.share_rows-count.ensures.terms in
    let f = c.clear.ensures in
    record {
      same = same_trans e.0.same f.same;
      left = coalesced_done s.w a.n c.count.ensures c.if-count-n.false (e.0.left, e.1) (rw e.0.same.width at f.left);
    }
