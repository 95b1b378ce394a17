-- The rows that are kept stand first, and those that this frees are cleared.
use Rattle.std.proofs.Common.{refl, rules}
use Rattle.rows.proofs.LentLaws.{on_rows_start, on_rows_left, same_trans}
use Rattle.sums.proofs.TruncateLaws.{truncated, truncated_none, truncated_past}
use Rattle.sums.proofs.truncate.truncate.Goals as goal
use Rattle.sums.proofs.truncate.truncate.Goals.{then-n-eq0-via-then-n-eq0, then-n-eq0-via-else-n-eq0+then-count-n}

pub returns-then-n-eq0 : goal.returns-then-n-eq0
returns-then-n-eq0 c =
    on_rows_start _ (elim c.then-n-eq0.branch [
      | then-n-eq0-via-then-n-eq0 w ↦ truncated_none _ _ _ w.if-n-eq0.true
      | then-n-eq0-via-else-n-eq0+then-count-n w ↦ truncated_past _ _ _ w.count.ensures w.if-count-n.true
    ])

pub returns : goal.returns
returns c =
    let a = c.args in
    let s = c.args.rows.now in
    let K = c.keep_rows-kept.ensures in
    let C = c.clear.ensures in
    let same = same_trans K.0.same C.same in
    on_rows_left (truncated s.w a.n a.epsilon c.count.ensures c.if-count-n.false (K.0.left, K.1) (rw K.0.same.width at C.left))
    (search rules) (search rules) refl refl refl same.words_long same.coeffs_long
