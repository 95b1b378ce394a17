use Rattle.std.proofs.Common.{◌≡◌, arith}
use Rattle.branches.proofs.IndexLaws.{same_trans}
use Rattle.branches.proofs.pairs.pair_rows.Goals as goal

pub loop-i-preserved : goal.loop-i-preserved
loop-i-preserved c =
    let s = c.loop-i.invariant.same in
    let k = c.pair_row.ensures in
    record { same = same_trans s k.same; paired = rw s.buckets at (k.paired c.if-not-pair_row.false) }

pub returns-clause-paired : goal.returns-clause-paired
returns-clause-paired c e =
    let l = c.loop-i in
    let q : l.i ≡ c.args.n = omega arith in
    rw q at l.invariant.paired
