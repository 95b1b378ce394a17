-- One row more is kept or dropped.
use Rattle.std.proofs.Common.{◌≡◌, arith}
use Rattle.rows.proofs.HoldLaws.{hold_room, room_at}
use Rattle.rows.proofs.LentLaws.{on_rows_start, same_trans}
use Rattle.sums.proofs.TruncateLaws.{compact_start, compact_turn}
use Rattle.sums.proofs.truncate.keep_rows.Goals as goal

pub loop-i-init : goal.loop-i-init
loop-i-init c = on_rows_start _ (compact_start _ _ _ _ _)

pub keep_row-kept-requires : goal.keep_row-kept-requires
keep_row-kept-requires c =
    let L = c.loop-i.invariant in
    (L.left.few, rw L.same.width (room_at (hold_room L.left.held c.requires) c.loop-i.i c.loop-i-test.true))

pub loop-i-preserved : goal.loop-i-preserved
loop-i-preserved c =
    let L = c.loop-i.invariant in
    let e = c.keep_row-kept.ensures in
    record { same = same_trans L.same e.same; left = compact_turn L.left c.requires c.loop-i-test.true (rw L.same.width at e.left) }

pub returns : goal.returns
returns c =
    let e : c.loop-i.i ≡ c.args.n = omega arith in
    let L = rw e at c.loop-i.invariant in
    (record { same = L.same; left = L.left.held }, (L.left.few, L.left.sum))
