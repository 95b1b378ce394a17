-- A turn rotates row i.
use Rattle.std.proofs.Common.{◌≡◌, ◌*◌, arith}
use Rattle.terms.specs.Rotation.{met_by, partner_by}
use Rattle.terms.specs.Branch.{branch_to}
use Rattle.rows.proofs.HoldLaws.{hold_start, room_less}
use Rattle.rows.proofs.LentLaws.{on_rows_start, same_trans}
use Rattle.rows.proofs.StepLaws.{held_room}
use Rattle.branches.specs.Index.{buckets_of, numbers_of}
use Rattle.branches.proofs.RotationRows.{branch_turn}
use Rattle.branches.proofs.IndexRows.{table_rotated}
use Rattle.branches.proofs.rotation.branch_rows.Goals as goal

pub loop-i-init : goal.loop-i-init
unfolding branch_to
loop-i-init c =
    let a = c.args in
    let s = c.args.rows.now in
    (omega arith, omega arith, omega arith, on_rows_start s (hold_start (2 * s.w) a.n a.n s.words.now s.coeffs.now), c.requires.1)

pub branch_row-m-requires : goal.branch_row-m-requires
branch_row-m-requires c =
    let I = c.loop-i.invariant in
    (c.loop-i-test.true, I.1, rw I.3.same.width (held_room I.3.left (room_less (omega arith) c.requires.0)), I.4)

pub loop-i-preserved : goal.loop-i-preserved
loop-i-preserved c =
    let a = c.args in
    let s = c.args.rows.now in
    let r = a.rotation in
    let l = c.loop-i in
    let I = l.invariant in
    let e = c.branch_row-m.ensures in
    let row = rw I.3.same.width at e.2.left in (
      omega arith,
      omega arith,
      omega arith,
      record {
        same = same_trans I.3.same e.2.same;
        left = branch_turn s.w (met_by r.axis) (partner_by s.w r.axis) r.sin r.cos a.n l.i _ I.3.left e.0 row;
      },
      rw (e.2.same.width, I.3.same.width)
          (table_rotated s.w r.axis r.sin r.cos a.n l.m l.i _ (buckets_of a.table.now) (numbers_of a.table.now) l.rows.words.now _ l.rows.coeffs.now _ c.loop-i-test.true I.1 e.0 row (rw I.3.same.width at I.4)),
    )

pub returns : goal.returns
returns c =
    let a = c.args in
    let e : c.loop-i.i ≡ a.n = omega arith in
    (omega arith, rw e at c.loop-i.invariant.3)
