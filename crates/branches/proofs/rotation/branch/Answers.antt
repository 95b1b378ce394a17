-- The rotation in place, and from the old values.
use Rattle.std.proofs.Common.{◌*◌, refl}
use Rattle.branches.specs.Rotated.{met_factor}
use Rattle.branches.proofs.ScalingLaws.{held_by, by_met}
use native.Mathlib.Omega.{arith}
use borrow.Author.Tests.{leb-true}
use Rattle.rows.proofs.HoldLaws.{room_less}
use Rattle.rows.proofs.LentLaws.{on_rows_start, on_rows_left}
use Rattle.rows.proofs.StepLaws.{rows_room, twice_yes, twice_no}
use Rattle.branches.proofs.RotatedLaws.{rotated_scaled, rotated_branched, unrotated}
use borrow.Author.Rules.{rules}
use Rattle.branches.proofs.rotation.branch.Goals as goal

pub returns-then-count-n : goal.returns-then-count-n
returns-then-count-n c =
    let a = c.args in
    let s = c.args.rows.now in
    on_rows_start s (unrotated s.w a.n a.rotation.axis a.rotation.sin a.rotation.cos s.words.now s.coeffs.now (twice_no s.w a.n s.words.now s.coeffs.now c.count.ensures c.if-count-n.true))

pub scale_rows-requires-clause-room : goal.scale_rows-requires-clause-room
scale_rows-requires-clause-room c =
    let a = c.args in
    let s = c.args.rows.now in
    room_less {R = a.n} (omega arith) (rows_room s.w (2 * a.n) s.words.now s.coeffs.now (leb-true (2 * a.n) _ (twice_yes s.w a.n s.words.now s.coeffs.now c.count.ensures c.if-count-n.false)))

pub returns-then-rotation : goal.returns-then-rotation
returns-then-rotation c =
    let a = c.args in
    let s = c.args.rows.now in
    on_rows_left
    (rotated_scaled s.w a.n a.rotation.axis a.rotation.sin a.rotation.cos s.words.now s.coeffs.now c.fits64.ensures (twice_yes s.w a.n s.words.now s.coeffs.now c.count.ensures c.if-count-n.false) c.if-rotation.true
    (held_by (2 * s.w) a.n s.words.now s.coeffs.now (by_met s.w a.rotation)
    (c.scale_rows.ensures.scaled (met_factor a.rotation) (λ i r h e. search rules))))
    (search rules) (search rules) refl refl refl c.scale_rows.ensures.same.words_long c.scale_rows.ensures.same.coeffs_long

pub table-table-requires : goal.table-table-requires
table-table-requires c =
    let a = c.args in
    let s = c.args.rows.now in
    (room_less {R = a.n} (omega arith) (rows_room s.w (2 * a.n) s.words.now s.coeffs.now (leb-true (2 * a.n) _ (twice_yes s.w a.n s.words.now s.coeffs.now c.count.ensures c.if-count-n.false)))).words_room

pub branch_rows-requires : goal.branch_rows-requires
branch_rows-requires c =
    let a = c.args in
    let s = c.args.rows.now in (
      rows_room s.w (2 * a.n) s.words.now s.coeffs.now (leb-true (2 * a.n) _ (twice_yes s.w a.n s.words.now s.coeffs.now c.count.ensures c.if-count-n.false)),
      c.table-table.ensures.tabled,
    )

pub returns : goal.returns
returns c =
    let a = c.args in
    let s = c.args.rows.now in
    let e = c.branch_rows.ensures in
    on_rows_left
    (rotated_branched s.w a.n a.rotation.axis a.rotation.sin a.rotation.cos s.words.now s.coeffs.now c.fits64.ensures (twice_yes s.w a.n s.words.now s.coeffs.now c.count.ensures c.if-count-n.false) c.if-rotation.false e.0 e.1.left)
    (search rules) (search rules) refl refl refl e.1.same.words_long e.1.same.coeffs_long
