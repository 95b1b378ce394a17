-- What is to be done at the row.
use Prim.Native.Nat.{◌*◌, ◌<◌}
use mathlib.Core.Path.{refl, ap, ◌∙◌, subst}
use mathlib.Core.Bool.{Bool, not}
use native.Mathlib.Omega.{arith}
use Rattle.terms.specs.Rotation.{met_by, partner_by, mixed}
use Rattle.terms.proofs.AxisLaws.{partner_length}
use Rattle.rows.specs.Rows.{coeff_at, put_coeff}
use Rattle.rows.proofs.HoldLaws.{room_at}
use Rattle.rows.proofs.LentLaws.{on_rows_start}
use Rattle.branches.specs.Pairs.{Told}
use Rattle.branches.proofs.RotationRows.{row_done, row_lone, row_pair, pair_mixed, pair_below}
use Rattle.branches.proofs.rotation.branch_row.Goals as goal

pub pair_rows-requires : goal.pair_rows-requires
pair_rows-requires c =
    let a = c.args in
    let s = c.args.rows.now in
    let r = a.rotation in
    let h : a.i < a.m = omega (arith, c.requires.0, c.requires.1) in
    let t = subst (Told r.axis s.w s.words.now a.n a.i) c.in-Later.is c.find.ensures in
    let b = pair_below s.w (met_by r.axis) (partner_by s.w r.axis) r.sin r.cos (2 * s.w) a.m a.i s.words.now s.coeffs.now (partner_length s.w r.axis) c.requires.2 h a.n c.requires.1 t.0 refl _ t.1 in
    ((room_at c.requires.2 a.i (omega arith)).1, (room_at c.requires.2 c.in-Later.j (omega (arith, b))).1)

pub returns-in-Done : goal.returns-in-Done
returns-in-Done c =
    let a = c.args in
    let s = c.args.rows.now in
    let r = a.rotation in
    let h : a.i < a.m = omega (arith, c.requires.0, c.requires.1) in (
      omega arith,
      omega arith,
      on_rows_start s (row_done s.w (met_by r.axis) (partner_by s.w r.axis) r.sin r.cos (2 * s.w) a.m a.i s.words.now s.coeffs.now (partner_length s.w r.axis) c.requires.2 h a.n c.requires.1 (subst (Told r.axis s.w s.words.now a.n a.i) c.in-Done.is c.find.ensures)),
    )

pub returns-in-Lone : goal.returns-in-Lone
returns-in-Lone c =
    let a = c.args in
    let s = c.args.rows.now in
    let r = a.rotation in
    let h : a.i < a.m = omega (arith, c.requires.0, c.requires.1) in
    let t = subst (Told r.axis s.w s.words.now a.n a.i) c.in-Lone.is c.find.ensures in
    let e = c.lone_row.ensures in
    (e.0, e.1, record { same = e.2.same; left = row_lone s.w (met_by r.axis) (partner_by s.w r.axis) r.sin r.cos (2 * s.w) a.m a.i s.words.now s.coeffs.now (partner_length s.w r.axis) c.requires.2 h a.n c.requires.1 t.0 refl t.1 e.2.left })

pub returns-in-Later : goal.returns-in-Later
returns-in-Later c =
    let a = c.args in
    let s = c.args.rows.now in
    let r = a.rotation in
    let j = c.in-Later.j in
    let h : a.i < a.m = omega (arith, c.requires.0, c.requires.1) in
    let t = subst (Told r.axis s.w s.words.now a.n a.i) c.in-Later.is c.find.ensures in
    let b = pair_below s.w (met_by r.axis) (partner_by s.w r.axis) r.sin r.cos (2 * s.w) a.m a.i s.words.now s.coeffs.now (partner_length s.w r.axis) c.requires.2 h a.n c.requires.1 t.0 refl _ t.1 in (
      omega arith,
      omega arith,
      record {
        same = record { words = refl; coeffs = refl; width = refl; words_long = refl; coeffs_long = c.pair_rows.auto.coeffs };
        left = row_pair s.w (met_by r.axis) (partner_by s.w r.axis) r.sin r.cos (2 * s.w) a.m a.i s.words.now s.coeffs.now (partner_length s.w r.axis) c.requires.2 h a.n c.requires.1 t.0 refl _ t.1
            (pair_mixed s.w (met_by r.axis) (partner_by s.w r.axis) r.sin r.cos (2 * s.w) a.m a.i s.words.now s.coeffs.now (partner_length s.w r.axis) c.requires.2 h _ t.2 b
            (c.pair_rows.ensures
            ∙ ap (λ (o : Bool). put_coeff (put_coeff s.coeffs.now a.i (mixed o r.sin r.cos (coeff_at s.coeffs.now a.i) (coeff_at s.coeffs.now j))) j (mixed (not o) r.sin r.cos (coeff_at s.coeffs.now j) (coeff_at s.coeffs.now a.i))) t.3));
      },
    )
