-- The row rewritten, or scaled with its partner added.
use Rattle.std.proofs.Common.{◌*◌, Bool, ap, ◌∙◌, refl, arith}
use lib.ListN.{length-set}
use Rattle.terms.specs.Coefficient.{flipped_of}
use Rattle.terms.specs.Term.{odd_y}
use Rattle.terms.specs.Rotation.{met_by, partner_by}
use Rattle.rows.specs.Rows.{coeff_at}
use Rattle.rows.proofs.RowLaws.{length_put_coeff}
use Rattle.terms.proofs.AxisLaws.{partner_length}
use Rattle.branches.proofs.RotationRows.{lone_turned, lone_grown}
use Rattle.branches.proofs.rotation.lone_row.Goals as goal

pub returns-then-rotation : goal.returns-then-rotation
returns-then-rotation c =
    let a = c.args in
    let s = c.args.rows.now in
    let r = a.rotation in
    let o = c.key_odd-odd.ensures.0 ∙ ap (odd_y s.w) c.key.ensures in
    let e = c.flip_row.ensures in (
      omega arith,
      omega arith,
      record {
        same = record { words = e.same.words; coeffs = e.same.coeffs; width = e.same.width; words_long = e.same.words_long; coeffs_long = simp length-set e.same.coeffs_long };
        left = lone_turned s.w (met_by r.axis) (partner_by s.w r.axis) r.sin r.cos (2 * s.w) a.m a.i s.words.now s.coeffs.now (partner_length s.w r.axis) c.requires.1 c.requires.0
            c.if-rotation.true refl e.key (c.flipped-turned.ensures ∙ ap (λ (o : Bool). flipped_of o r.sin (coeff_at s.coeffs.now a.i)) o) (rw e.coeffs);
      },
    )

pub returns : goal.returns
returns c =
    let a = c.args in
    let s = c.args.rows.now in
    let r = a.rotation in
    let o = c.key_odd-odd.ensures.0 ∙ ap (odd_y s.w) c.key.ensures in
    let e = c.append_partner.ensures in (
      omega arith,
      omega arith,
      record {
        same = record { words = e.same.words; coeffs = e.same.coeffs; width = e.same.width; words_long = e.same.words_long; coeffs_long = e.same.coeffs_long ∙ length_put_coeff s.coeffs.now a.i _ };
        left = lone_grown s.w (met_by r.axis) (partner_by s.w r.axis) r.sin r.cos (2 * s.w) a.m a.i s.words.now s.coeffs.now (partner_length s.w r.axis) c.requires.1 c.requires.0
            c.if-rotation.false refl c.scaled.ensures refl (c.flipped-turned.ensures ∙ ap (λ (o : Bool). flipped_of o r.sin (coeff_at s.coeffs.now a.i)) o) e.left.0 e.left.1;
      },
    )
