-- Where no term has a letter at a target, the rotation changes none.
use Rattle.std.proofs.Common.{◌≡◌, ℕ, List, true, sym, ap, ◌∙◌, refl}
use Rattle.terms.specs.Met.{axis_targets, in_words}
use Rattle.rows.specs.Rows.{met_in}
use Rattle.rows.proofs.LentLaws.{on_rows_start}
use Rattle.branches.proofs.RotatedLaws.{rotated_none}
use Rattle.branches.proofs.rotation.branch_rotation.Goals as goal

pub returns-then-has_targets : goal.returns-then-has_targets
returns-then-has_targets c =
    let a = c.args in
    let s = c.args.rows.now in
    let t = c.targets_of-a.ensures in
    let m = c.met-met.ensures ∙ ap (λ (ts : List ℕ). met_in s.w ts a.n s.words.now s.coeffs.now) t in
    let f : in_words s.w (axis_targets a.rotation.axis) ≡ true = ap (in_words s.w) (sym t) ∙ sym c.has_targets.ensures ∙ c.if-has_targets.true in
    record {
      met = m;
      terms = on_rows_start s (rotated_none s.w a.n a.rotation.axis a.rotation.sin a.rotation.cos s.words.now s.coeffs.now c.fits64.ensures (sym m ∙ c.if-met-eq0.true) f);
      index = refl;
    }
