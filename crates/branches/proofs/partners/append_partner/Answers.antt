-- The row copied, and turned into its partner.
use Rattle.std.proofs.Common.{◌+◌, ◌*◌, ◌≤◌, length, ◌∙◌, arith}
use lib.ListN.{length-set}
use Rattle.terms.specs.Rotation.{partner_by}
use Rattle.rows.proofs.RowLaws.{row_before}
use Rattle.rows.proofs.RowAccess.{copied_in}
use Rattle.branches.proofs.PartnerLaws.{appended_key}
use Rattle.branches.proofs.partners.append_partner.Goals as goal

pub returns : goal.returns
returns c =
    let a = c.args in
    let s = a.rows.now in
    let e = c.flip_row.ensures in
    let b = row_before (2 * s.w) c.requires.0 in
    let h : a.i * (2 * s.w) + 2 * s.w ≤ length s.words.now = omega (arith, c.requires.1) in
    let k = c.copy_row.ensures ∙ copied_in (2 * s.w) s.words.now a.i a.m h c.requires.1.0 in
    record {
      same = record {
        words = e.same.words;
        coeffs = e.same.coeffs;
        width = e.same.width;
        words_long = e.same.words_long ∙ c.copy_row.auto.words;
        coeffs_long = simp length-set e.same.coeffs_long;
      };
      left = (appended_key (2 * s.w) a.i a.m (partner_by s.w a.axis) s.words.now h c.requires.1.0 k e.key, rw e.coeffs);
    }
