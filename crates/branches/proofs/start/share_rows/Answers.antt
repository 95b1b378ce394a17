-- A turn merges row i.
use Rattle.std.proofs.Common.{◌*◌, rules}
use Rattle.rows.proofs.LentLaws.{same_trans}
use Rattle.branches.proofs.IndexLaws.{same_if_refl, same_if_trans}
use Rattle.branches.proofs.ShareLaws.{merge_start, merge_turn}
use Rattle.branches.proofs.start.share_rows.Goals as goal

pub loop-i-init : goal.loop-i-init
loop-i-init c =
    let a = c.args in
    let s = a.rows.now in
    record {
      terms = record { same = search rules; left = merge_start (2 * s.w) a.n s.words.now s.coeffs.now };
      same = same_if_refl a.index.now;
      index = c.requires.1.1;
    }

pub loop-i-preserved : goal.loop-i-preserved
loop-i-preserved c =
    let l = c.loop-i in
    let T = l.invariant.terms in
    let e = c.share_row-m.ensures in
    record {
      terms = record {
        same = same_trans T.same e.terms.same;
        left = merge_turn T.left c.requires.0 c.loop-i-test.true (rw T.same.width at e.terms.left);
      };
      same = same_if_trans c.args.index.now l.index c.share_row-m.new.index l.invariant.same e.index.0;
      index = e.index.1;
    }
