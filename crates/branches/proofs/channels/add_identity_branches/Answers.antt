-- A turn adds the branch of row i.
use Rattle.std.proofs.Common.{◌+◌, ◌*◌, rules, arith}
use Rattle.terms.specs.Lists.{foldl}
use Rattle.terms.proofs.ListLaws.{length_tab}
use Rattle.rows.specs.Rows.{term_at}
use Rattle.rows.proofs.HoldLaws.{hold_start, room_less}
use Rattle.rows.proofs.StepLaws.{held_room}
use Rattle.rows.proofs.LentLaws.{same_trans}
use Rattle.branches.proofs.FileLaws.{spare_less}
use Rattle.branches.proofs.IndexLaws.{spares_same, same_if_refl, same_if_trans}
use Rattle.branches.proofs.ChannelRows.{branches_held}
use Rattle.branches.proofs.channels.add_identity_branches.Goals as goal

pub loop-i-init : goal.loop-i-init
unfolding foldl
loop-i-init c =
    let a = c.args in
    let s = a.rows.now in
    record {
      count = (omega arith, omega arith);
      terms = record { same = search rules; left = hold_start (2 * s.w) a.n a.n s.words.now s.coeffs.now };
      same = same_if_refl a.index.now;
      index = c.requires.2;
    }

pub branch_identity-m-requires : goal.branch_identity-m-requires
branch_identity-m-requires c =
    let a = c.args in
    let l = c.loop-i in
    let T = l.invariant.terms in (
      omega arith,
      rw T.same.width (held_room T.left (room_less {R = l.m + 1} (omega arith) c.requires.0)),
      spare_less (omega arith) (spares_same (2 * a.n) a.index.now l.index l.invariant.same c.requires.1),
      l.invariant.index,
    )

pub loop-i-preserved : goal.loop-i-preserved
loop-i-preserved c =
    let a = c.args in
    let s = a.rows.now in
    let l = c.loop-i in
    let T = l.invariant.terms in
    let e = c.branch_identity-m.ensures in
    record {
      count = (omega arith, omega arith);
      terms = record {
        same = same_trans T.same e.terms.same;
        left = branches_held s.w a.q a.f a.n l.i _ (length_tab a.n (term_at (2 * s.w) s.words.now s.coeffs.now)) c.loop-i-test.true (omega arith) T.left e.count.0 (rw T.same.width at e.terms.left);
      };
      same = same_if_trans a.index.now l.index c.branch_identity-m.new.index l.invariant.same e.index.0;
      index = e.index.1;
    }
