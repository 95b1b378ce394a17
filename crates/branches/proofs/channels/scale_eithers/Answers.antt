-- A turn does row i.
use Rattle.std.proofs.Common.{◌*◌, rules, arith}
use Rattle.terms.specs.Lists.{map_to}
use Rattle.terms.specs.Channel.{scaled_either}
use Rattle.rows.specs.Lent.{row_terms}
use Rattle.rows.proofs.HoldLaws.{hold_start}
use Rattle.rows.proofs.StepLaws.{held_map}
use Rattle.rows.proofs.LentLaws.{same_trans}
use Rattle.branches.proofs.ChannelRows.{either_turn}
use Rattle.branches.proofs.channels.scale_eithers.Goals as goal

pub loop-i-init : goal.loop-i-init
unfolding map_to
loop-i-init c =
    let a = c.args in
    let s = a.rows.now in
    record { same = search rules; left = hold_start (2 * s.w) a.n a.n s.words.now s.coeffs.now }

pub loop-i-preserved : goal.loop-i-preserved
loop-i-preserved c =
    let a = c.args in
    let s = a.rows.now in
    let L = c.loop-i.invariant in
    let r = c.loop-i.rows in
    let e = c.scale_either.ensures in
    record {
      same = same_trans L.same e.same;
      left = either_turn s.w a.a a.b a.f c.loop-i.i r.words.now r.coeffs.now (row_terms s a.n) L.left c.requires c.loop-i-test.true (rw L.same.width at e.left);
    }

pub returns : goal.returns
returns c =
    let a = c.args in
    let s = a.rows.now in
    let L = c.loop-i.invariant in
    record { same = L.same; left = held_map (scaled_either s.w a.a a.b a.f) (2 * s.w) a.n a.n c.loop-i.i s.words.now s.coeffs.now L.left (omega arith) c.loop-i-test.false }
