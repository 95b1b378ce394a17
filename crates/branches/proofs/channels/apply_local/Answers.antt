-- The branches first, then the multipliers.
use native.Mathlib.Omega.{arith}
use Rattle.rows.proofs.LentLaws.{same_trans}
use Rattle.branches.proofs.ChannelRows.{local_scaled, local_branched}
use Rattle.branches.proofs.channels.apply_local.Goals as goal

pub returns-then-z_to_identity : goal.returns-then-z_to_identity
returns-then-z_to_identity c =
    let a = c.args in
    let s = a.rows.now in
    let e = c.scale_letters.ensures in
    (omega arith, record { same = e.same; left = local_scaled s.w a.q a.lambda a.z_to_identity a.n s.words.now s.coeffs.now c.if-z_to_identity.true e.left })

pub returns : goal.returns
returns c =
    let a = c.args in
    let s = a.rows.now in
    let e = c.add_identity_branches-m.ensures in
    let f = c.scale_letters-2.ensures in (
      e.count,
      record {
        same = same_trans e.terms.same f.same;
        left = local_branched s.w a.q a.lambda a.z_to_identity a.n s.words.now s.coeffs.now c.if-z_to_identity.false e.terms.left (rw e.terms.same.width at f.left);
      },
    )
