use Rattle.std.proofs.Common.{refl, ap, inl, inr}
use Rattle.std.specs.Float.Ieee.{neg}
use Rattle.numbers.specs.Constants.{sine_t, cosine_t}
use Rattle.terms.specs.declared.Axis.TheVariants.{Zz}
use Rattle.terms.specs.declared.NoiseChannel.TheVariants as N
use Rattle.ops.specs.declared.Op.TheVariants.{T, Tdg, Rz, P, Rzz, Pauli, Depol, Damp, Phase, Thermal, Depol2}
use Rattle.rows.proofs.LentLaws.{same_rows}
use Rattle.turns.proofs.ApplyLaws.{targets_test, skipped, gate_did, rotation_did, z_did, channel_did, barrier_did, lent_did}
use Rattle.turns.proofs.apply.apply_backward.Goals as goal

pub returns-then-not-has_targets : goal.returns-then-not-has_targets
returns-then-not-has_targets c =
    let s = c.args.rows.now in
    lent_did c.args.n c.args.op (same_rows s) (skipped s.w c.args.n c.args.op s.words.now s.coeffs.now (targets_test s.w c.args.op c.targets_of.ensures c.has_targets.ensures c.if-not-has_targets.true))

pub returns-in-Native : goal.returns-in-Native
returns-in-Native c =
    let s = c.args.rows.now in
    let on = targets_test s.w c.args.op c.targets_of.ensures c.has_targets.ensures c.if-not-has_targets.false in
    let e = c.conjugate_all_backward_phased-met.ensures in
    lent_did c.args.n c.args.op e.terms.same (gate_did s.w c.args.n c.args.op s.words.now s.coeffs.now on c.requires.0 c.fits64.ensures c.in-Native.g c.in-Native.a c.in-Native.b c.in-Native.is (e.met, e.terms.left))

pub returns-in-T : goal.returns-in-T
returns-in-T c =
    let s = c.args.rows.now in
    let on = targets_test s.w c.args.op c.targets_of.ensures c.has_targets.ensures c.if-not-has_targets.false in
    let e = c.branch_rotation.ensures in
    lent_did c.args.n c.args.op e.terms.same (z_did s.w c.args.n c.args.op s.words.now s.coeffs.now on c.requires.0 c.fits64.ensures (T c.in-T.q) c.in-T.q sine_t cosine_t c.in-T.is c.about_z.ensures c.sine_t.ensures c.cosine_t.ensures refl refl c.requires.1 (e.met, e.terms.left))

pub returns-in-Tdg : goal.returns-in-Tdg
returns-in-Tdg c =
    let s = c.args.rows.now in
    let on = targets_test s.w c.args.op c.targets_of.ensures c.has_targets.ensures c.if-not-has_targets.false in
    let e = c.branch_rotation-in-Tdg.ensures in
    lent_did c.args.n c.args.op e.terms.same (z_did s.w c.args.n c.args.op s.words.now s.coeffs.now on c.requires.0 c.fits64.ensures (Tdg c.in-Tdg.q) c.in-Tdg.q (neg sine_t) cosine_t c.in-Tdg.is c.about_z-rotation.ensures (ap neg c.sine_t-in-Tdg.ensures) c.cosine_t-in-Tdg.ensures refl refl c.requires.1
    (e.met, e.terms.left))

pub returns-in-Rz : goal.returns-in-Rz
returns-in-Rz c =
    let s = c.args.rows.now in
    let on = targets_test s.w c.args.op c.targets_of.ensures c.has_targets.ensures c.if-not-has_targets.false in
    let d = c.branch_rotation-in-Rz.ensures in
    elim c.in-Rz.is [
      | inl e ↦ lent_did c.args.n c.args.op d.terms.same (z_did s.w c.args.n c.args.op s.words.now s.coeffs.now on c.requires.0 c.fits64.ensures (Rz c.in-Rz.q c.in-Rz.s c.in-Rz.c) c.in-Rz.q c.in-Rz.s c.in-Rz.c e c.about_z-in-Rz.ensures refl refl refl refl c.requires.1 (d.met, d.terms.left))
      | inr e ↦ lent_did c.args.n c.args.op d.terms.same (z_did s.w c.args.n c.args.op s.words.now s.coeffs.now on c.requires.0 c.fits64.ensures (P c.in-Rz.q c.in-Rz.s c.in-Rz.c) c.in-Rz.q c.in-Rz.s c.in-Rz.c e c.about_z-in-Rz.ensures refl refl refl refl c.requires.1 (d.met, d.terms.left))
    ]

pub returns-in-Rzz : goal.returns-in-Rzz
returns-in-Rzz c =
    let s = c.args.rows.now in
    let on = targets_test s.w c.args.op c.targets_of.ensures c.has_targets.ensures c.if-not-has_targets.false in
    let e = c.branch_rotation-in-Rzz.ensures in
    lent_did c.args.n c.args.op e.terms.same (rotation_did s.w c.args.n c.args.op s.words.now s.coeffs.now on c.requires.0 c.fits64.ensures (Rzz c.in-Rzz.a c.in-Rzz.b c.in-Rzz.sin c.in-Rzz.cos) (record { axis = Zz c.in-Rzz.a c.in-Rzz.b; sin = c.in-Rzz.sin; cos = c.in-Rzz.cos }) c.in-Rzz.is refl refl c.requires.1
    (e.met, e.terms.left))

pub returns-in-Pauli : goal.returns-in-Pauli
returns-in-Pauli c =
    let s = c.args.rows.now in
    let on = targets_test s.w c.args.op c.targets_of.ensures c.has_targets.ensures c.if-not-has_targets.false in
    let e = c.apply_channel.ensures in
    lent_did c.args.n c.args.op e.terms.same (channel_did s.w c.args.n c.args.op s.words.now s.coeffs.now on c.requires.0 c.fits64.ensures (Pauli c.in-Pauli.q c.in-Pauli.x c.in-Pauli.y c.in-Pauli.z) (N.Pauli c.in-Pauli.x c.in-Pauli.y c.in-Pauli.z) c.in-Pauli.q 0 c.in-Pauli.is refl refl (e.met, e.terms.left))

pub returns-in-Depol : goal.returns-in-Depol
returns-in-Depol c =
    let s = c.args.rows.now in
    let on = targets_test s.w c.args.op c.targets_of.ensures c.has_targets.ensures c.if-not-has_targets.false in
    let e = c.apply_channel-in-Depol.ensures in
    lent_did c.args.n c.args.op e.terms.same (channel_did s.w c.args.n c.args.op s.words.now s.coeffs.now on c.requires.0 c.fits64.ensures (Depol c.in-Depol.q c.in-Depol.p) (N.Depolarizing c.in-Depol.p) c.in-Depol.q 0 c.in-Depol.is refl refl (e.met, e.terms.left))

pub returns-in-Damp : goal.returns-in-Damp
returns-in-Damp c =
    let s = c.args.rows.now in
    let on = targets_test s.w c.args.op c.targets_of.ensures c.has_targets.ensures c.if-not-has_targets.false in
    let e = c.apply_channel-in-Damp.ensures in
    lent_did c.args.n c.args.op e.terms.same (channel_did s.w c.args.n c.args.op s.words.now s.coeffs.now on c.requires.0 c.fits64.ensures (Damp c.in-Damp.q c.in-Damp.g) (N.AmplitudeDamping c.in-Damp.g) c.in-Damp.q 0 c.in-Damp.is refl refl (e.met, e.terms.left))

pub returns-in-Phase : goal.returns-in-Phase
returns-in-Phase c =
    let s = c.args.rows.now in
    let on = targets_test s.w c.args.op c.targets_of.ensures c.has_targets.ensures c.if-not-has_targets.false in
    let e = c.apply_channel-in-Phase.ensures in
    lent_did c.args.n c.args.op e.terms.same (channel_did s.w c.args.n c.args.op s.words.now s.coeffs.now on c.requires.0 c.fits64.ensures (Phase c.in-Phase.q c.in-Phase.g) (N.PhaseDamping c.in-Phase.g) c.in-Phase.q 0 c.in-Phase.is refl refl (e.met, e.terms.left))

pub returns-in-Thermal : goal.returns-in-Thermal
returns-in-Thermal c =
    let s = c.args.rows.now in
    let on = targets_test s.w c.args.op c.targets_of.ensures c.has_targets.ensures c.if-not-has_targets.false in
    let e = c.apply_channel-in-Thermal.ensures in
    lent_did c.args.n c.args.op e.terms.same (channel_did s.w c.args.n c.args.op s.words.now s.coeffs.now on c.requires.0 c.fits64.ensures (Thermal c.in-Thermal.q c.in-Thermal.d c.in-Thermal.p c.in-Thermal.e) (N.ThermalRelaxation c.in-Thermal.d c.in-Thermal.p c.in-Thermal.e) c.in-Thermal.q 0 c.in-Thermal.is refl refl (e.met, e.terms.left))

pub returns-in-Depol2 : goal.returns-in-Depol2
returns-in-Depol2 c =
    let s = c.args.rows.now in
    let on = targets_test s.w c.args.op c.targets_of.ensures c.has_targets.ensures c.if-not-has_targets.false in
    let e = c.apply_channel-in-Depol2.ensures in
    lent_did c.args.n c.args.op e.terms.same (channel_did s.w c.args.n c.args.op s.words.now s.coeffs.now on c.requires.0 c.fits64.ensures (Depol2 c.in-Depol2.a c.in-Depol2.b c.in-Depol2.p) (N.TwoQubitDepolarizing c.in-Depol2.p) c.in-Depol2.a c.in-Depol2.b c.in-Depol2.is refl refl (e.met, e.terms.left))

pub returns-in-Barrier : goal.returns-in-Barrier
returns-in-Barrier c =
    let s = c.args.rows.now in
    lent_did c.args.n c.args.op (same_rows s) (barrier_did s.w c.args.n c.args.op s.words.now s.coeffs.now c.in-Barrier.is)
