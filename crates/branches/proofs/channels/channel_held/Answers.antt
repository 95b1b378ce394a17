-- The two kinds of channels.
use Prim.Native.Nat.{◌*◌}
use borrow.Author.Tests.{leb-true}
use Rattle.std.proofs.Common.{refl, rules}
use Rattle.rows.proofs.LentLaws.{on_rows_left}
use Rattle.rows.proofs.StepLaws.{rows_room, twice_yes}
use Rattle.branches.proofs.ChannelRows.{channel_local, channel_pair}
use Rattle.branches.proofs.channels.channel_held.Goals as goal

pub apply_local-requires : goal.apply_local-requires
apply_local-requires c =
    let n = c.args.n in
    let s = c.args.rows.now in
    rows_room s.w (2 * n) s.words.now s.coeffs.now (leb-true (2 * n) _ (twice_yes s.w n s.words.now s.coeffs.now c.count.ensures c.if-count-n.false))

pub returns-in-Local : goal.returns-in-Local
returns-in-Local c =
    let a = c.args in
    let s = a.rows.now in
    let e = c.apply_local.ensures in
    on_rows_left
    (channel_local s.w a.a a.b a.n a.action s.words.now s.coeffs.now (twice_yes s.w a.n s.words.now s.coeffs.now c.count.ensures c.if-count-n.false) c.in-Local.is e.0 e.1.left)
    (search rules) (search rules) refl refl refl e.1.same.words_long e.1.same.coeffs_long

pub returns-in-Depolarizing2q : goal.returns-in-Depolarizing2q
returns-in-Depolarizing2q c =
    let a = c.args in
    let s = a.rows.now in
    let e = c.scale_eithers.ensures in
    on_rows_left
    (channel_pair s.w a.a a.b a.n a.action s.words.now s.coeffs.now (twice_yes s.w a.n s.words.now s.coeffs.now c.count.ensures c.if-count-n.false) c.in-Depolarizing2q.is e.left)
    (search rules) (search rules) refl refl refl e.same.words_long e.same.coeffs_long
