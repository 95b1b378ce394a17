-- The pass begins with empty chains.
use Rattle.std.proofs.Common.{◌≤◌, length, refl, sym, ◌∙◌, rules, arith}
use Rattle.branches.proofs.FileLaws.{filled_front, long_front, linked_none}
use Rattle.branches.proofs.PairLaws.{pairing_none}
use Rattle.branches.proofs.pairs.table.Goals as goal

pub pair_rows-requires : goal.pair_rows-requires
pair_rows-requires c =
    let a = c.args in
    let m = a.memory.now in
    let b = c.in_ok-buckets.buckets in
    let R = c.in_ok-buckets.ensures in
    let r = R.room b refl in
    let h : b ≤ length m = omega arith in
    let long = long_front b m h _ c.fill.ensures.len in
    let L = linked_none b m (R.some b refl) (R.few b refl) h (filled_front b m h (c.fill.ensures.after (λ y e. search rules))) long in
    (c.requires, (R.counted b refl, (sym c.on_key.ensures ∙ c.if-not-on_key.false, pairing_none a.axis a.rows.now.w a.rows.now.words.now a.n b _ L (omega arith))))
