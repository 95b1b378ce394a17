-- The row that has its key is there, and with a row more the index is one of the rows before it.
use Rattle.std.proofs.Common.{◌*◌, arith}
use native.Mathlib.Nat.{mul-le-mul_right}
use Rattle.branches.specs.Index.{buckets_of, numbers_of}
use Rattle.branches.proofs.ShareLaws.{found_below, index_shared}
use Rattle.branches.proofs.start.share_row.Goals as goal

pub add_row-requires : goal.add_row-requires
add_row-requires c =
    let a = c.args in
    let s = a.rows.now in
    let below = found_below (2 * s.w) a.i a.m s.words.now _ c.find.ensures c.in-Some.is in
    (c.requires.1.0.1, omega (arith, c.requires.0, c.requires.1.0.1))

pub push-requires : goal.push-requires
push-requires c =
    let a = c.args in
    let s = a.rows.now in
    let e = c.new_row.ensures in
    let r = mul-le-mul_right (2 * s.w) c.requires.0 in
    rw (e.same.width, e.same.words_long)
    (omega (arith, c.requires.1.0.0), (c.requires.1.1.0, index_shared s.w a.i a.m (buckets_of a.index.now) (numbers_of a.index.now) s.words.now c.requires.0 c.requires.1.0.0 e.left.0 c.requires.1.1.1))
