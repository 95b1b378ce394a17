-- The row joins its partner, or is the first of its pair.
use Rattle.std.proofs.Common.{◌+◌, sym, ap, ◌∙◌, subst, arith}
use Rattle.terms.specs.Term.{odd_y}
use Rattle.branches.specs.declared.Sought.TheVariants.{Same, Partner}
use Rattle.branches.specs.Pairs.{Pairing}
use Rattle.branches.proofs.PairLaws.{none_is, walked_none, walked_at, pairing_joined, pairing_begun}
use Rattle.branches.proofs.pairs.pair_met.Goals as goal

pub join-requires : goal.join-requires
join-requires c =
    let a = c.args in
    let r = a.rows.now in
    let x = a.index.now in
    let S = c.requires.1.1.1.1.1 in
    let l = S.room in
    let h = c.requires.0 in
    let g = c.requires.1.1.0 in
    let q = (walked_at (Partner a.axis) r.w r.words.now a.i x.buckets x.memory.now a.i _ S.links c.in-Some.j c.walk.ensures c.in-Some.is).0 in
    (omega arith, (omega arith, (omega arith, c.key_odd-odd.ensures.1)))

pub returns-in-Some-clause-paired : goal.returns-in-Some-clause-paired
returns-in-Some-clause-paired c e =
    let a = c.args in
    let r = a.rows.now in
    let x = a.index.now in
    let S = c.requires.1.1.1.1.1 in
    let j = c.join.ensures.joined e in
    let o = c.key_odd-odd.ensures in
    let q = walked_at (Partner a.axis) r.w r.words.now a.i x.buckets x.memory.now a.i _ S.links c.in-Some.j c.walk.ensures c.in-Some.is in
    subst (Pairing a.axis r.w r.words.now a.n (a.i + 1) x.buckets) (sym j.1)
    (pairing_joined a.axis r.w r.words.now a.n a.i x.buckets x.memory.now c.requires.1.1.1.0 c.requires.0 c.requires.1.0 S c.requires.1.1.1.1.0 _ q.0 q.1 j.0 _ o.1 (o.0 ∙ ap (odd_y r.w) c.key.ensures))

pub returns-clause-paired : goal.returns-clause-paired
returns-clause-paired c e =
    let a = c.args in
    let r = a.rows.now in
    let x = a.index.now in
    let S = c.requires.1.1.1.1.1 in
    let b = c.bucket_of-b.ensures in
    subst (Pairing a.axis r.w r.words.now a.n (a.i + 1) x.buckets) (sym c.begin.ensures.begun)
    (pairing_begun a.axis r.w r.words.now a.n a.i x.buckets x.memory.now c.requires.1.1.1.0 c.requires.0 c.requires.1.0 S c.requires.1.1.1.1.0 _ b.0 b.1
    (walked_none (Partner a.axis) r.w r.words.now a.i x.buckets x.memory.now a.i _ S.links c.walk.ensures c.in_default.is)
    (walked_none Same r.w r.words.now a.i x.buckets x.memory.now a.i _ S.links c.walk-2.ensures (none_is _ c.is_some.ensures c.if-is_some.false)))
