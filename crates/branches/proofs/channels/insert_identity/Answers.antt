-- The row that is found, or a row more, which then goes into the index.
use Rattle.std.proofs.Common.{◌≡◌, ℕ, ◌<◌, Bool, Option, Some, refl, sym, ◌∙◌, rules, arith}
use Rattle.terms.specs.declared.Axis.TheVariants.{Z}
use Rattle.terms.specs.Branch.{first}
use Rattle.terms.proofs.FirstLaws.{first_at}
use Rattle.rows.proofs.HoldLaws.{room_at, room_less}
use Rattle.branches.specs.declared.Sought.TheVariants.{Identity}
use Rattle.branches.specs.Index.{buckets_of, numbers_of}
use Rattle.branches.proofs.ChannelRows.{insert_new, insert_old}
use Rattle.branches.proofs.IndexRows.{z_files, index_appended}
use Rattle.branches.proofs.channels.insert_identity.Goals as goal

pub find-requires : goal.find-requires
find-requires c =
    let a = c.args in
    ((room_less {R = a.m} (omega arith) c.requires.1).words_room, ((room_at c.requires.1 a.i (omega (arith, c.requires.0))).0, (z_files a.rows.now.w a.q _ c.requires.2, c.requires.4)))

-- the row that is found
below : (p : ℕ → Bool) (m j : ℕ) {f : Option ℕ} → f ≡ first p m → f ≡ Some j → j < m
below p m j e q = (first_at p m j (sym e ∙ q)).0

pub offset_bounds-rows-j : goal.offset_bounds-rows-j
offset_bounds-rows-j c = let h = below _ _ _ c.find.ensures c.in-Some.is in let r = c.requires.1.coeffs_room in search rules

pub bounds-rows-j : goal.bounds-rows-j
bounds-rows-j c = let h = below _ _ _ c.find.ensures c.in-Some.is in let r = c.requires.1.coeffs_room in omega arith

pub offset_bounds-rows-j-in-Some : goal.offset_bounds-rows-j-in-Some
offset_bounds-rows-j-in-Some c = let h = below _ _ _ c.find.ensures c.in-Some.is in let r = c.requires.1.coeffs_room in search rules

pub bounds-rows-j-in-Some : goal.bounds-rows-j-in-Some
bounds-rows-j-in-Some c = let h = below _ _ _ c.find.ensures c.in-Some.is in let r = c.requires.1.coeffs_room in omega arith

pub push-requires : goal.push-requires
push-requires c =
    let a = c.args in
    let s = a.rows.now in
    let e = c.append_partner.ensures in
    let r = (room_at c.requires.1 a.m (omega arith)).0 in
    let h = (room_at c.requires.1 a.i (omega (arith, c.requires.0))).0 in
    rw (e.same.width, e.same.words_long)
    (r, (c.requires.3, index_appended (Identity a.q) s.w (Z a.q) a.i a.m (buckets_of a.index.now) (numbers_of a.index.now) s.words.now h r e.left.0 c.requires.4))

pub returns-in-None-clause-terms : goal.returns-in-None-clause-terms
returns-in-None-clause-terms c =
    let a = c.args in
    let s = a.rows.now in
    let e = c.append_partner.ensures in
    record {
      same = e.same;
      left = insert_new s.w a.q a.m a.i a.d s.words.now s.coeffs.now c.requires.1 c.requires.0 c.find.ensures c.in-None.is e.left.0 e.left.1;
    }

pub returns-in-Some-clause-terms : goal.returns-in-Some-clause-terms
returns-in-Some-clause-terms c =
    let a = c.args in
    let s = a.rows.now in
    record {
      same = search rules;
      left = insert_old s.w a.q a.m a.i a.d s.words.now s.coeffs.now c.requires.1 c.requires.0 c.find.ensures _ c.in-Some.is refl c.plus.ensures refl;
    }
