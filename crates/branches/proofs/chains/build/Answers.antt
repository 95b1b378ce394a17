-- A turn adds row i.
use Rattle.std.proofs.Common.{◌*◌, ◌≡◌, ◌≤◌, length, refl, sym, subst, rules, arith}
use Rattle.rows.proofs.RowLaws.{row_before}
use Rattle.branches.specs.Chains.{Spare}
use Rattle.branches.proofs.FileLaws.{spare_less, filled_front, long_front, index_none}
use Rattle.branches.proofs.IndexLaws.{spares_same, memory_same}
use Rattle.branches.proofs.chains.build.Goals as goal

pub loop-i-init : goal.loop-i-init
loop-i-init c =
    let a = c.args in
    let m = a.memory.now in
    let b = c.in_ok-buckets.buckets in
    let h : b ≤ length m = let r = c.in_ok-buckets.ensures.room b refl in omega arith in
    let long = long_front b m h _ c.fill.ensures.len in
    record {
      memory = λ m h. h;
      room = subst (Spare a.cap _) (sym long) c.in_ok-buckets.ensures;
      indexed = index_none a.sought a.rows.now.w a.rows.now.words.now a.cap b m c.in_ok-buckets.ensures refl (filled_front b m h (c.fill.ensures.after (λ y e. search rules))) long;
    }

pub push-requires : goal.push-requires
push-requires c =
    let l = c.loop-i in
    let h = c.requires.1 in
    let r = row_before (2 * c.args.rows.now.w) c.loop-i-test.true in
    (omega arith, (spare_less (omega arith) l.invariant.room, l.invariant.indexed))

pub loop-i-preserved : goal.loop-i-preserved
loop-i-preserved c =
    let l = c.loop-i in
    let k = c.push in
    record {
      memory = λ m h. memory_same m l.index k.new.index k.ensures.same (l.invariant.memory m h);
      room = spares_same c.args.cap l.index k.new.index k.ensures.same l.invariant.room;
      indexed = k.ensures.indexed;
    }

pub returns : goal.returns
returns c =
    let a = c.args in
    let l = c.loop-i in
    let m = a.memory.now in
    let b = c.in_ok-buckets.buckets in
    let h : b ≤ length m = let r = c.in_ok-buckets.ensures.room b refl in omega arith in
    let e : l.i ≡ a.n = omega arith in
    record {
      memory = l.invariant.memory a.memory (refl, long_front b m h _ c.fill.ensures.len);
      indexed = (rw e at l.invariant.indexed, l.invariant.room);
    }
