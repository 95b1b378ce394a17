use Rattle.std.proofs.Common.{◌-◌, arith}
use Rattle.words.specs.declared.Gate.TheVariants.{Id}
use Rattle.ops.specs.declared.Op.TheVariants.{Native}
use Rattle.rows.proofs.LentLaws.{same_rows}
use Rattle.turns.proofs.RunLaws.{rows_turned, taken_none, taken_skip, taken_all, taken_refused, taken_slack}
use Rattle.std.proofs.lemmas.Result.{err_from_is_err_and}
use Rattle.turns.proofs.run.run_rows.Goals as goal

pub loop-i-init : goal.loop-i-init
loop-i-init c =
    let a = c.args in
    let s = c.args.rows.now in
    record { same = same_rows s; left = taken_none s.w a.limits a.marks.now a.ops.now a.start s.words.now s.coeffs.now c.min-i.result (omega (arith, c.min-i.ensures)) c.requires.ready }

pub turn-requires : goal.turn-requires
turn-requires c =
    let a = c.args in
    let s = c.args.rows.now in
    let L = c.loop-i.invariant in
    rw L.same.width (L.left.ready, taken_slack s.w a.limits a.marks.now a.ops.now a.start s.words.now s.coeffs.now c.loop-i.i c.requires L.left)

pub loop-i-preserved : goal.loop-i-preserved
loop-i-preserved c =
    let a = c.args in
    let s = c.args.rows.now in
    let L = c.loop-i.invariant in
    record {
      same = L.same;
      left = taken_skip s.w a.limits a.marks.now a.ops.now a.start s.words.now s.coeffs.now L.left (Native Id 0 0) c.loop-i-test.true
          (omega arith) (omega arith) (grind arith);
    }

pub returns : goal.returns
returns c =
    let a = c.args in
    let s = c.args.rows.now in
    let L = c.loop-i.invariant in
    record { same = L.same; left = taken_all s.w a.limits a.marks.now a.ops.now a.start s.words.now s.coeffs.now c.loop-i-test.false L.left }

pub returns-in_err-at : goal.returns-in_err-at
returns-in_err-at c =
    let a = c.args in
    let s = c.args.rows.now in
    let L = c.loop-i.invariant in
    let e = c.in_err-at.ensures in
    let p = err_from_is_err_and c.from_residual.result c.from_residual.ensures.1 in
    let T = rows_turned a.limits a.marks.now a.ops.now a.start s c.loop-i.i _ _ _ _ L c.loop-i-test.true (omega arith) (omega arith) (grind arith) e in
    rw (p.1, p.2) (record {
      same = T.same;
      left = taken_refused s.w a.limits a.marks.now a.ops.now a.start s.words.now s.coeffs.now (c.loop-i.i - 1) T.left;
    })
