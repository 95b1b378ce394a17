-- The terms of the lines, two or more of them merged.
use Rattle.std.proofs.Common.{length}
use native.Mathlib.Omega.{arith}
use Rattle.rows.proofs.LentLaws.{same_trans}
use Rattle.branches.proofs.StartLaws.{sum_few, sum_many}
use Rattle.branches.proofs.start.weighted_sum.Goals as goal

pub returns-then-lines-lt2-clause-terms : goal.returns-then-lines-lt2-clause-terms
returns-then-lines-lt2-clause-terms c =
    let s = c.args.rows.now in
    let o = c.args.observable in
    let e = c.start_rows.ensures in
    record {
      same = e.same;
      left = sum_few s.w (length o.weights.now) o.keys.now o.weights.now s.words.now s.coeffs.now (omega arith) (omega arith) e.left c.if-lines-lt2.true;
    }

pub returns-clause-terms : goal.returns-clause-terms
returns-clause-terms c =
    let s = c.args.rows.now in
    let o = c.args.observable in
    let e = c.start_rows.ensures in
    let f = c.coalesce.ensures.terms in
    record {
      same = same_trans e.same f.same;
      left = sum_many s.w (length o.weights.now) o.keys.now o.weights.now s.words.now s.coeffs.now (omega arith) (omega arith) e.left c.if-lines-lt2.false (rw e.same.width at f.left);
    }
