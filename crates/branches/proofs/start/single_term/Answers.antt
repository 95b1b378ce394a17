-- The term of the line.
use Rattle.branches.proofs.StartLaws.{single_done}
use Rattle.branches.proofs.start.single_term.Goals as goal

pub returns : goal.returns
returns c =
    let a = c.args in
    let s = a.rows.now in
    let e = c.start_row.ensures in
    record {
      same = e.same;
      left = single_done s.w a.line a.keys.now a.weight s.words.now s.coeffs.now c.count.ensures c.if-count-lt1.false c.rows_of.ensures c.if-rows_of-line.false e.left;
    }
