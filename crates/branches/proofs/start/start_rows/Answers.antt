-- A turn starts one row.
use Rattle.std.proofs.Common.{length, rules}
use Rattle.rows.proofs.LentLaws.{same_trans}
use Rattle.branches.proofs.StartLaws.{lines_start, lines_turn}
use Rattle.branches.proofs.start.start_rows.Goals as goal

pub loop-l-init : goal.loop-l-init
loop-l-init c = let s = c.args.rows.now in
    let o = c.args.observable in
    record { same = search rules; left = lines_start s.w (length o.weights.now) o.keys.now o.weights.now s.words.now s.coeffs.now }

pub loop-l-preserved : goal.loop-l-preserved
loop-l-preserved c =
    let s = c.args.rows.now in
    let o = c.args.observable in
    let l = c.loop-l in
    let e = c.start_row.ensures in
    record {
      same = same_trans l.invariant.same e.same;
      left = lines_turn s.w (length o.weights.now) l.l o.keys.now o.weights.now l.invariant.left c.requires.0 c.requires.1 c.loop-l-test.true (rw l.invariant.same.width at e.left);
    }
