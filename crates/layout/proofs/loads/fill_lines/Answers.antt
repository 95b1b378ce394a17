use Rattle.std.proofs.Common.{◌≡◌, ap, ◌∙◌, arith, add_assoc}
use Rattle.text.specs.Bytes.{parts, newline}
use Rattle.rows.proofs.LentLaws.{same_rows, same_trans}
use Rattle.layout.specs.Cursor.{line_at, start_at}
use Rattle.layout.proofs.CursorLaws.{start_next, line_there}
use Rattle.layout.proofs.LoadLaws.{row_room, keys_none, keys_turn, weights_none, weights_turn}
use Rattle.layout.proofs.loads.fill_lines.Goals as goal

pub loop-i-init : goal.loop-i-init
loop-i-init c =
    let ls = parts newline c.args.s.now in
    let s = c.args.table.now in
    record { place = c.start_at-at.ensures; same = same_rows s; keys = keys_none s.w ls s.words.now; weights = weights_none ls s.coeffs.now }

pub fill_line-requires : goal.fill_line-requires
fill_line-requires c =
    let V = c.loop-i.invariant in
    let long = V.same.coeffs_long in
    let some = c.requires.coeffs_room in
    rw V.same.width (row_room c.args.table.now.w c.loop-i.i c.args.n _ _ c.loop-i-test.true c.requires.words_room V.same.words_long, omega arith)

pub loop-i-preserved : goal.loop-i-preserved
loop-i-preserved c =
    let i = c.loop-i.i in
    let V = c.loop-i.invariant in
    let s = c.args.table.now in
    let ls = parts newline c.args.s.now in
    let some = c.requires.coeffs_room in
    let this = c.line_at.ensures ∙ ap (line_at c.args.s.now) V.place ∙ line_there _ _ in
    let e = rw V.same.width at c.fill_line.ensures.left in
    record {
      place = start_next _ _ _ _ _ V.place c.next_at-at.ensures ∙ ap (start_at c.args.s.now 0) (add_assoc 6 i 1);
      same = same_trans V.same c.fill_line.ensures.same;
      keys = keys_turn s.w i c.args.n ls s.words.now (omega arith) c.requires.words_room V.keys this e.0;
      weights = weights_turn i ls s.coeffs.now (omega arith) V.weights this e.1;
    }

pub returns : goal.returns
returns c =
    let e : c.loop-i.i ≡ c.args.n = omega arith in
    let V = c.loop-i.invariant in
    record { same = V.same; left = (rw e at V.keys, rw e at V.weights) }
