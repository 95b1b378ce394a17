use Rattle.std.proofs.Common.{ap, ◌∙◌, arith, add_assoc}
use Rattle.text.specs.Bytes.{parts, newline}
use Rattle.layout.specs.Cursor.{start_at}
use Rattle.layout.proofs.CursorLaws.{start_next}
use Rattle.layout.proofs.LaidLaws.{term_lines_length}
use Rattle.questions.specs.Asking.{term_number}
use Rattle.questions.proofs.WalkLaws.{walked_stop, walked_more, walked_all, term_line}
use Rattle.questions.proofs.asking.ask_terms.Goals as goal

pub returns-in-Some : goal.returns-in-Some
returns-in-Some c =
    let h = c.args.laid.sheet.head in
    let s = c.args.laid.sheet.text.now in
    walked_stop c.loop-i.invariant.walked _ _ (omega (arith, term_lines_length h (parts newline s) c.args.laid.laid))
    (c.in-Some.ensures ∙ ap (term_number c.args.asked h) (term_line h s c.loop-i.i c.loop-i.at _ c.loop-i-test.true c.loop-i.invariant.place c.line_at.ensures))

pub loop-i-preserved : goal.loop-i-preserved
loop-i-preserved c =
    let h = c.args.laid.sheet.head in
    let s = c.args.laid.sheet.text.now in
    record {
      place = start_next s 0 _ _ _ c.loop-i.invariant.place c.next_at-at.ensures ∙ ap (start_at s 0) (add_assoc 6 c.loop-i.i 1);
      walked =
          walked_more c.loop-i.invariant.walked _ (omega (arith, term_lines_length h (parts newline s) c.args.laid.laid))
          (c.in_default.ensures ∙ ap (term_number c.args.asked h) (term_line h s c.loop-i.i c.loop-i.at _ c.loop-i-test.true c.loop-i.invariant.place c.line_at.ensures));
    }

pub returns : goal.returns
returns c = walked_all c.loop-i.invariant.walked (omega (arith, term_lines_length c.args.laid.sheet.head (parts newline c.args.laid.sheet.text.now) c.args.laid.laid))
