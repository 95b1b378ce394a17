use Rattle.text.specs.Bytes.{parts, newline}
use Rattle.sheet.proofs.AnswerLaws.{runnable, replied}
use Rattle.sheet.proofs.answer.answer_passed.Goals as goal

pub run_table-end-requires : goal.run_table-end-requires
run_table-end-requires c =
    let a = c.args in
    let m = c.args.memory.now in
    runnable a.laid.sheet.head (parts newline a.laid.sheet.text.now) a.laid.ops.now m.words.now m.coeffs.now a.means.now m.index.now a.laid.laid a.laid.op_list c.requires.passed
    a.table c.requires.room c.load_lines.ensures.left

pub returns : goal.returns
returns c =
    let a = c.args in
    let m = c.args.memory.now in
    let e = c.run_table-end.ensures in
    record {
      same = e.same;
      left = replied a.laid.sheet.head (parts newline a.laid.sheet.text.now) a.laid.ops.now m.words.now m.coeffs.now a.means.now m.index.now a.laid.laid a.laid.op_list c.requires.passed
          a.table c.requires.room c.load_lines.ensures.left _ _ _ e.left c.run_t_count-t_count.ensures c.reply_end.ensures;
    }
