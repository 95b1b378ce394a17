use Rattle.std.proofs.Common.{take, sym, ap, ◌∙◌}
use Rattle.text.specs.Bytes.{parts, newline}
use Rattle.questions.proofs.VerdictLaws.{early_passed}
use Rattle.turns.proofs.LentMemory.{memory_start}
use Rattle.sheet.proofs.AnswerLaws.{laid_sound, later_is, refused_reply, passed_reply}
use Rattle.sheet.proofs.answer.answer_in.Goals as goal

pub invariant_of-laid : goal.invariant_of-laid
invariant_of-laid c =
    let h = c.args.sheet.head in
    let s = laid_sound h (parts newline c.args.sheet.text.now) c.args.ops.now c.requires.ops_room c.requires.early in
    record { laid = s.laid; qubits = s.qubits; limit = s.limit; terms = s.terms; op_count = s.ops; op_list = ap (take h.ops) c.load_ops.ensures ∙ s.table }

pub answer_passed-requires-clause-passed : goal.answer_passed-requires-clause-passed
answer_passed-requires-clause-passed c =
    let h = c.args.sheet.head in
    let ls = parts newline c.args.sheet.text.now in
    let m = c.args.memory.now in
    early_passed h ls _ _ c.requires.early ∙ sym (later_is h ls m.words.now m.coeffs.now c.args.means.now _ _ _ c.width.ensures c.rows_in-rows.ensures c.in-Ok.ensures)

pub returns-in-Err : goal.returns-in-Err
returns-in-Err c =
    let h = c.args.sheet.head in
    let ls = parts newline c.args.sheet.text.now in
    let m = c.args.memory.now in
    memory_start m (refused_reply h ls m.words.now m.coeffs.now c.args.means.now m.index.now
    (later_is h ls m.words.now m.coeffs.now c.args.means.now _ _ _ c.width.ensures c.rows_in-rows.ensures c.in-Err.ensures) c.refusal.ensures)

pub returns-in-Ok : goal.returns-in-Ok
returns-in-Ok c =
    let h = c.args.sheet.head in
    let ls = parts newline c.args.sheet.text.now in
    let m = c.args.memory.now in
    let e = c.answer_passed.ensures in
    record { same = e.same; left = passed_reply h ls (later_is h ls m.words.now m.coeffs.now c.args.means.now _ _ _ c.width.ensures c.rows_in-rows.ensures c.in-Ok.ensures) e.left }
