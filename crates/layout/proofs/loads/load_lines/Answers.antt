use Rattle.std.proofs.Common.{sym, ◌∙◌}
use borrow.Author.Tests.{leb-true}
use Rattle.text.specs.Bytes.{parts, newline}
use Rattle.rows.proofs.LentLaws.{on_rows_start}
use Rattle.layout.proofs.LoadLaws.{loaded, no_weights, no_keys}
use Rattle.layout.proofs.loads.load_lines.Goals as goal
use Rattle.layout.proofs.loads.load_lines.Goals.{else-n-table-via-then-n-table+else-holds_rows as few_rows, else-n-table-via-else-n-table as few_weights}

pub fill_lines-requires : goal.fill_lines-requires
fill_lines-requires c = record { words_room = leb-true _ _ (sym c.holds_rows.ensures ∙ c.if-holds_rows.true); coeffs_room = c.if-n-table.true }

pub returns-then-holds_rows : goal.returns-then-holds_rows
returns-then-holds_rows c =
    let s = c.args.table.now in
    let e = c.fill_lines.ensures in
    record {
      same = e.same;
      left = loaded s.w c.args.sheet.head (parts newline c.args.sheet.text.now) s.words.now s.coeffs.now
          (leb-true _ _ (sym c.holds_rows.ensures ∙ c.if-holds_rows.true)) c.if-n-table.true e.left.0 e.left.1;
    }

pub returns-else-n-table : goal.returns-else-n-table
returns-else-n-table c =
    let a = c.args in
    let s = c.args.table.now in
    on_rows_start s (elim c.else-n-table.branch [
      | few_rows w ↦ no_keys s.w a.sheet.head (parts newline a.sheet.text.now) s.words.now s.coeffs.now (sym w.holds_rows.ensures ∙ w.if-holds_rows.false)
      | few_weights w ↦ no_weights s.w a.sheet.head (parts newline a.sheet.text.now) s.words.now s.coeffs.now w.if-n-table.false
    ])
