-- The row as the next one, or where it stands.
use Rattle.std.proofs.Common.{◌≡◌, ◌*◌, sym, refl, ◌∙◌, arith, rules}
use Rattle.rows.proofs.RowLaws.{row_before, put_key_same, put_val_same}
use Rattle.rows.proofs.RowAccess.{copied_in}
use Rattle.rows.proofs.LentLaws.{same_rows}
use Rattle.sums.proofs.truncate.move_row.Goals as goal

pub returns-then-k-i : goal.returns-then-k-i
returns-then-k-i c =
    let a = c.args in
    let s = c.args.rows.now in
    let b = row_before (2 * s.w) c.if-k-i.true in
    record {
      same = record { words = refl; coeffs = refl; width = refl; words_long = search rules; coeffs_long = search rules };
      left = (c.copy_row.ensures ∙ copied_in (2 * s.w) s.words.now a.i a.k c.requires.1.0 (omega (arith, c.requires.1.0)), search rules);
    }

pub returns-else-k-i : goal.returns-else-k-i
returns-else-k-i c =
    let a = c.args in
    let s = c.args.rows.now in
    let e : a.k ≡ a.i = omega arith in
    record { same = same_rows s; left = (rw e (sym (put_key_same (2 * s.w) s.words.now a.i)), rw e (sym (put_val_same s.coeffs.now a.i))) }
