-- The lines before i are written.
use Rattle.std.proofs.Common.{◌≡◌, ◌+◌}
use Rattle.text.specs.Bytes.{parts, newline}
use Rattle.rows.specs.Lent.{SameRows}
use Rattle.layout.specs.Cursor.{start_at}
use Rattle.layout.specs.Loaded.{keys_with, weights_with}
use Rattle.layout.proofs.loads.fill_lines.Given as goal

abbrev pub invariant-loop-i : goal.invariant-loop-i
invariant-loop-i l = record {
  place : l.at ≡ start_at l.s 0 (6 + l.i);
  same : SameRows l.fn.table l.table;
  keys : l.table.words.now ≡ keys_with l.fn.table.w l.i (parts newline l.s) l.fn.table.words.now;
  weights : l.table.coeffs.now ≡ weights_with l.i (parts newline l.s) l.fn.table.coeffs.now;
}
