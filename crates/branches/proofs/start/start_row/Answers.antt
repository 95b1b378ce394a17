-- The key of the line, and the weight with the sign of its Y letters.
use Rattle.std.proofs.Common.{◌*◌, refl, rules}
use Rattle.branches.proofs.ProbeLaws.{part_key}
use Rattle.branches.proofs.PartnerLaws.{part_put}
use Rattle.branches.proofs.StartLaws.{line_row}
use Rattle.branches.proofs.start.start_row.Goals as goal

pub returns : goal.returns
returns c =
    let a = c.args in
    let s = a.rows.now in
    record {
      same = search rules;
      left = line_row s.w a.row a.line a.keys.now a.weight s.words.now s.coeffs.now (part_key (2 * s.w) a.line a.keys.now) (part_put (2 * s.w) a.row s.words.now c.copy_key.ensures)
          c.y_quarters.ensures c.signed.ensures refl;
    }
