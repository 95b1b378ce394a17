-- Row m has row i's key, and its coefficient added to 0.
use Rattle.std.proofs.Common.{◌*◌, ap, rules}
use Rattle.rows.specs.Rows.{put_coeff}
use Rattle.branches.proofs.ShareLaws.{new_key}
use Rattle.branches.proofs.start.new_row.Goals as goal

pub returns : goal.returns
returns c = let a = c.args in
    let s = a.rows.now in
    record {
      same = search rules;
      left = (new_key (2 * s.w) a.i a.m s.words.now c.requires.0 c.requires.1.0 c.copy_row.ensures, ap (put_coeff s.coeffs.now a.m) c.plus.ensures);
    }
