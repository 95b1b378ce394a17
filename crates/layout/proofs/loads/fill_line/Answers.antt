use Rattle.std.proofs.Common.{refl, rules, ap}
use Rattle.std.proofs.Math.ListN.{set}
use Rattle.layout.proofs.LoadLaws.{fill_row}
use Rattle.layout.proofs.loads.fill_line.Goals as goal

pub returns : goal.returns
returns c =
    let s = c.args.table.now in
    record {
      same = record { words = refl; coeffs = refl; width = refl; words_long = search rules; coeffs_long = search rules };
      left = (fill_row s.w c.args.i s.words.now c.args.l.now c.place_factors.ensures, ap (set s.coeffs.now c.args.i) c.weight_on.ensures);
    }
