-- Both parts are filled with zeros.
use Rattle.std.proofs.Common.{◌*◌, refl, rules, arith}
use Rattle.numbers.specs.Constants.{zero64}
use Rattle.rows.proofs.ClearLaws.{clear_room, cleared, filled_part}
use Rattle.rows.proofs.Rows.clear.Goals as goal

pub returns : goal.returns
returns c =
    let a = c.args in
    let s = c.args.self.now in
    let r = clear_room s.w a.from a.to s.words.now s.coeffs.now c.if-to-from.false c.count.ensures c.if-count-to.false in
    record {
      same = record { words = refl; coeffs = refl; width = refl; words_long = search rules; coeffs_long = search rules };
      left = cleared s.w a.from a.to s.words.now s.coeffs.now c.if-to-from.false c.count.ensures c.if-count-to.false
          (filled_part 0 (a.from * (2 * s.w)) (a.to * (2 * s.w)) s.words.now (omega arith) (omega arith) (c.fill.ensures.after (λ y e. search rules)))
          (filled_part zero64 a.from a.to s.coeffs.now (omega arith) (omega arith) (c.fill-2.ensures.after (λ y e. search rules)));
    }
