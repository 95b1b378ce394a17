-- Each row times the multiplier of its letter.
use Rattle.std.proofs.Common.{◌*◌, rules}
use Rattle.branches.specs.Letters.{letter_factor}
use Rattle.branches.proofs.ScalingLaws.{held_by, by_letter}
use Rattle.branches.proofs.channels.scale_letters.Goals as goal

pub returns : goal.returns
returns c =
    let a = c.args in
    let s = a.rows.now in
    let e = c.scale_rows.ensures in
    record {
      same = e.same;
      left = held_by (2 * s.w) a.n s.words.now s.coeffs.now (by_letter s.w a.q a.lambda) (e.scaled (letter_factor s.w a.q a.lambda) (λ i r h e. search rules));
    }
