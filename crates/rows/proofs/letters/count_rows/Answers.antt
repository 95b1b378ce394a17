-- A turn adds the letter of row i, which is at most 1.
use Rattle.std.proofs.Common.{ℕ, ◌+◌, ap, sym, ◌∙◌, arith}
use Rattle.rows.proofs.letters.count_rows.Goals as goal

pub loop-i-preserved : goal.loop-i-preserved
loop-i-preserved g c = (
  let h = c.requires.letters c.loop-i.i c.letter.result c.loop-i-test.true c.letter.ensures in omega arith,
  λ m z e. ap (λ (k : ℕ). k + c.letter.result) (c.loop-i.invariant.1 m z e) ∙ sym (e c.loop-i.i c.letter.result c.loop-i-test.true c.letter.ensures),
)
