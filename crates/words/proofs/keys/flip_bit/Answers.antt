use Rattle.std.proofs.Common.{true, refl}
use Rattle.words.proofs.keys.flip_bit.Goals as goal

pub returns : goal.returns
returns c = c.flip_when.ensures true refl
