use Rattle.lines.proofs.WordLaws.{place_one}
use Rattle.lines.proofs.termlines.place_factor.Goals as goal

pub returns : goal.returns
returns c = place_one _ _ _ _ _ _ _ _ _ c.first_byte-b.ensures c.qubit_of-q.ensures c.sets_x.ensures c.set_if.ensures c.sets_z.ensures c.set_if-2.ensures
