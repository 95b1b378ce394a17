-- Each target of the key is flipped.
use Rattle.branches.proofs.PartnerLaws.{flip_one, flip_two}
use Rattle.branches.proofs.partners.flip_key.Goals as goal

pub returns-in-Z : goal.returns-in-Z
returns-in-Z c = let a = c.args in flip_one a.w a.axis _ a.key.now c.in-Z.is c.flip_bit.ensures

pub returns-in-Zz : goal.returns-in-Zz
returns-in-Zz c = let a = c.args in flip_two a.w a.axis _ _ a.key.now c.in-Zz.is c.flip_bit-in-Zz.ensures c.flip_bit-in-Zz-2.ensures
