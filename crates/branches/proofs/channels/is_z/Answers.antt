-- Z is the letter of the third multiplier.
use Rattle.std.proofs.Common.{◌∙◌, rules, ◌≡◌}
use Rattle.branches.proofs.ChannelRows.{is_two, two_is}
use Rattle.branches.proofs.channels.is_z.Goals as goal

pub returns : goal.returns
returns c = let e : c.eq.result ≡ is_two c.pauli_letter.result = search rules in e ∙ two_is c.args.w c.args.q c.args.key.now c.pauli_letter.ensures
