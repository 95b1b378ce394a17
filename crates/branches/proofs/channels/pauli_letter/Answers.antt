-- The letter by its two bits.
use Rattle.std.proofs.Common.{true, false}
use Rattle.branches.proofs.ChannelRows.{letter_is}
use Rattle.branches.proofs.channels.pauli_letter.Goals as goal

pub returns-in-true-true : goal.returns-in-true-true
returns-in-true-true c = let a = c.args in letter_is a.w a.q a.key.now true true c.get_bit.ensures c.get_bit-2.ensures (cc) (cc)

pub returns-in-true-false : goal.returns-in-true-false
returns-in-true-false c = let a = c.args in letter_is a.w a.q a.key.now true false c.get_bit.ensures c.get_bit-2.ensures (cc) (cc)

pub returns-in-false-true : goal.returns-in-false-true
returns-in-false-true c = let a = c.args in letter_is a.w a.q a.key.now false true c.get_bit.ensures c.get_bit-2.ensures (cc) (cc)

pub returns-in-false-false : goal.returns-in-false-false
returns-in-false-false c = let a = c.args in letter_is a.w a.q a.key.now false false c.get_bit.ensures c.get_bit-2.ensures (cc) (cc)
