use Rattle.ops.proofs.MarkLaws.{letters_word}
use Rattle.ops.proofs.qubits.QubitSet.of_word.Goals as goal

pub returns : goal.returns
returns c = letters_word c.args.w c.args.key.now _ c.add_letters.new.self.long c.add_letters.ensures
