-- The rows before row i are done.
use Rattle.branches.specs.Pairs.{Pairing}
use Rattle.branches.specs.Index.{SameIndex}
use Rattle.branches.proofs.pairs.pair_rows.Given as goal

abbrev pub invariant-loop-i : goal.invariant-loop-i
invariant-loop-i l = record { same : SameIndex l.fn.index l.index; paired : Pairing l.axis l.rows.w l.rows.words.now l.n l.i l.fn.index.buckets l.index.memory.now }
