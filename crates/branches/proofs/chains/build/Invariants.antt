-- An index of the rows before row i, in the memory that it began in.
use Rattle.std.proofs.Common.{ℕ, List}
use Rattle.std.specs.Borrow.{MutBor}
use Rattle.branches.specs.Index.{Indexes, Spares, InMemory}
use Rattle.branches.proofs.chains.build.Given as goal

abbrev pub invariant-loop-i : goal.invariant-loop-i
invariant-loop-i l = record {
  memory : (m : MutBor (List ℕ)) → InMemory m l.initial.index → InMemory m l.index;
  room : Spares l.cap l.index;
  indexed : Indexes l.sought l.rows l.i l.index;
}
