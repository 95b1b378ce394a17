-- The place is that of as many lines as were passed.
use Rattle.std.proofs.Common.{◌≡◌}
use Rattle.layout.specs.Cursor.{start_at}
use Rattle.layout.proofs.cursor.start_at.Given as goal

abbrev pub invariant-loop : goal.invariant-loop
invariant-loop l = l.place ≡ start_at l.s l.at l.counter
