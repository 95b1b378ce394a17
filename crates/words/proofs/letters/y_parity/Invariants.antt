-- The parity of the Y letters of the words before j.
use Rattle.std.proofs.Common.{◌≡◌, ◌*◌, ◌%◌}
use Rattle.std.specs.Int.Count.{ones}
use Rattle.words.specs.Letters.{count_y}
use Rattle.words.proofs.letters.y_parity.Given as goal

abbrev pub invariant-loop-j : goal.invariant-loop-j
invariant-loop-j l = ones l.folded % 2 ≡ count_y l.w (64 * l.j) l.key % 2
