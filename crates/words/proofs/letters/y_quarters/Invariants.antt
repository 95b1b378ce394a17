-- The quarter turns of the words before j.
use Rattle.std.proofs.Common.{◌≡◌, ◌*◌, ◌%◌}
use Rattle.words.specs.Letters.{count_y}
use Rattle.words.proofs.letters.y_quarters.Given as goal

abbrev pub invariant-loop-j : goal.invariant-loop-j
invariant-loop-j l = l.quarters ≡ count_y l.w (64 * l.j) l.key % 4
