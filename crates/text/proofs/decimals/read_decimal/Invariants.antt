-- The number so far, and the digits that are left, are those of the whole.
use Rattle.std.proofs.Common.{◌≡◌, drop}
use Rattle.std.specs.Prelude.{Some}
use Rattle.text.specs.Numerals.{steps, next_digit, decimal}
use Rattle.text.proofs.decimals.read_decimal.Given as goal

abbrev pub invariant-loop-b : goal.invariant-loop-b
invariant-loop-b l = steps next_digit (drop l.b-index l.s) (Some l.v) ≡ decimal l.s
