-- The number so far fits its digits, and with the digits that are left it is that of the whole.
use Rattle.std.proofs.Common.{◌≡◌, ◌<◌, ◌^◌, length, drop}
use Rattle.std.specs.Prelude.{Some}
use Rattle.text.specs.Numerals.{steps, next_hex, hex16}
use Rattle.text.proofs.reals.read_hex.Given as goal

abbrev pub invariant-loop-b : goal.invariant-loop-b
invariant-loop-b l = (length l.s ≡ 16) × (l.v < 16 ^ l.b-index) × (steps next_hex (drop l.b-index l.s) (Some l.v) ≡ hex16 l.s)
