use Rattle.std.proofs.Common.{◌≡◌, true, rules}
use Rattle.std.specs.Float.{binary64}
use Rattle.std.specs.Float.Ieee.{fits}
use Rattle.numbers.proofs.TestLaws.{holds}
use Rattle.ops.proofs.BinaryLaws.{fit_told}
use Rattle.runs.proofs.observable.fits64.Goals as goal

pub returns : goal.returns
returns c =
    let e : fits binary64 c.args.limits.epsilon ≡ true = search rules in
    record { weights = c.type_inv.weights; reals = fit_told c.args.circuit.ops.now c.args.circuit.binary64; epsilon = holds e }
