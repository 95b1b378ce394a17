-- The number at k; past the end `f64::NAN`, whose bits are those of the one NaN.
use Rattle.std.proofs.Common.{ap, ◌∙◌}
use native.Mathlib.Nat.{le_refl}
use lib.Ieee.{of_bits, nan}
use Rattle.std.specs.Option.{unwrap_or}
use Rattle.rows.proofs.row.value_at.Goals as goal

pub returns : goal.returns
unfolding of_bits
returns c = c.unwrap_or.ensures ∙ ap (λ o. unwrap_or o nan) c.copied.ensures ∙ c.get.ensures.lookup.4 (le_refl _) nan
