-- "reals and epsilon agree as numbers, either zero alike"
use Rattle.std.specs.Prelude.{Bool, pos, Float}
use Rattle.std.specs.Float.{fin}

-- the same value, or two zeros
infix 50 ◌≈◌
pub data ◌≈◌ : Float → Float → Type 0 where
  same : {x : Float} → x ≈ x
  zeros : (s t : Bool) → fin s 0 (pos 0) ≈ fin t 0 (pos 0)
