-- Rows set to zero.
use Rattle.std.specs.Prelude.{◌≡◌, ℕ, ◌-◌, ◌*◌, cond, ◌&&◌, List, ◌++◌, leb, ltb, take, drop, replicate, Float}
use Rattle.numbers.specs.Constants.{zero64}
use Rattle.rows.specs.Rows.{rows_in}

-- a list with z from place a up to place b
unfoldable pub filled : {A : Type 0} → A → ℕ → ℕ → List A → List A
filled z a b l = take a l ++ (replicate (b - a) z ++ drop b l)

-- zero rows from `from` up to `to`, where both buffers hold them whole
pub record Cleared (w from to : ℕ) (ws ws' : List ℕ) (cs cs' : List Float) : Type 0 where
  pub words : ws' ≡ cond (ltb from to && leb to (rows_in w ws cs)) (filled 0 (from * (2 * w)) (to * (2 * w)) ws) ws
  pub coeffs : cs' ≡ cond (ltb from to && leb to (rows_in w ws cs)) (filled zero64 from to cs) cs
