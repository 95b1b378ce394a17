-- Bits as the numbers 0 and 1: what the code computes of them. Assumes nothing.
use Prim.Native.Nat.{ℕ, zero, suc, ◌<◌}
use mathlib.Core.Path.{◌≡◌, refl, ap₂, ◌∙◌}
use mathlib.Core.Bool.{Bool, true, false, cond, ◌||◌}
use native.Mathlib.Omega.{arith}
use lib.Dec.{eqb}
use lib.Bits.{bit_or}

pub digit : (n : ℕ) → n < 2 → n ≡ cond (eqb n 1) 1 0
digit zero h = refl
digit (suc zero) h = refl
digit (suc (suc n)) h = absurd (omega arith)

pub either_bits : (p q : Bool) {x y : ℕ} → x ≡ cond p 1 0 → y ≡ cond q 1 0 → bit_or x y ≡ cond (p || q) 1 0
either_bits p q e f = ap₂ bit_or e f ∙ go p q
  where
    go : (p q : Bool) → bit_or (cond p 1 0) (cond q 1 0) ≡ cond (p || q) 1 0
    go true true = refl
    go true false = refl
    go false true = refl
    go false false = refl
