-- The sign that a gate gives a number is that of its quarter turns; and the sign of a flip is that of the sine. Assumes nothing.
use Prim.Native.Nat.{ℕ, zero, suc, ◌+◌, ◌%◌, ◌<◌}
use native.Mathlib.Nat.{mod-lt}
use native.Mathlib.Omega.{arith}
use mathlib.Core.Path.{◌≡◌, refl, ap, ◌∙◌}
use mathlib.Core.Bool.{Bool, true, false, cond, ◌&&◌, beq}
use mathlib.Core.List.{[], ◌∷◌}
use lib.Dec.{ltb, eqb}
use lib.ListN.{get_or}
use lib.Pow.{pow_pos}
use lib.Ieee.{Float, nan, binary64, neg, mul}
use Rattle.numbers.proofs.SignLaws.{neg_neg, mul_neg}
use Rattle.words.specs.Keys.{◌⊕◌}
use Rattle.words.specs.declared.Bits as B
use Rattle.words.specs.declared.Gate.{Gate}
use Rattle.words.specs.Gates.{conj_phase, meets}
use Rattle.words.proofs.EveryGate as E
use Rattle.words.proofs.GateLaws.{unmet_phase}
use Rattle.terms.specs.Coefficient.{signed, flipped_of, negates, asks_word}
use Rattle.words.specs.Letters.{is_odd}

abbrev pub turn_sign : Bool → ℕ → Bool
turn_sign b r = ltb 1 ((cond b 1 0 + r) % 4)

pub negates_turns : (g : Gate) (s : B.Bits) (b : Bool) → negates g s b ≡ turn_sign b (conj_phase g s)
negates_turns g s true = E.beq→eq _ _ (E.at_each (λ g s. beq (negates g s true) (turn_sign true (conj_phase g s))) tt g s)
negates_turns g s false = E.beq→eq _ _ (E.at_each (λ g s. beq (negates g s false) (turn_sign false (conj_phase g s))) tt g s)

-- where a gate makes no quarter turn it keeps the number
pub phaseless : (g : Gate) (s : B.Bits) (b : Bool) → conj_phase g s ≡ 0 → negates g s b ≡ false
phaseless g s b h = negates_turns g s b ∙ ap (turn_sign b) h ∙ go b
  where
    go : (b : Bool) → turn_sign b 0 ≡ false
    go true = refl
    go false = refl

pub unmet_sign : (g : Gate) (s : B.Bits) (b : Bool) → meets g s ≡ false → negates g s b ≡ false
unmet_sign g s b h = phaseless g s b (unmet_phase g s h)

-- a gate that asks for the word's parity needs it, and no other does
pub asks : (g : Gate) (s : B.Bits) → negates g s true ⊕ negates g s false ≡ asks_word g && is_odd (conj_phase g s)
asks g s = E.beq→eq _ _ (E.at_each (λ g s. beq (negates g s true ⊕ negates g s false) (asks_word g && is_odd (conj_phase g s))) tt g s)

-- the sine with the sign of a parity, found by its place
pub sine_at : (n : ℕ) (sin : Float) → get_or (sin ∷ neg sin ∷ []) (n % 2) nan ≡ signed (is_odd n) sin
sine_at n sin = go (n % 2) (mod-lt n (pow_pos 1))
  where
    go : (r : ℕ) → r < 2 → get_or (sin ∷ neg sin ∷ []) r nan ≡ signed (eqb r 1) sin
    go zero h = refl
    go (suc zero) h = refl
    go (suc (suc r)) h = absurd (omega arith)

-- a flip by the sine with the sign of the word's parity
pub flip_by_sine : (odd : Bool) (sin v : Float) → neg (mul binary64 v (signed odd sin)) ≡ flipped_of odd sin v
flip_by_sine true sin v = ap neg (mul_neg binary64 v sin) ∙ neg_neg (mul binary64 v sin)
flip_by_sine false sin v = refl
