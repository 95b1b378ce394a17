-- A bit counted from a word of a buffer: what the code of `bit_of` and `flip_when` computes. Assumes nothing.
use Prim.Native.Nat.{ℕ, ◌+◌, ◌*◌, ◌/◌, ◌%◌, ◌^◌, ◌≤◌}
use mathlib.Core.Path.{◌≡◌, refl, sym, ap, ap₂, ◌∙◌, subst⁻¹}
use mathlib.Core.Bool.{Bool, true, false, cond}
use mathlib.Core.List.{List}
use native.Mathlib.Omega.{arith}
use lib.ListN.{length, get_or, set}
use lib.Bits.{bit_xor, xor_zero_r}
use lib.Seq.{set-get_or}
use lib.Pow.{shl_exact}
use native.Mathlib.Nat.{one-mul, zero-mul}
use Rattle.words.specs.Keys.{bit_of, flip_of, bit_at, flip_at}
use Rattle.words.specs.Gates.{flip_when}
use Rattle.words.proofs.WordLaws.{xor_flip}
use Rattle.words.proofs.KeyLaws.{flip_at_out, bit_at_past}

module _ (k : List ℕ) (base i : ℕ) where
  word : (64 * base + i) / 64 ≡ base + i / 64
  word = omega arith

  bit : (64 * base + i) % 64 ≡ i % 64
  bit = omega arith

  -- in the word at `at`
  pub bit_there : (at : ℕ) → at ≡ base + i / 64 → bit_at k (64 * base + i) ≡ bit_of (get_or k at 0) (i % 64)
  unfolding bit_at
  bit_there at e = ap₂ (λ (x y : ℕ). bit_of (get_or k x 0) y) (word ∙ sym e) bit

  pub bit_past : length k ≤ base + i / 64 → bit_at k (64 * base + i) ≡ false
  bit_past h = bit_at_past k (64 * base + i) (subst⁻¹ (λ (x : ℕ). length k ≤ x) word h)

  flipped : (at : ℕ) → at ≡ base + i / 64 → flip_at k (64 * base + i) ≡ set k at (flip_of (get_or k at 0) (i % 64))
  unfolding flip_at
  flipped at e = ap₂ (λ (x y : ℕ). set k x (flip_of (get_or k x 0) y)) (word ∙ sym e) bit

  -- a bit flipped by a mask that is 0 where it is not to be flipped
  pub flip_there : (at : ℕ) → at ≡ base + i / 64 → (on : Bool) (r : ℕ) → r ≡ cond on 1 0
      → set k at (bit_xor (get_or k at 0) (r * 2 ^ (i % 64) % 2 ^ 64)) ≡ flip_when on (64 * base + i) k
  flip_there at e on r f = ap mask f ∙ go on
    where
      mask : ℕ → List ℕ
      mask x = set k at (bit_xor (get_or k at 0) (x * 2 ^ (i % 64) % 2 ^ 64))

      go : (b : Bool) → mask (cond b 1 0) ≡ flip_when b (64 * base + i) k
      go true =
          ap (λ (x : ℕ). set k at (bit_xor (get_or k at 0) x)) (shl_exact 1 (i % 64) 64 (omega arith) (omega arith) ∙ one-mul (2 ^ (i % 64)))
          ∙ ap (set k at) (xor_flip (get_or k at 0) (i % 64)) ∙ sym (flipped at e)
      go false =
          ap (λ (x : ℕ). set k at (bit_xor (get_or k at 0) (x % 2 ^ 64))) (zero-mul (2 ^ (i % 64)))
          ∙ ap (set k at) (xor_zero_r (get_or k at 0)) ∙ set-get_or k at 0

  pub flip_past : (on : Bool) → length k ≤ base + i / 64 → k ≡ flip_when on (64 * base + i) k
  flip_past true h = sym (flip_at_out k (64 * base + i) (subst⁻¹ (λ (x : ℕ). length k ≤ x) word h))
  flip_past false h = refl
