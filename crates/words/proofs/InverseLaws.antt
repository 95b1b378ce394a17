-- The inverse gate undoes a gate: every word is restored, and the two factors cancel. So a gate keeps distinct keys distinct. Assumes nothing.
use Prim.Native.Nat.{ℕ, zero, suc, ◌+◌, ◌*◌, ◌%◌, ◌<◌}
use mathlib.Core.Path.{◌≡◌, refl, sym, ap, ◌∙◌}
use mathlib.Core.Bool.{Bool, true, false, beq}
use mathlib.Core.Logic.{◌≢◌}
use native.Mathlib.Omega.{arith}
use native.Mathlib.Decide.{ℕ_discrete}
use lib.ListN.{length}
use lib.Dec.{eqb, eqb→eq}
use Rattle.words.specs.declared.Bits as B
use Rattle.words.specs.declared.Gate.{Gate}
use Rattle.words.specs.Keys.{Key, bit_at, z_at, Words}
use Rattle.words.specs.Gates.{has_two_targets, conj_bits, conj_phase, bits_at, conj_key, inverse, Targets}
use Rattle.words.proofs.KeyLaws.{key_ext}
use Rattle.words.proofs.EveryGate.{beq→eq, at_gate, at_each, same, same→eq}
use Rattle.words.proofs.GateLaws.{conj_key_length, conj_key_words, conj_key_other, conj_key_bits, one_target_key}

inverse_bits : (g : Gate) (s : B.Bits) → conj_bits (inverse g) (conj_bits g s) ≡ s
inverse_bits g s = same→eq _ _ (at_each (λ g s. same (conj_bits (inverse g) (conj_bits g s)) s) tt g s)

pub inverse_phase : (g : Gate) (s : B.Bits) → (conj_phase g s + conj_phase (inverse g) (conj_bits g s)) % 4 ≡ 0
inverse_phase g s = eqb→eq _ _ (at_each (λ g s. eqb ((conj_phase g s + conj_phase (inverse g) (conj_bits g s)) % 4) 0) tt g s)

pub inverse_targets : (g : Gate) → has_two_targets (inverse g) ≡ has_two_targets g
inverse_targets g = beq→eq _ _ (at_gate (λ g. beq (has_two_targets (inverse g)) (has_two_targets g)) tt g)

-- at two distinct targets
module _ (g : Gate) (w a b : ℕ) (k : Key) (ha : a < 64 * w) (hb : b < 64 * w) (ne : a ≢ b) (long : length k ≡ 2 * w) (ok : Words k) where
  abbrev l : Key
  l = conj_key g w a b k

  abbrev m : Key
  m = conj_key (inverse g) w a b l

  back : bits_at w a b m ≡ bits_at w a b k
  back =
      conj_key_bits (inverse g) w a b l ha hb ne (conj_key_length g w a b k ∙ long)
      ∙ ap (λ (s : B.Bits). conj_bits (inverse g) s) (conj_key_bits g w a b k ha hb ne long) ∙ inverse_bits g (bits_at w a b k)

  bit : (i : ℕ) → Dec (i ≡ a) → Dec (i ≡ z_at w a) → Dec (i ≡ b) → Dec (i ≡ z_at w b) → bit_at m i ≡ bit_at k i
  bit i (yes e) p q u = ap (λ (j : ℕ). bit_at m j) e ∙ ap (λ (s : B.Bits). s.xa) back ∙ ap (λ (j : ℕ). bit_at k j) (sym e)
  bit i (no n) (yes e) q u = ap (λ (j : ℕ). bit_at m j) e ∙ ap (λ (s : B.Bits). s.za) back ∙ ap (λ (j : ℕ). bit_at k j) (sym e)
  bit i (no n) (no p) (yes e) u = ap (λ (j : ℕ). bit_at m j) e ∙ ap (λ (s : B.Bits). s.xb) back ∙ ap (λ (j : ℕ). bit_at k j) (sym e)
  bit i (no n) (no p) (no q) (yes e) = ap (λ (j : ℕ). bit_at m j) e ∙ ap (λ (s : B.Bits). s.zb) back ∙ ap (λ (j : ℕ). bit_at k j) (sym e)
  bit i (no n) (no p) (no q) (no u) = conj_key_other (inverse g) w a b l i n p q u ∙ conj_key_other g w a b k i n p q u

  restored : conj_key (inverse g) w a b (conj_key g w a b k) ≡ k
  restored =
      key_ext m k (conj_key_length (inverse g) w a b l ∙ conj_key_length g w a b k)
      (conj_key_words (inverse g) w a b l (conj_key_words g w a b k ok)) ok
      (λ i. bit i (ℕ_discrete i a) (ℕ_discrete i (z_at w a)) (ℕ_discrete i b) (ℕ_discrete i (z_at w b)))

-- a place other than a, for a gate that does not look there
other : ℕ → ℕ
other zero = 1
other (suc a) = 0

other_ne : (a : ℕ) → a ≢ other a
unfolding other
other_ne zero e = omega arith
other_ne (suc a) e = omega arith

other_lt : (w a : ℕ) → a < 64 * w → other a < 64 * w
unfolding other
other_lt w zero h = omega arith
other_lt w (suc a) h = omega arith

pub inverse_key : (g : Gate) (w a b : ℕ) (k : Key) → Targets g w a b → length k ≡ 2 * w → Words k
    → conj_key (inverse g) w a b (conj_key g w a b k) ≡ k
inverse_key g w a b k at long ok = go (has_two_targets g) refl
  where
    go : (t : Bool) → has_two_targets g ≡ t → conj_key (inverse g) w a b (conj_key g w a b k) ≡ k
    go true e = restored g w a b k at.first (at.second e).0 (at.second e).1 long ok
    go false e =
        one_target_key (inverse g) w a b (other a) (conj_key g w a b k) (inverse_targets g ∙ e)
        ∙ ap (λ (l : Key). conj_key (inverse g) w a (other a) l) (one_target_key g w a b (other a) k e)
        ∙ restored g w a (other a) k at.first (other_lt w a at.first) (other_ne a) long ok

pub conj_key_injective : (g : Gate) (w a b : ℕ) (k l : Key) → Targets g w a b → length k ≡ 2 * w → length l ≡ 2 * w → Words k → Words l
    → conj_key g w a b k ≡ conj_key g w a b l → k ≡ l
conj_key_injective g w a b k l at lk ll ok ol e =
    sym (inverse_key g w a b k at lk ok) ∙ ap (λ (m : Key). conj_key (inverse g) w a b m) e ∙ inverse_key g w a b l at ll ol
