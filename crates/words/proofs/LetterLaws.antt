-- The letters of a key, and where they can change: a flip and a gate change no letter elsewhere. Assumes nothing.
use Prim.Native.Nat.{ℕ, ◌*◌, ◌<◌}
use mathlib.Core.Path.{◌≡◌, refl, sym, ap₂, ◌∙◌}
use mathlib.Core.Bool.{Bool, true, false, ◌&&◌, ◌||◌, false≢true}
use mathlib.Core.Logic.{◌≢◌}
use native.Mathlib.Omega.{arith}
use lib.Dec.{T, ltb, ltb→lt, lt→ltb}
use Rattle.words.specs.declared.Gate.{Gate}
use Rattle.words.specs.Keys.{Key, bit_at, flip_at, z_at, has_letter}
use Rattle.words.specs.Gates.{has_two_targets, conj_key}
use Rattle.words.proofs.KeyLaws.{bit_at_flip_other}
use Rattle.words.proofs.GateLaws.{conj_key_other, one_target_key}

module _ (w : ℕ) where
  -- a letter at a qubit that the words have
  abbrev pub letter : Key → ℕ → Bool
  letter k q = ltb q (64 * w) && has_letter w k q

  pub letter_of : (k l : Key) (q : ℕ) → (q < 64 * w → bit_at k q ≡ bit_at l q) → (q < 64 * w → bit_at k (z_at w q) ≡ bit_at l (z_at w q))
      → letter k q ≡ letter l q
  letter_of k l q f g = go (ltb q (64 * w)) (ltb→lt q (64 * w))
    where
      go : (b : Bool) → (T b → q < 64 * w) → (b && has_letter w k q) ≡ (b && has_letter w l q)
      go true h = ap₂ ◌||◌ (f (h tt)) (g (h tt))
      go false h = refl

  pub letter_flip_x : (k : Key) (q r : ℕ) → q < 64 * w → q ≢ r → letter (flip_at k q) r ≡ letter k r
  letter_flip_x k q r h n =
      letter_of (flip_at k q) k r (λ l. bit_at_flip_other k q r (λ e. n (sym e))) (λ l. bit_at_flip_other k q (z_at w r) (λ e. omega arith))

  pub letter_flip_z : (k : Key) (q r : ℕ) → q ≢ r → letter (flip_at k (z_at w q)) r ≡ letter k r
  letter_flip_z k q r n =
      letter_of (flip_at k (z_at w q)) k r (λ l. bit_at_flip_other k (z_at w q) r (λ e. omega arith)) (λ l. bit_at_flip_other k (z_at w q) (z_at w r) (λ e. n (omega arith)))

  -- no letter: neither bit is set
  pub no_letter : (k : Key) (q : ℕ) → q < 64 * w → letter k q ≡ false → (bit_at k q ≡ false) × (bit_at k (z_at w q) ≡ false)
  no_letter k q h e = go (ltb q (64 * w)) (lt→ltb q (64 * w) h) (bit_at k q) (bit_at k (z_at w q)) e
    where
      go : (b : Bool) → T b → (x z : Bool) → (b && (x || z)) ≡ false → (x ≡ false) × (z ≡ false)
      go true t true z e = absurd (false≢true (sym e))
      go true t false z e = (refl, e)
      go false t x z e = absurd t

  -- a gate, at a qubit that is none of its targets
  pub conj_key_letter : (g : Gate) (a b : ℕ) (k : Key) (r : ℕ) → a < 64 * w → a ≢ r → (has_two_targets g ≡ true → (b < 64 * w) × (b ≢ r))
      → letter (conj_key g w a b k) r ≡ letter k r
  conj_key_letter g a b k r ha na two = go (has_two_targets g) refl
    where
      at : (b : ℕ) → b < 64 * w → b ≢ r → letter (conj_key g w a b k) r ≡ letter k r
      at b hb nb =
          letter_of (conj_key g w a b k) k r
          (λ l. conj_key_other g w a b k r (λ e. na (sym e)) (λ e. omega arith) (λ e. nb (sym e)) (λ e. omega arith))
          (λ l. conj_key_other g w a b k (z_at w r) (λ e. omega arith) (λ e. na (omega arith)) (λ e. omega arith) (λ e. nb (omega arith)))

      go : (t : Bool) → has_two_targets g ≡ t → letter (conj_key g w a b k) r ≡ letter k r
      go true e = at b (two e).0 (two e).1
      go false e = ap₂ (λ (l : Key) (q : ℕ). letter l q) (one_target_key g w a b a k e) refl ∙ at a ha na
