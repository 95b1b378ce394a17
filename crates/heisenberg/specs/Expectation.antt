-- "Mean: coefficients with x zero, summed in row order, real part": the expectation value of a sum of words in the state |0…0⟩.
use Rattle.std.specs.Prelude.{ℕ, ◌*◌, ◌≡◌, Bool, true, false, cond, ◌&&◌, List, [], ◌∷◌, length, replicate, Float}
use Rattle.std.specs.Bool.{beq}
use Rattle.std.specs.Float.{binary64}
use Rattle.std.specs.Float.Ieee.{add, neg}
use Rattle.numbers.specs.Constants.{zero64}
use Rattle.words.specs.Keys.{Key, ◌⊕◌, bit_at, z_at, Words, no_x}
use Rattle.terms.specs.Lists.{tab, foldl, All}
use Rattle.terms.specs.Term.{Term, OnWidth}
use Rattle.terms.specs.Mean.{mean_of}

-- a basis state: a bit for each qubit; and one with a sign
abbrev pub Basis : Type 0
Basis = List Bool

pub record Ket : Type 0 where
  pub minus : Bool
  pub bits : Basis

-- |0…0⟩
abbrev pub ground : ℕ → Basis
ground w = replicate (64 * w) false

-- X^x |s⟩ = |s ⊕ x⟩
unfoldable pub flipped_by : List Bool → Basis → Basis
flipped_by [] s = s
flipped_by (x ∷ xs) [] = []
flipped_by (x ∷ xs) (b ∷ s) = (b ⊕ x) ∷ flipped_by xs s

-- Z^z |s⟩ = (-1)^(z · s) |s⟩
unfoldable pub sign_by : List Bool → Basis → Bool
sign_by [] s = false
sign_by (z ∷ zs) [] = false
sign_by (z ∷ zs) (b ∷ s) = (z && b) ⊕ sign_by zs s

-- X^x Z^z |s⟩
abbrev pub word_on : ℕ → Key → Basis → Ket
word_on w k s = record { minus = sign_by (tab (64 * w) (λ q. bit_at k (z_at w q))) s; bits = flipped_by (tab (64 * w) (bit_at k)) s }

-- the inner product of a basis state and one with a sign: basis states are orthonormal
pub data Amplitude : Type 0 where
  nought : Amplitude
  plus_one : Amplitude
  minus_one : Amplitude

unfoldable pub same_bits : Basis → Basis → Bool
same_bits [] [] = true
same_bits [] (b ∷ t) = false
same_bits (a ∷ s) [] = false
same_bits (a ∷ s) (b ∷ t) = beq a b && same_bits s t

abbrev pub inner : Basis → Ket → Amplitude
inner s t = cond (same_bits s t.bits) (cond t.minus minus_one plus_one) nought

-- ⟨0…0| X^x Z^z |0…0⟩
abbrev pub word_mean : ℕ → Key → Amplitude
word_mean w k = inner (ground w) (word_on w k (ground w))

-- "1 if it has no x, else 0"
abbrev pub WordMeans : Type 0
WordMeans = (w : ℕ) (k : Key) → length k ≡ 2 * w → Words k → word_mean w k ≡ cond (no_x w k) plus_one nought

-- a coefficient times an amplitude, added and rounded once; a product with 0 adds nothing
abbrev pub add_times : Float → Amplitude → Float → Float
add_times s nought v = s
add_times s plus_one v = add binary64 s v
add_times s minus_one v = add binary64 s (neg v)

-- the sum of v × ⟨0…0| P |0…0⟩ over words P with real coefficients v, in row order
abbrev pub expectation : ℕ → List Term → Float
expectation w ts = foldl (λ s t. add_times s (word_mean w t.key) t.coeff) zero64 ts

-- of every list of terms with words of the width
abbrev pub MeanIsExpectation : Type 0
MeanIsExpectation = (w : ℕ) (ts : List Term) → All (OnWidth w) ts → mean_of w ts ≡ expectation w ts
