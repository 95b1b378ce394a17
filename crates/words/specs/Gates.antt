-- "The gates map and phase a term as in the two Rust functions": a gate U takes the word P = X^x Z^z to U† P U.
-- Its bits at the targets change, and it gains a power of i. Tableau.antt has the published rules, which agree. What a gate does to a term is
-- listed in the order of section III of Aaronson and Gottesman: controlled-NOT, Hadamard, phase; the other gates after (2026-05).
use Rattle.std.specs.Prelude.{ℕ, ◌*◌, ◌<◌, ◌≡◌, ◌≢◌, Bool, true, false, cond, ◌&&◌, ◌||◌}
use Rattle.words.specs.declared.Bits as B
use Rattle.words.specs.declared.Gate.{Gate}
use Rattle.words.specs.declared.Gate.TheVariants.{Id, X, Y, Z, H, S, Sdg, Sx, Sxdg, Cx, Cz, Swap}
use Rattle.words.specs.Keys.{Key, ◌⊕◌, bit_at, flip_at, z_at}

-- "Two: cx (control first), cz, swap"
abbrev pub has_two_targets : Gate → Bool
has_two_targets Cx = true
has_two_targets Cz = true
has_two_targets Swap = true
has_two_targets Id = false
has_two_targets X = false
has_two_targets Y = false
has_two_targets Z = false
has_two_targets H = false
has_two_targets S = false
has_two_targets Sdg = false
has_two_targets Sx = false
has_two_targets Sxdg = false

abbrev pub mk : Bool → Bool → Bool → Bool → B.Bits
mk x z u v = record { xa = x; za = z; xb = u; zb = v }

-- `propagate_backward_words`: the bits at the targets after the gate
abbrev pub conj_bits : Gate → B.Bits → B.Bits
conj_bits Cx s = mk s.xa (s.za ⊕ s.zb) (s.xb ⊕ s.xa) s.zb
conj_bits H s = mk s.za s.xa s.xb s.zb
conj_bits S s = mk s.xa (s.za ⊕ s.xa) s.xb s.zb
conj_bits Sdg s = mk s.xa (s.za ⊕ s.xa) s.xb s.zb
conj_bits Sx s = mk (s.xa ⊕ s.za) s.za s.xb s.zb
conj_bits Sxdg s = mk (s.xa ⊕ s.za) s.za s.xb s.zb
conj_bits Cz s = mk s.xa (s.za ⊕ s.xb) s.xb (s.zb ⊕ s.xa)
conj_bits Swap s = mk s.xb s.zb s.xa s.za
conj_bits Id s = s
conj_bits X s = s
conj_bits Y s = s
conj_bits Z s = s

-- `clifford_conjugation_phase`: quarter turns, from the bits before. "cx and swap give no phase."
abbrev pub conj_phase : Gate → B.Bits → ℕ
conj_phase Cx s = 0
conj_phase H s = cond (s.xa && s.za) 2 0
conj_phase S s = cond s.xa 3 0
conj_phase Sdg s = cond s.xa 1 0
conj_phase Sx s = cond s.za 1 0
conj_phase Sxdg s = cond s.za 3 0
conj_phase Cz s = cond (s.xa && s.xb) 2 0
conj_phase Swap s = 0
conj_phase Id s = 0
conj_phase X s = cond s.za 2 0
conj_phase Y s = cond (s.xa ⊕ s.za) 2 0
conj_phase Z s = cond s.xa 2 0

-- whether a gate gives any key a phase: "cx and swap give no phase", nor does the identity
abbrev pub has_phase : Gate → Bool
has_phase Cx = false
has_phase H = true
has_phase S = true
has_phase Sdg = true
has_phase Sx = true
has_phase Sxdg = true
has_phase Cz = true
has_phase Swap = false
has_phase Id = false
has_phase X = true
has_phase Y = true
has_phase Z = true

-- the bits of a key at the targets a and b, and the key with those that the gate changes flipped
abbrev pub bits_at : ℕ → ℕ → ℕ → Key → B.Bits
bits_at w a b k = mk (bit_at k a) (bit_at k (z_at w a)) (bit_at k b) (bit_at k (z_at w b))

abbrev pub flip_when : Bool → ℕ → Key → Key
flip_when true i k = flip_at k i
flip_when false i k = k

abbrev pub moved : B.Bits → B.Bits → ℕ → ℕ → ℕ → Key → Key
moved s t w a b k =
    flip_when (s.zb ⊕ t.zb) (z_at w b)
    (flip_when (s.xb ⊕ t.xb) b
    (flip_when (s.za ⊕ t.za) (z_at w a)
    (flip_when (s.xa ⊕ t.xa) a k)))

unfoldable pub conj_key : Gate → ℕ → ℕ → ℕ → Key → Key
conj_key g w a b k = let s = bits_at w a b k in moved s (conj_bits g s) w a b k

-- whether a word has a letter at a target of the gate
abbrev pub meets : Gate → B.Bits → Bool
meets g s = s.xa || s.za || (has_two_targets g && (s.xb || s.zb))

-- the gate that undoes it
abbrev pub inverse : Gate → Gate
inverse S = Sdg
inverse Sdg = S
inverse Sx = Sxdg
inverse Sxdg = Sx
inverse Id = Id
inverse X = X
inverse Y = Y
inverse Z = Z
inverse H = H
inverse Cx = Cx
inverse Cz = Cz
inverse Swap = Swap

-- targets within a key of 2 * w words, distinct where the gate has two
pub record Targets (g : Gate) (w a b : ℕ) : Type 0 where
  pub first : a < 64 * w
  pub second : has_two_targets g ≡ true → (b < 64 * w) × (a ≢ b)
