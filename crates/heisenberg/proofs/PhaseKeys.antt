-- The words that s, sdg and z make of a word at an axis: its partner where it is met, and itself. Assumes nothing.
use Prim.Native.Nat.{ℕ, ◌*◌, ◌<◌}
use mathlib.Core.Path.{◌≡◌, refl, sym, ap, ap₂, ◌∙◌}
use mathlib.Core.Bool.{Bool, true, false, not}
use mathlib.Core.Logic.{◌≢◌}
use native.Mathlib.Omega.{arith}
use lib.ListN.{length}
use Rattle.words.specs.Keys.{Key, ◌⊕◌, bit_at, flip_at, z_at, Words}
use Rattle.words.specs.declared.Bits as B
use Rattle.words.specs.declared.Gate.{Gate}
use Rattle.words.specs.declared.Gate.TheVariants as G
use Rattle.words.specs.Gates.{bits_at, flip_when, conj_bits, conj_key, Targets}
use Rattle.words.proofs.KeyLaws.{flip_at_twice, bit_at_flip_same, bit_at_flip_other}
use Rattle.words.proofs.GateLaws.{conj_key_flips, conj_key_length, conj_key_bits}
use Rattle.words.proofs.InverseLaws.{inverse_key}
use Rattle.terms.specs.declared.Axis.{Axis}
use Rattle.terms.specs.declared.Axis.TheVariants.{Z, Zz}
use Rattle.words.specs.Letters.{ys_of}
use Rattle.terms.specs.Term.{odd_y}
use Rattle.terms.specs.Rotation.{met_by, partner_by, on_key}
use Rattle.terms.proofs.YLaws.{on_both, odd_same, conjugated_ys}
use Rattle.terms.proofs.AxisLaws.{flips_commute}

-- ---- the words of one gate

s_key : (w q c : ℕ) (k : Key) → conj_key G.S w q c k ≡ flip_when (bit_at k q) (z_at w q) k
s_key w q c k = sym (conj_key_flips w q c k {g = G.S} {h = G.S} refl refl)

z_key : (w q c : ℕ) (k : Key) → conj_key G.Z w q c k ≡ k
z_key w q c k = sym (conj_key_flips w q c k {g = G.Z} {h = G.Z} refl refl)

cx_key : (w a b : ℕ) (k : Key) → conj_key G.Cx w a b k ≡ flip_when (bit_at k a) b (flip_when (bit_at k (z_at w b)) (z_at w a) k)
cx_key w a b k = sym (conj_key_flips w a b k {g = G.Cx} {h = G.Cx} refl refl)

-- ---- z of b flipped between two cx is z of both flipped

-- a flip before and after another
flip_around : (k : Key) (j l : ℕ) → flip_at (flip_at (flip_at k j) l) j ≡ flip_at k l
flip_around k j l = flips_commute (flip_at k j) l j ∙ ap (λ (m : Key). flip_at m l) (flip_at_twice k j)

flips_between : (k : Key) (i j l : ℕ) (x z : Bool) → flip_when x j (flip_when (not z) i (flip_at (flip_when x j (flip_when z i k)) l)) ≡ flip_at (flip_at k i) l
flips_between k i j l true true = flip_around (flip_at k i) j l
flips_between k i j l true false =
    ap (λ (m : Key). flip_at m j) (flips_commute (flip_at k j) l i ∙ ap (λ (m : Key). flip_at m l) (flips_commute k j i)) ∙ flip_around (flip_at k i) j l
flips_between k i j l false true = refl
flips_between k i j l false false = flips_commute k l i

-- ---- at an axis

-- the word, and where the gate stands: for rzz after a cx
abbrev pub base_of : ℕ → Axis → Key → Key
base_of w (Z q) k = k
base_of w (Zz a b) k = conj_key G.Cx w a b k

abbrev pub place_of : Axis → ℕ
place_of (Z q) = q
place_of (Zz a b) = b

-- the word after a gate there
abbrev pub key_through : ℕ → Gate → ℕ → Axis → Key → Key
key_through w g c (Z q) k = conj_key g w q c k
key_through w g c (Zz a b) k = conj_key G.Cx w a b (conj_key g w b c (conj_key G.Cx w a b k))

xor_comm : (a b : Bool) → a ⊕ b ≡ b ⊕ a
xor_comm true true = refl
xor_comm true false = refl
xor_comm false true = refl
xor_comm false false = refl

-- two distinct qubits, and cx between them
module _ (w a b : ℕ) (k : Key) (ha : a < 64 * w) (hb : b < 64 * w) (ne : a ≢ b) (long : length k ≡ 2 * w) where
  abbrev l : Key
  l = conj_key G.Cx w a b k

  bits : bits_at w a b l ≡ conj_bits G.Cx (bits_at w a b k)
  bits = conj_key_bits G.Cx w a b k ha hb ne long

  cx_met : bit_at l b ≡ bit_at k a ⊕ bit_at k b
  cx_met = ap (λ (s : B.Bits). s.xb) bits ∙ xor_comm (bit_at k b) (bit_at k a)

  on_cx : Targets G.Cx w a b
  on_cx = record { first = ha; second = λ e. (hb, ne) }

  cx_odd : odd_y w l ≡ odd_y w k
  cx_odd = odd_same (ys_of w l) (ys_of w k) (omega (arith, conjugated_ys G.Cx w a b k on_cx long))

  cx_twice : Words k → conj_key G.Cx w a b l ≡ k
  cx_twice ok = inverse_key G.Cx w a b k on_cx long ok

  cx_between : conj_key G.Cx w a b (flip_at l (z_at w b)) ≡ flip_at (flip_at k (z_at w a)) (z_at w b)
  cx_between =
      let m = flip_at l (z_at w b) in
      cx_key w a b m
      ∙ ap₂ (λ (x z : Bool). flip_when x b (flip_when z (z_at w a) m))
      (bit_at_flip_other l (z_at w b) a (λ e. omega arith) ∙ ap (λ (s : B.Bits). s.xa) bits)
      (bit_at_flip_same l (z_at w b) (omega (arith, conj_key_length G.Cx w a b k)) ∙ ap (λ (s : B.Bits). not s.zb) bits)
      ∙ ap (λ (n : Key). flip_when (bit_at k a) b (flip_when (not (bit_at k (z_at w b))) (z_at w a) (flip_at n (z_at w b)))) (cx_key w a b k)
      ∙ flips_between k (z_at w a) b (z_at w b) (bit_at k a) (bit_at k (z_at w b))

module _ (w c : ℕ) where
  -- a term is met if x is set where the gate stands
  pub base_met : (axis : Axis) (k : Key) → on_key w axis ≡ true → length k ≡ 2 * w → bit_at (base_of w axis k) (place_of axis) ≡ met_by axis k
  unfolding met_by
  base_met (Z q) k on long = refl
  base_met (Zz a b) k on long = let h = on_both w a b on in cx_met w a b k h.0 h.1.0 h.1.1 long

  pub base_odd : (axis : Axis) (k : Key) → on_key w axis ≡ true → length k ≡ 2 * w → odd_y w (base_of w axis k) ≡ odd_y w k
  base_odd (Z q) k on long = refl
  base_odd (Zz a b) k on long = let h = on_both w a b on in cx_odd w a b k h.0 h.1.0 h.1.1 long

  pub key_met : (axis : Axis) (k : Key) → on_key w axis ≡ true → length k ≡ 2 * w → met_by axis k ≡ true → key_through w G.S c axis k ≡ partner_by w axis k
  unfolding met_by partner_by
  key_met (Z q) k on long e = s_key w q c k ∙ ap (λ (x : Bool). flip_when x (z_at w q) k) e
  key_met (Zz a b) k on long e =
      let h = on_both w a b on in
      let l = conj_key G.Cx w a b k in
      ap (λ (m : Key). conj_key G.Cx w a b m) (s_key w b c l ∙ ap (λ (x : Bool). flip_when x (z_at w b) l) (cx_met w a b k h.0 h.1.0 h.1.1 long ∙ e))
      ∙ cx_between w a b k h.0 h.1.0 h.1.1 long

  pub key_unmet : (axis : Axis) (k : Key) → on_key w axis ≡ true → length k ≡ 2 * w → Words k → met_by axis k ≡ false → key_through w G.S c axis k ≡ k
  unfolding met_by
  key_unmet (Z q) k on long ok e = s_key w q c k ∙ ap (λ (x : Bool). flip_when x (z_at w q) k) e
  key_unmet (Zz a b) k on long ok e =
      let h = on_both w a b on in
      let l = conj_key G.Cx w a b k in
      ap (λ (m : Key). conj_key G.Cx w a b m) (s_key w b c l ∙ ap (λ (x : Bool). flip_when x (z_at w b) l) (cx_met w a b k h.0 h.1.0 h.1.1 long ∙ e))
      ∙ cx_twice w a b k h.0 h.1.0 h.1.1 long ok

  -- sdg makes the same words, and z makes none
  pub key_sdg : (axis : Axis) (k : Key) → key_through w G.Sdg c axis k ≡ key_through w G.S c axis k
  unfolding conj_key
  key_sdg (Z q) k = refl
  key_sdg (Zz a b) k = refl

  pub key_z : (axis : Axis) (k : Key) → on_key w axis ≡ true → length k ≡ 2 * w → Words k → key_through w G.Z c axis k ≡ k
  key_z (Z q) k on long ok = z_key w q c k
  key_z (Zz a b) k on long ok =
      let h = on_both w a b on in
      ap (λ (m : Key). conj_key G.Cx w a b m) (z_key w b c (conj_key G.Cx w a b k)) ∙ cx_twice w a b k h.0 h.1.0 h.1.1 long ok
