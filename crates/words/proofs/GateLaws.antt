-- What a gate does to a key: it keeps the length and the bound of the words, changes no bit outside its targets, gives the bits at its
-- targets as `conj_bits` has them, makes just the flips of `flips`, does nothing where it meets identities only, and with one target
-- never looks at the second. Assumes nothing.
use Prim.Native.Nat.{ℕ, ◌*◌, ◌/◌, ◌<◌}
use mathlib.Core.Path.{◌≡◌, refl, sym, ap, ap₂, ◌∙◌, subst}
use mathlib.Core.Bool.{Bool, true, false, not, ◌&&◌, ◌||◌, false≢true}
use mathlib.Core.Logic.{◌≢◌}
use native.Mathlib.Omega.{arith}
use lib.ListN.{length}
use lib.Dec.{T, eqb, eqb→eq}
use Rattle.words.specs.declared.Bits as B
use Rattle.words.specs.declared.Gate.{Gate}
use Rattle.words.specs.declared.Gate.TheVariants.{Id, X, Y, Z, H, S, Sdg, Sx, Sxdg, Cx, Cz, Swap}
use Rattle.words.specs.Keys.{Key, ◌⊕◌, bit_at, z_at, Words}
use Rattle.words.specs.Gates.{has_two_targets, mk, conj_bits, conj_phase, has_phase, bits_at, flip_when, moved, conj_key, meets}
use Rattle.words.proofs.KeyLaws.{flip_at_length, flip_at_words, bit_at_flip_same, bit_at_flip_other}
use Rattle.words.proofs.EveryGate.{and_fst, and_snd, at_each, same, same→eq}

-- ---- a flip that may be made

xor_true : (x : Bool) → not x ≡ x ⊕ true
xor_true true = refl
xor_true false = refl

xor_false : (x : Bool) → x ≡ x ⊕ false
xor_false true = refl
xor_false false = refl

pub xor_back : (x y : Bool) → x ⊕ (x ⊕ y) ≡ y
xor_back true true = refl
xor_back true false = refl
xor_back false true = refl
xor_back false false = refl

pub flip_when_length : (t : Bool) (i : ℕ) (k : Key) → length (flip_when t i k) ≡ length k
flip_when_length true i k = flip_at_length k i
flip_when_length false i k = refl

pub flip_when_words : (t : Bool) (i : ℕ) (k : Key) → Words k → Words (flip_when t i k)
flip_when_words true i k h = flip_at_words k i h
flip_when_words false i k h = h

pub flip_when_same : (t : Bool) (i : ℕ) (k : Key) → i / 64 < length k → bit_at (flip_when t i k) i ≡ bit_at k i ⊕ t
flip_when_same true i k h = bit_at_flip_same k i h ∙ xor_true (bit_at k i)
flip_when_same false i k h = xor_false (bit_at k i)

pub flip_when_other : (t : Bool) (i : ℕ) (k : Key) (j : ℕ) → j ≢ i → bit_at (flip_when t i k) j ≡ bit_at k j
flip_when_other true i k j h = bit_at_flip_other k i j h
flip_when_other false i k j h = refl

flip_when_none : (x y : Bool) (i : ℕ) (k : Key) → x ≡ y → flip_when (x ⊕ y) i k ≡ k
flip_when_none true y i k e = ap (λ (z : Bool). flip_when (true ⊕ z) i k) (sym e)
flip_when_none false y i k e = ap (λ (z : Bool). flip_when (false ⊕ z) i k) (sym e)

-- ---- the four flips

-- what a flip keeps, they keep
pub moved_keeps : (P : Key → Type 0) → ((t : Bool) (i : ℕ) (l : Key) → P l → P (flip_when t i l))
    → (s t : B.Bits) (w a b : ℕ) (k : Key) → P k → P (moved s t w a b k)
moved_keeps P step s t w a b k h =
    let k₁ = flip_when (s.xa ⊕ t.xa) a k in
    let k₂ = flip_when (s.za ⊕ t.za) (z_at w a) k₁ in
    let k₃ = flip_when (s.xb ⊕ t.xb) b k₂ in
    step (s.zb ⊕ t.zb) (z_at w b) k₃
    (step (s.xb ⊕ t.xb) b k₂ (step (s.za ⊕ t.za) (z_at w a) k₁ (step (s.xa ⊕ t.xa) a k h)))

-- with no change at b, the two flips at a are all
pub moved_first : (s t : B.Bits) (w a b : ℕ) (k : Key) → s.xb ≡ t.xb → s.zb ≡ t.zb
    → moved s t w a b k ≡ flip_when (s.za ⊕ t.za) (z_at w a) (flip_when (s.xa ⊕ t.xa) a k)
moved_first s t w a b k p q =
    let k₂ = flip_when (s.za ⊕ t.za) (z_at w a) (flip_when (s.xa ⊕ t.xa) a k) in
    flip_when_none s.zb t.zb (z_at w b) (flip_when (s.xb ⊕ t.xb) b k₂) q ∙ flip_when_none s.xb t.xb b k₂ p

moved_none : (s : B.Bits) (w a b : ℕ) (k : Key) → moved s s w a b k ≡ k
moved_none s w a b k =
    moved_first s s w a b k refl refl
    ∙ flip_when_none s.za s.za (z_at w a) (flip_when (s.xa ⊕ s.xa) a k) refl
    ∙ flip_when_none s.xa s.xa a k refl

-- every bit that is none of the four
pub moved_other : (s t : B.Bits) (w a b : ℕ) (k : Key) (j : ℕ) → j ≢ a → j ≢ z_at w a → j ≢ b → j ≢ z_at w b → bit_at (moved s t w a b k) j ≡ bit_at k j
moved_other s t w a b k j p q u v =
    let k₁ = flip_when (s.xa ⊕ t.xa) a k in
    let k₂ = flip_when (s.za ⊕ t.za) (z_at w a) k₁ in
    flip_when_other (s.zb ⊕ t.zb) (z_at w b) (flip_when (s.xb ⊕ t.xb) b k₂) j v
    ∙ flip_when_other (s.xb ⊕ t.xb) b k₂ j u
    ∙ flip_when_other (s.za ⊕ t.za) (z_at w a) k₁ j q
    ∙ flip_when_other (s.xa ⊕ t.xa) a k j p

-- ---- the two flips at a qubit

abbrev pub changed : ℕ → ℕ → Bool → Bool → Key → Key
changed w q x z k = flip_when z (z_at w q) (flip_when x q k)

module _ (w q : ℕ) (x z : Bool) (k : Key) where
  pub changed_length : length (changed w q x z k) ≡ length k
  changed_length = flip_when_length z (z_at w q) (flip_when x q k) ∙ flip_when_length x q k

  -- the bits at another qubit
  pub changed_x : (r : ℕ) → r < 64 * w → r ≢ q → bit_at (changed w q x z k) r ≡ bit_at k r
  changed_x r h n = flip_when_other z (z_at w q) (flip_when x q k) r (λ e. omega arith) ∙ flip_when_other x q k r n

  pub changed_z : (r : ℕ) → q < 64 * w → r ≢ q → bit_at (changed w q x z k) (z_at w r) ≡ bit_at k (z_at w r)
  changed_z r h n = flip_when_other z (z_at w q) (flip_when x q k) (z_at w r) (λ e. n (omega arith)) ∙ flip_when_other x q k (z_at w r) (λ e. omega arith)

  -- those at this one
  module _ (h : q < 64 * w) (long : length k ≡ 2 * w) where
    pub own_x : bit_at (changed w q x z k) q ≡ bit_at k q ⊕ x
    own_x = flip_when_other z (z_at w q) (flip_when x q k) q (λ e. omega arith) ∙ flip_when_same x q k (omega arith)

    pub own_z : bit_at (changed w q x z k) (z_at w q) ≡ bit_at k (z_at w q) ⊕ z
    own_z =
        flip_when_same z (z_at w q) (flip_when x q k) (omega (arith, flip_when_length x q k))
        ∙ ap (λ (b : Bool). b ⊕ z) (flip_when_other x q k (z_at w q) (λ e. omega arith))

module _ (s t : B.Bits) (w a b : ℕ) (k : Key) (ha : a < 64 * w) (hb : b < 64 * w) (ne : a ≢ b) (long : length k ≡ 2 * w) where
  abbrev first : Key
  first = changed w a (s.xa ⊕ t.xa) (s.za ⊕ t.za) k

  longer : length first ≡ 2 * w
  longer = changed_length w a (s.xa ⊕ t.xa) (s.za ⊕ t.za) k ∙ long

  moved_xa : bit_at (moved s t w a b k) a ≡ bit_at k a ⊕ (s.xa ⊕ t.xa)
  moved_xa = changed_x w b (s.xb ⊕ t.xb) (s.zb ⊕ t.zb) first a ha ne ∙ own_x w a (s.xa ⊕ t.xa) (s.za ⊕ t.za) k ha long

  moved_za : bit_at (moved s t w a b k) (z_at w a) ≡ bit_at k (z_at w a) ⊕ (s.za ⊕ t.za)
  moved_za = changed_z w b (s.xb ⊕ t.xb) (s.zb ⊕ t.zb) first a hb ne ∙ own_z w a (s.xa ⊕ t.xa) (s.za ⊕ t.za) k ha long

  moved_xb : bit_at (moved s t w a b k) b ≡ bit_at k b ⊕ (s.xb ⊕ t.xb)
  moved_xb =
      own_x w b (s.xb ⊕ t.xb) (s.zb ⊕ t.zb) first hb longer
      ∙ ap (λ (x : Bool). x ⊕ (s.xb ⊕ t.xb)) (changed_x w a (s.xa ⊕ t.xa) (s.za ⊕ t.za) k b hb (λ e. ne (sym e)))

  moved_zb : bit_at (moved s t w a b k) (z_at w b) ≡ bit_at k (z_at w b) ⊕ (s.zb ⊕ t.zb)
  moved_zb =
      own_z w b (s.xb ⊕ t.xb) (s.zb ⊕ t.zb) first hb longer
      ∙ ap (λ (x : Bool). x ⊕ (s.zb ⊕ t.zb)) (changed_z w a (s.xa ⊕ t.xa) (s.za ⊕ t.za) k b ha (λ e. ne (sym e)))

-- ---- a gate on a key

-- which of the bits at its targets a gate flips
abbrev flips : Gate → B.Bits → B.Bits
flips H s = mk (s.xa ⊕ s.za) (s.xa ⊕ s.za) false false
flips S s = mk false s.xa false false
flips Sdg s = mk false s.xa false false
flips Sx s = mk s.za false false false
flips Sxdg s = mk s.za false false false
flips Cx s = mk false s.zb s.xa false
flips Cz s = mk false s.xb false s.xa
flips Swap s = mk (s.xa ⊕ s.xb) (s.za ⊕ s.zb) (s.xa ⊕ s.xb) (s.za ⊕ s.zb)
flips Id s = mk false false false false
flips X s = mk false false false false
flips Y s = mk false false false false
flips Z s = mk false false false false

abbrev differing : B.Bits → B.Bits → B.Bits
differing s t = mk (s.xa ⊕ t.xa) (s.za ⊕ t.za) (s.xb ⊕ t.xb) (s.zb ⊕ t.zb)

differing_flips : (g : Gate) (s : B.Bits) → differing s (conj_bits g s) ≡ flips g s
differing_flips g s = same→eq (differing s (conj_bits g s)) (flips g s) (at_each (λ g s. same (differing s (conj_bits g s)) (flips g s)) tt g s)

abbrev flipped : B.Bits → ℕ → ℕ → ℕ → Key → Key
flipped f w a b k = flip_when f.zb (z_at w b) (flip_when f.xb b (flip_when f.za (z_at w a) (flip_when f.xa a k)))

-- those flips make `conj_key`: in the arm of the gate h, the ones that it needs
pub conj_key_flips : (w a b : ℕ) (k : Key) {l : Key} {g h : Gate} → g ≡ h → l ≡ flipped (flips h (bits_at w a b k)) w a b k → l ≡ conj_key g w a b k
unfolding conj_key
conj_key_flips w a b k {l} {g} {h} e f =
    let s = bits_at w a b k in
    f ∙ ap (λ (x : Gate). flipped (flips x s) w a b k) (sym e) ∙ ap (λ (d : B.Bits). flipped d w a b k) (sym (differing_flips g s))

pub conj_key_flipped : (g : Gate) (w a b : ℕ) (k : Key) → conj_key g w a b k ≡ flipped (flips g (bits_at w a b k)) w a b k
conj_key_flipped g w a b k = sym (conj_key_flips w a b k {g = g} refl refl)

module _ (g : Gate) (w a b : ℕ) (k : Key) where
  pub conj_key_length : length (conj_key g w a b k) ≡ length k
  unfolding conj_key
  conj_key_length =
      moved_keeps (λ l. length l ≡ length k) (λ t i l e. flip_when_length t i l ∙ e) (bits_at w a b k) (conj_bits g (bits_at w a b k)) w a b k refl

  pub conj_key_words : Words k → Words (conj_key g w a b k)
  unfolding conj_key
  conj_key_words h = moved_keeps Words flip_when_words (bits_at w a b k) (conj_bits g (bits_at w a b k)) w a b k h

  pub conj_key_other : (j : ℕ) → j ≢ a → j ≢ z_at w a → j ≢ b → j ≢ z_at w b → bit_at (conj_key g w a b k) j ≡ bit_at k j
  unfolding conj_key
  conj_key_other = moved_other (bits_at w a b k) (conj_bits g (bits_at w a b k)) w a b k

  module _ (ha : a < 64 * w) (hb : b < 64 * w) (ne : a ≢ b) (long : length k ≡ 2 * w) where
    pub conj_key_bits : bits_at w a b (conj_key g w a b k) ≡ conj_bits g (bits_at w a b k)
    unfolding conj_key
    conj_key_bits =
        let s = bits_at w a b k in
        let t = conj_bits g s in
        ap₂ (λ (x z : Bool). mk x z (bit_at (moved s t w a b k) b) (bit_at (moved s t w a b k) (z_at w b)))
        (moved_xa s t w a b k ha hb ne long ∙ xor_back s.xa t.xa) (moved_za s t w a b k ha hb ne long ∙ xor_back s.za t.za)
        ∙ ap₂ (λ (x z : Bool). mk t.xa t.za x z)
        (moved_xb s t w a b k ha hb ne long ∙ xor_back s.xb t.xb) (moved_zb s t w a b k ha hb ne long ∙ xor_back s.zb t.zb)

-- ---- a gate that meets identities only

or_false : (a b : Bool) → a ≡ false → T (a || b) → T b
or_false a b e t = subst (λ (x : Bool). T (x || b)) e t

abbrev stays : Gate → B.Bits → Bool
stays g s = same (conj_bits g s) s && eqb (conj_phase g s) 0

unmet : (g : Gate) (s : B.Bits) → meets g s ≡ false → T (stays g s)
unmet g s h = or_false (meets g s) (stays g s) h (at_each (λ g s. meets g s || stays g s) tt g s)

pub unmet_phase : (g : Gate) (s : B.Bits) → meets g s ≡ false → conj_phase g s ≡ 0
unmet_phase g s h = eqb→eq _ _ (and_snd (same (conj_bits g s) s) (eqb (conj_phase g s) 0) (unmet g s h))

pub unmet_key : (g : Gate) (w a b : ℕ) (k : Key) → meets g (bits_at w a b k) ≡ false → conj_key g w a b k ≡ k
unfolding conj_key
unmet_key g w a b k h =
    let s = bits_at w a b k in
    let e : conj_bits g s ≡ s = same→eq _ _ (and_fst (same (conj_bits g s) s) (eqb (conj_phase g s) 0) (unmet g s h)) in
    ap (λ (t : B.Bits). moved s t w a b k) e ∙ moved_none s w a b k

-- ---- a gate with one target: its result at a does not turn on the bits at b, and those stay

abbrev at_first : B.Bits → B.Bits
at_first s = mk s.xa s.za false false

abbrev result_at_first : Gate → B.Bits → B.Bits
result_at_first g s = let t = conj_bits g (at_first s) in mk t.xa t.za s.xb s.zb

abbrev is_alone : Gate → B.Bits → Bool
is_alone g s = same (conj_bits g s) (result_at_first g s) && eqb (conj_phase g s) (conj_phase g (at_first s))

alone : (g : Gate) (s : B.Bits) → has_two_targets g ≡ false → T (is_alone g s)
alone g s h = or_false (has_two_targets g) (is_alone g s) h (at_each (λ g s. has_two_targets g || is_alone g s) tt g s)

module _ (g : Gate) (w a b c : ℕ) (k : Key) (one : has_two_targets g ≡ false) where
  at_b : (b : ℕ) → conj_key g w a b k
      ≡ flip_when (bit_at k (z_at w a) ⊕ (conj_bits g (at_first (bits_at w a b k))).za) (z_at w a)
      (flip_when (bit_at k a ⊕ (conj_bits g (at_first (bits_at w a b k))).xa) a k)
  unfolding conj_key
  at_b b =
      let s = bits_at w a b k in
      ap (λ (t : B.Bits). moved s t w a b k) (same→eq _ _ (and_fst (same (conj_bits g s) (result_at_first g s)) _ (alone g s one)))
      ∙ moved_first s (result_at_first g s) w a b k refl refl

  pub one_target_key : conj_key g w a b k ≡ conj_key g w a c k
  one_target_key = at_b b ∙ sym (at_b c)

  pub one_target_phase : conj_phase g (bits_at w a b k) ≡ conj_phase g (bits_at w a c k)
  one_target_phase = turns b ∙ sym (turns c)
    where
      turns : (b : ℕ) → conj_phase g (bits_at w a b k) ≡ conj_phase g (at_first (bits_at w a b k))
      turns b = let s = bits_at w a b k in eqb→eq _ _ (and_snd (same (conj_bits g s) (result_at_first g s)) _ (alone g s one))

-- a gate without a phase
pub no_phase : (g : Gate) (s : B.Bits) → has_phase g ≡ false → conj_phase g s ≡ 0
no_phase Cx s e = refl
no_phase H s e = absurd (false≢true (sym e))
no_phase S s e = absurd (false≢true (sym e))
no_phase Sdg s e = absurd (false≢true (sym e))
no_phase Sx s e = absurd (false≢true (sym e))
no_phase Sxdg s e = absurd (false≢true (sym e))
no_phase Cz s e = absurd (false≢true (sym e))
no_phase Swap s e = refl
no_phase Id s e = refl
no_phase X s e = absurd (false≢true (sym e))
no_phase Y s e = absurd (false≢true (sym e))
no_phase Z s e = absurd (false≢true (sym e))
