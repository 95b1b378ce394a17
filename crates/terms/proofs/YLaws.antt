-- The parity of the Y letters of a word: what a gate, the flip of a rotation and the identity branch of a channel do to it. Assumes nothing.
use Prim.Native.Nat.{ℕ, zero, suc, ◌+◌, ◌*◌, ◌%◌, ◌<◌}
use mathlib.Core.Path.{◌≡◌, refl, sym, ap, ap₂, ◌∙◌, subst, subst₂}
use mathlib.Core.Bool.{Bool, true, false, not, cond, ◌&&◌, ◌||◌, false≢true}
use mathlib.Core.Logic.{◌≢◌}
use native.Mathlib.Nat.{not-suc-le-zero}
use native.Mathlib.Omega.{arith}
use native.Mathlib.Numerals.{add-one}
use native.Mathlib.Decide.{ℕ_discrete}
use lib.Dec.{T, ltb, eqb, eqb→eq}
use borrow.Author.Tests.{ltb-true, eqb-true, eqb-false, not-true}
use lib.ListN.{length}
use Rattle.words.specs.Keys.{Key, ◌⊕◌, bit_at, flip_at, z_at}
use Rattle.words.specs.declared.Bits as B
use Rattle.words.specs.declared.Gate.{Gate}
use Rattle.words.specs.Gates.{has_two_targets, mk, conj_bits, conj_phase, bits_at, moved, conj_key, Targets}
use Rattle.words.proofs.EveryGate as E
use Rattle.words.proofs.KeyLaws.{flip_at_length, bit_at_flip_other}
use Rattle.words.proofs.GateLaws.{changed, changed_length, changed_x, changed_z, own_x, own_z, xor_back, moved_first}
use Rattle.terms.proofs.CaseLaws.{and_true}
use Rattle.terms.specs.declared.Axis.{Axis}
use Rattle.terms.specs.declared.Axis.TheVariants.{Z, Zz}
use Rattle.words.specs.Letters.{count_y, ys_of, is_odd}
use Rattle.terms.specs.Term.{odd_y}
use Rattle.terms.specs.Rotation.{met_by, partner_by, on_key}

-- ---- odd and even

pub odd_same : (m n : ℕ) → m % 2 ≡ n % 2 → is_odd m ≡ is_odd n
odd_same m n e = ap (λ (r : ℕ). eqb r 1) e

pub odd_suc : (n : ℕ) → is_odd (suc n) ≡ not (is_odd n)
odd_suc n = go (is_odd n) refl
  where
    go : (b : Bool) → is_odd n ≡ b → is_odd (suc n) ≡ not b
    go true e = odd_same (suc n) 0 (omega (arith, eqb-true (n % 2) 1 e))
    go false e = odd_same (suc n) 1 (omega (arith, eqb-false (n % 2) 1 e))

-- ---- the number of Y letters

abbrev has_y : ℕ → Key → ℕ → Bool
has_y w k q = bit_at k q && bit_at k (z_at w q)

abbrev one : Bool → ℕ
one b = cond b 1 0

module _ (w : ℕ) (k l : Key) where
  same_ys : (n : ℕ) → ((q : ℕ) → q < n → has_y w k q ≡ has_y w l q) → count_y w n k ≡ count_y w n l
  unfolding count_y
  same_ys zero h = refl
  same_ys (suc n) h = ap₂ (λ (y : Bool) (m : ℕ). one y + m) (h n (omega arith)) (same_ys n (λ q i. h q (omega arith)))

  -- two words that differ at the qubit a only
  ys_but : (n a : ℕ) → a < n → ((q : ℕ) → q < n → q ≢ a → has_y w k q ≡ has_y w l q) → count_y w n l + one (has_y w k a) ≡ count_y w n k + one (has_y w l a)
  unfolding count_y
  ys_but zero a h f = absurd (not-suc-le-zero h)
  ys_but (suc n) a h f = go (ℕ_discrete n a) (λ i. ys_but n a i (λ q j. f q (omega arith)))
    where
      go : Dec (n ≡ a) → (a < n → count_y w n l + one (has_y w k a) ≡ count_y w n k + one (has_y w l a))
          → one (has_y w l n) + count_y w n l + one (has_y w k a) ≡ one (has_y w k n) + count_y w n k + one (has_y w l a)
      go (yes e) below = let m = same_ys n (λ q i. f q (omega arith) (λ z. omega arith)) in rw (← e) (omega arith)
      go (no d) below =
          let m = below (omega arith) in
          let s = ap one (f n (omega arith) d) in
          omega arith

-- ---- the bits at a qubit changed

module _ (w q : ℕ) (x z : Bool) (k : Key) where
  -- the letter there before and after, from the bits u and v
  changed_ys : {u v : Bool} → q < 64 * w → length k ≡ 2 * w → bit_at k q ≡ u → bit_at k (z_at w q) ≡ v
      → ys_of w (changed w q x z k) + one (u && v) ≡ ys_of w k + one ((u ⊕ x) && (v ⊕ z))
  changed_ys h long eu ev =
      subst₂ (λ (u v : Bool). ys_of w (changed w q x z k) + one (u && v) ≡ ys_of w k + one ((u ⊕ x) && (v ⊕ z))) eu ev
      (ys_but w k (changed w q x z k) (64 * w) q h (λ r i n. sym (ap₂ ◌&&◌ (changed_x w q x z k r i n) (changed_z w q x z k r h n)))
      ∙ ap (λ (y : Bool). ys_of w k + one y)
      (ap₂ ◌&&◌ (own_x w q x z k h long) (own_z w q x z k h long)))

-- ---- a gate

abbrev ys_at : B.Bits → ℕ
ys_at s = one (s.xa && s.za) + one (s.xb && s.zb)

-- the quarter turns and the Y letters at the targets, before and after
turns : (g : Gate) (s : B.Bits) → (ys_at s + ys_at (conj_bits g s)) % 2 ≡ conj_phase g s % 2
turns g s = eqb→eq _ _ (E.at_each (λ g s. eqb ((ys_at s + ys_at (conj_bits g s)) % 2) (conj_phase g s % 2)) tt g s)

-- with one target, the bits at the second stay
abbrev stayed : Gate → B.Bits → B.Bits
stayed g s = mk (conj_bits g s).xa (conj_bits g s).za s.xb s.zb

stays : (g : Gate) (s : B.Bits) → has_two_targets g ≡ false → stayed g s ≡ conj_bits g s
stays g s e =
    let test : Gate → B.Bits → Bool = λ g s. E.same (stayed g s) (conj_bits g s) in
    E.same→eq (stayed g s) (conj_bits g s) (subst (λ (o : Bool). T (o || test g s)) e (E.at_each (λ g s. has_two_targets g || test g s) tt g s))

module _ (g : Gate) (w a b : ℕ) (k : Key) (at : Targets g w a b) (long : length k ≡ 2 * w) where
  abbrev s : B.Bits
  s = bits_at w a b k

  abbrev t : B.Bits
  t = conj_bits g s

  -- the key with the bits at the first target as they become
  abbrev half : Key
  half = changed w a (s.xa ⊕ t.xa) (s.za ⊕ t.za) k

  at_first : ys_of w half + one (s.xa && s.za) ≡ ys_of w k + one (t.xa && t.za)
  at_first =
      changed_ys w a (s.xa ⊕ t.xa) (s.za ⊕ t.za) k at.first long refl refl
      ∙ ap₂ (λ (x z : Bool). ys_of w k + one (x && z)) (xor_back s.xa t.xa) (xor_back s.za t.za)

  at_second : has_two_targets g ≡ true → ys_of w (moved s t w a b k) + one (s.xb && s.zb) ≡ ys_of w half + one (t.xb && t.zb)
  at_second e =
      let i = (at.second e).0 in
      let n : b ≢ a = λ m. (at.second e).1 (sym m) in
      let x = s.xa ⊕ t.xa in
      let z = s.za ⊕ t.za in
      changed_ys w b (s.xb ⊕ t.xb) (s.zb ⊕ t.zb) half i (changed_length w a x z k ∙ long) (changed_x w a x z k b i n) (changed_z w a x z k b at.first n)
      ∙ ap₂ (λ (x z : Bool). ys_of w half + one (x && z)) (xor_back s.xb t.xb) (xor_back s.zb t.zb)

  pub conjugated_ys : ys_of w (conj_key g w a b k) % 2 ≡ (ys_of w k + conj_phase g s) % 2
  unfolding conj_key
  conjugated_ys = go (has_two_targets g) refl
    where
      go : (o : Bool) → has_two_targets g ≡ o → ys_of w (moved s t w a b k) % 2 ≡ (ys_of w k + conj_phase g s) % 2
      go true e = omega (arith, at_first, at_second e, turns g s)
      go false e =
          let x = ap (λ (u : B.Bits). u.xb) (stays g s e) in
          let z = ap (λ (u : B.Bits). u.zb) (stays g s e) in
          let y : one (s.xb && s.zb) ≡ one (t.xb && t.zb) = ap₂ (λ (x z : Bool). one (x && z)) x z in
          omega (arith, at_first, ap (ys_of w) (moved_first s t w a b k x z), turns g s)

module _ (w : ℕ) where
  pub on_both : (a b : ℕ) → on_key w (Zz a b) ≡ true → (a < 64 * w) × ((b < 64 * w) × (a ≢ b))
  on_both a b on =
      let p = and_true (ltb a (64 * w)) _ on in
      let q = and_true (ltb b (64 * w)) _ p.1 in
      (ltb-true a (64 * w) p.0, (ltb-true b (64 * w) q.0, eqb-false a b (not-true (eqb a b) q.1)))

  flip_z_ys : (q : ℕ) (k : Key) {u : Bool} → q < 64 * w → length k ≡ 2 * w → bit_at k q ≡ u → ys_of w (flip_at k (z_at w q)) % 2 ≡ (ys_of w k + one u) % 2
  flip_z_ys q k {u} h long e = go u (bit_at k (z_at w q)) (changed_ys w q false true k h long e refl)
    where
      go : (u v : Bool) → ys_of w (flip_at k (z_at w q)) + one (u && v) ≡ ys_of w k + one ((u ⊕ false) && (v ⊕ true)) → ys_of w (flip_at k (z_at w q)) % 2 ≡ (ys_of w k + one u) % 2
      go true true s = omega arith
      go true false s = omega arith
      go false true s = omega arith
      go false false s = omega arith

  -- flips of z at two qubits, x being set at exactly one
  two_flips : (m n r : ℕ) (u v : Bool) → (u ⊕ v) ≡ true → n % 2 ≡ (m + one u) % 2 → r % 2 ≡ (n + one v) % 2 → m % 2 ≡ (r + 1) % 2
  two_flips m n r true true e p q = absurd (false≢true e)
  two_flips m n r true false e p q = omega arith
  two_flips m n r false true e p q = omega arith
  two_flips m n r false false e p q = absurd (false≢true e)

  pub partner_ys : (axis : Axis) → on_key w axis ≡ true → (k : Key) → length k ≡ 2 * w → met_by axis k ≡ true → ys_of w k % 2 ≡ (ys_of w (partner_by w axis k) + 1) % 2
  unfolding met_by partner_by
  partner_ys (Z q) on k long e = omega (arith, flip_z_ys q k (ltb-true q (64 * w) on) long e)
  partner_ys (Zz a b) on k long e =
      let h = on_both a b on in
      let l = flip_at k (z_at w a) in
      two_flips (ys_of w k) (ys_of w l) (ys_of w (flip_at l (z_at w b))) (bit_at k a) (bit_at k b) e (flip_z_ys a k h.0 long refl)
      (flip_z_ys b l h.1.0 (flip_at_length k (z_at w a) ∙ long) (bit_at_flip_other k (z_at w a) b (λ z. omega arith)))

  -- a partner has the other parity
  pub partner_odd : (axis : Axis) → on_key w axis ≡ true → (k : Key) → length k ≡ 2 * w → met_by axis k ≡ true → odd_y w (partner_by w axis k) ≡ not (odd_y w k)
  partner_odd axis on k long e =
      let p = ys_of w (partner_by w axis k) in
      let back : odd_y w k ≡ not (is_odd p) = odd_same (ys_of w k) (suc p) (partner_ys axis on k long e ∙ ap (λ (n : ℕ). n % 2) (add-one p)) ∙ odd_suc p in
      sym (ap not back ∙ twice (is_odd p))
    where
      twice : (b : Bool) → not (not b) ≡ b
      twice true = refl
      twice false = refl

  -- z flipped where x is clear
  pub no_y_ys : (q : ℕ) (k : Key) → bit_at k q ≡ false → ys_of w (flip_at k (z_at w q)) ≡ ys_of w k
  no_y_ys q k e = same_ys w (flip_at k (z_at w q)) k (64 * w) (λ r i. go r i (ℕ_discrete r q))
    where
      go : (r : ℕ) → r < 64 * w → Dec (r ≡ q) → has_y w (flip_at k (z_at w q)) r ≡ has_y w k r
      go r i (yes m) =
          let x : bit_at k r ≡ false = ap (bit_at k) m ∙ e in
          ap (λ (b : Bool). b && bit_at (flip_at k (z_at w q)) (z_at w r)) (bit_at_flip_other k (z_at w q) r (λ z. omega arith) ∙ x) ∙ ap (λ (b : Bool). b && bit_at k (z_at w r)) (sym x)
      go r i (no n) = ap₂ ◌&&◌ (bit_at_flip_other k (z_at w q) r (λ z. omega arith)) (bit_at_flip_other k (z_at w q) (z_at w r) (λ z. n (omega arith)))
