-- A gate on a word of any width is Aaronson and Gottesman's row update. Assumes nothing.
use Prim.Native.Nat.{ℕ, ◌+◌, ◌*◌, ◌%◌, ◌<◌}
use mathlib.Core.Path.{◌≡◌, refl, sym, ap, ap₂, ◌∙◌, subst}
use mathlib.Core.Bool.{Bool, true, false, ◌&&◌, ◌||◌, beq}
use mathlib.Core.Logic.{◌≢◌}
use native.Mathlib.Omega.{arith}
use native.Mathlib.Decide.{ℕ_discrete}
use lib.Dec.{T, eqb, eqb→eq}
use lib.ListN.{length}
use Rattle.words.specs.Keys.{Key, ◌⊕◌, bit_at, z_at}
use Rattle.words.specs.declared.Bits as B
use Rattle.words.specs.declared.Gate.{Gate}
use Rattle.words.specs.Gates.{has_two_targets, conj_bits, conj_phase, bits_at, conj_key}
use Rattle.words.specs.Letters.{ys_of}
use Rattle.words.specs.Tableau.{Signed, published, ys, half}
use Rattle.words.proofs.EveryGate as E
use Rattle.words.proofs.GateLaws.{changed, changed_x, changed_z, own_x, own_z, xor_back, moved_first, conj_key_bits, conj_key_other}
use Rattle.heisenberg.specs.TableauRow.{put, TableauOfAnyWidth}
use Rattle.heisenberg.proofs.CountLaws.{put_same, put_other, put_own, one, ys_but, ys_two}

-- ---- at the targets: tests over gates, bits and signs

abbrev result : Gate → B.Bits → Bool → Signed
result g s r = published g (record { bits = s; r = r })

same_bits : (g : Gate) (s : B.Bits) (r : Bool) → conj_bits g s ≡ (result g s r).bits
same_bits g s true = E.same→eq _ _ (E.at_each (λ g s. E.same (conj_bits g s) (result g s true).bits) tt g s)
same_bits g s false = E.same→eq _ _ (E.at_each (λ g s. E.same (conj_bits g s) (result g s false).bits) tt g s)

abbrev turned : Bool → Gate → B.Bits → Bool
turned r g s = eqb ((half (result g s r).r + ys (conj_bits g s)) % 4) ((half r + ys s + conj_phase g s) % 4)

same_turns : (g : Gate) (s : B.Bits) (r : Bool) → (half (result g s r).r + ys (conj_bits g s)) % 4 ≡ (half r + ys s + conj_phase g s) % 4
same_turns g s true = eqb→eq _ _ (E.at_each (turned true) tt g s)
same_turns g s false = eqb→eq _ _ (E.at_each (turned false) tt g s)

-- with one target, the bits at the second stay
abbrev kept : Gate → B.Bits → Bool
kept g s = beq s.xb (conj_bits g s).xb && beq s.zb (conj_bits g s).zb

stays : (g : Gate) (s : B.Bits) → has_two_targets g ≡ false → (s.xb ≡ (conj_bits g s).xb) × (s.zb ≡ (conj_bits g s).zb)
stays g s e =
    let h : T (kept g s) = subst (λ (o : Bool). T (o || kept g s)) e (E.at_each (λ g s. has_two_targets g || kept g s) tt g s) in
    (E.beq→eq _ _ (E.and_fst (beq s.xb (conj_bits g s).xb) _ h), E.beq→eq _ _ (E.and_snd (beq s.xb (conj_bits g s).xb) _ h))

-- ---- bits that change at the targets only

module _ (n a b : ℕ) (u v : Bool) (f g : ℕ → Bool) (at_a : g a ≡ u) where
  put_one : v ≡ f b → ((q : ℕ) → q < n → q ≢ a → g q ≡ f q) → (q : ℕ) → q < n → g q ≡ put a u (put b v f) q
  put_one e else q i = go (ℕ_discrete q a)
    where
      go : Dec (q ≡ a) → g q ≡ put a u (put b v f) q
      go (yes m) = ap g m ∙ at_a ∙ sym (put_same a u (put b v f) q m)
      go (no m) = else q i m ∙ sym (put_other a u (put b v f) q m ∙ put_own b v f e q)

  put_two : g b ≡ v → ((q : ℕ) → q < n → q ≢ a → q ≢ b → g q ≡ f q) → (q : ℕ) → q < n → g q ≡ put a u (put b v f) q
  put_two at_b else q i = go (ℕ_discrete q a) (ℕ_discrete q b)
    where
      go : Dec (q ≡ a) → Dec (q ≡ b) → g q ≡ put a u (put b v f) q
      go (yes m) d = ap g m ∙ at_a ∙ sym (put_same a u (put b v f) q m)
      go (no m) (yes e) = ap g e ∙ at_b ∙ sym (put_other a u (put b v f) q m ∙ put_same b v f q e)
      go (no m) (no e) = else q i m e ∙ sym (put_other a u (put b v f) q m ∙ put_other b v f q e)

-- ---- a gate on a word

module _ (g : Gate) (w a b : ℕ) (k : Key) (ha : a < 64 * w) (long : length k ≡ 2 * w) where
  abbrev s : B.Bits
  s = bits_at w a b k

  abbrev t : B.Bits
  t = conj_bits g s

  abbrev l : Key
  l = conj_key g w a b k

  -- what it does, in the bits of the definition
  record Moves : Type 0 where
    pub xs : (q : ℕ) → q < 64 * w → bit_at l q ≡ put a t.xa (put b t.xb (bit_at k)) q
    pub zs : (q : ℕ) → q < 64 * w → bit_at l (z_at w q) ≡ put a t.za (put b t.zb (λ q. bit_at k (z_at w q))) q
    pub letters : ys_of w l + ys s ≡ ys_of w k + ys t

  module _ (e : has_two_targets g ≡ false) where
    alone : l ≡ changed w a (s.xa ⊕ t.xa) (s.za ⊕ t.za) k
    unfolding conj_key
    alone = moved_first s t w a b k (stays g s e).0 (stays g s e).1

    one_xa : bit_at l a ≡ t.xa
    one_xa = ap (λ (m : Key). bit_at m a) alone ∙ own_x w a (s.xa ⊕ t.xa) (s.za ⊕ t.za) k ha long ∙ xor_back s.xa t.xa

    one_za : bit_at l (z_at w a) ≡ t.za
    one_za = ap (λ (m : Key). bit_at m (z_at w a)) alone ∙ own_z w a (s.xa ⊕ t.xa) (s.za ⊕ t.za) k ha long ∙ xor_back s.za t.za

    one_x : (q : ℕ) → q < 64 * w → q ≢ a → bit_at l q ≡ bit_at k q
    one_x q i n = ap (λ (m : Key). bit_at m q) alone ∙ changed_x w a (s.xa ⊕ t.xa) (s.za ⊕ t.za) k q i n

    one_z : (q : ℕ) → q < 64 * w → q ≢ a → bit_at l (z_at w q) ≡ bit_at k (z_at w q)
    one_z q i n = ap (λ (m : Key). bit_at m (z_at w q)) alone ∙ changed_z w a (s.xa ⊕ t.xa) (s.za ⊕ t.za) k q ha n

    moves_one : Moves
    moves_one = record {
      xs = put_one (64 * w) a b t.xa t.xb (bit_at k) (bit_at l) one_xa (sym (stays g s e).0) one_x;
      zs = put_one (64 * w) a b t.za t.zb (λ q. bit_at k (z_at w q)) (λ q. bit_at l (z_at w q)) one_za (sym (stays g s e).1) one_z;
      letters = omega (
        arith,
        ys_but w (64 * w) k l a ha (λ q i n. sym (ap₂ ◌&&◌ (one_x q i n) (one_z q i n))),
        ap₂ (λ (x z : Bool). one (x && z)) one_xa one_za,
        ap₂ (λ (x z : Bool). one (x && z)) (stays g s e).0 (stays g s e).1,
      );
    }

  module _ (hb : b < 64 * w) (ne : a ≢ b) where
    both : bits_at w a b l ≡ t
    both = conj_key_bits g w a b k ha hb ne long

    two_x : (q : ℕ) → q < 64 * w → q ≢ a → q ≢ b → bit_at l q ≡ bit_at k q
    two_x q i m n = conj_key_other g w a b k q m (λ e. omega arith) n (λ e. omega arith)

    two_z : (q : ℕ) → q < 64 * w → q ≢ a → q ≢ b → bit_at l (z_at w q) ≡ bit_at k (z_at w q)
    two_z q i m n = conj_key_other g w a b k (z_at w q) (λ e. omega arith) (λ e. m (omega arith)) (λ e. omega arith) (λ e. n (omega arith))

    moves_two : Moves
    moves_two = record {
      xs = put_two (64 * w) a b t.xa t.xb (bit_at k) (bit_at l) (ap (λ (u : B.Bits). u.xa) both) (ap (λ (u : B.Bits). u.xb) both) two_x;
      zs = put_two (64 * w) a b t.za t.zb (λ q. bit_at k (z_at w q)) (λ q. bit_at l (z_at w q)) (ap (λ (u : B.Bits). u.za) both) (ap (λ (u : B.Bits). u.zb) both) two_z;
      letters = omega (arith, ys_two w (64 * w) k l a b ha hb ne (λ q i m n. sym (ap₂ ◌&&◌ (two_x q i m n) (two_z q i m n))), ap ys both);
    }

  moves : (has_two_targets g ≡ true → (b < 64 * w) × (a ≢ b)) → Moves
  moves two = go (has_two_targets g) refl
    where
      go : (o : Bool) → has_two_targets g ≡ o → Moves
      go true e = moves_two (two e).0 (two e).1
      go false e = moves_one e

pub tableau_of_any_width : TableauOfAnyWidth
tableau_of_any_width g w a b k at long r =
    let s = bits_at w a b k in
    let m = moves g w a b k at.first long at.second in
    let e = same_bits g s r in
    record {
      xs = λ q i. m.xs q i ∙ ap (λ (t : B.Bits). put a t.xa (put b t.xb (bit_at k)) q) e;
      zs = λ q i. m.zs q i ∙ ap (λ (t : B.Bits). put a t.za (put b t.zb (λ q. bit_at k (z_at w q))) q) e;
      turns = omega (arith, m.letters, same_turns g s r);
    }
