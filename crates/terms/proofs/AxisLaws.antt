-- Two flips commute; the partner of a word about an axis is of the width, another word, and met alike; the rotation in place is that from the old values. Assumes nothing.
use mathlib.Core.Path.{◌≡◌, refl, sym, ap, ap₂, ◌∙◌, subst}
use mathlib.Core.Bool.{Bool, true, false, not, cond, true≢false, false≢true}
use mathlib.Core.Logic.{◌≢◌}
use mathlib.Core.List.{List}
use Prim.Native.Nat.{ℕ, ◌+◌, ◌-◌, ◌*◌, ◌/◌, ◌%◌, ◌^◌, ◌≤◌, ◌<◌}
use native.Mathlib.Nat.{div-eq_of_lt}
use native.Mathlib.Omega.{arith}
use native.Mathlib.Decide.{dec_lt, ℕ_discrete}
use lib.ListN.{length, get_or, set}
use lib.Seq.{set-set, set_out, set_comm, get_or-set_same}
use lib.Ieee.{Float}
use borrow.Author.Tests.{ltb-true, eqb-true}
use Rattle.words.specs.Keys.{Key, ◌⊕◌, bit_of, flip_of, bit_at, flip_at, z_at, Words}
use Rattle.words.proofs.WordLaws.{bit_flip_other}
use Rattle.words.proofs.KeyLaws.{flip_at_length, flip_at_other_word, flip_at_twice, flip_at_words, bit_at_flip_same, bit_at_flip_other}
use Rattle.terms.specs.declared.Axis.{Axis}
use Rattle.terms.specs.declared.Axis.TheVariants.{Z, Zz}
use Rattle.terms.specs.Lists.{All}
use Rattle.terms.specs.Term.{Term, OnWidth, Distinct}
use Rattle.terms.specs.Rotation.{met_by, partner_by, on_key, rotated}
use Rattle.terms.specs.Branch.{branched}
use Rattle.terms.proofs.AllLaws.{all_imp, all_every}
use Rattle.terms.proofs.DistinctLaws.{width_key}
use Rattle.terms.proofs.YLaws.{on_both, partner_odd}
use Rattle.terms.proofs.BranchLaws.{Paired, branched_rotated, rotated_distinct, rotated_all}

-- ---- two flips commute

-- a set bit is in the number
bit_within : (v b : ℕ) → bit_of v b ≡ true → 2 ^ b ≤ v
unfolding bit_of
bit_within v b e = go (dec_lt v (2 ^ b))
  where
    go : Dec (v < 2 ^ b) → 2 ^ b ≤ v
    go (yes l) = absurd (let z : ◌≡◌ {A = ℕ} 0 1 = ap (λ (x : ℕ). x % 2) (sym (div-eq_of_lt l)) ∙ eqb-true (v / 2 ^ b % 2) 1 e in omega arith)
    go (no l) = omega arith

word_flips : (v b c : ℕ) → flip_of (flip_of v b) c ≡ flip_of (flip_of v c) b
unfolding flip_of
word_flips v b c = go (ℕ_discrete b c)
  where
    twice : (x y : Bool) → bit_of v b ≡ x → bit_of v c ≡ y
        → cond y (cond x (v - 2 ^ b) (v + 2 ^ b) - 2 ^ c) (cond x (v - 2 ^ b) (v + 2 ^ b) + 2 ^ c)
        ≡ cond x (cond y (v - 2 ^ c) (v + 2 ^ c) - 2 ^ b) (cond y (v - 2 ^ c) (v + 2 ^ c) + 2 ^ b)
    twice true true p q = omega arith
    twice true false p q = let h = bit_within v b p in omega arith
    twice false true p q = let h = bit_within v c q in omega arith
    twice false false p q = omega arith

    go : Dec (b ≡ c) → flip_of (flip_of v b) c ≡ flip_of (flip_of v c) b
    go (yes e) = ap₂ (λ (x y : ℕ). flip_of (flip_of v x) y) e (sym e)
    go (no n) =
        ap (λ (x : Bool). cond x (flip_of v b - 2 ^ c) (flip_of v b + 2 ^ c)) (bit_flip_other v b c (λ e. n (sym e)))
        ∙ twice (bit_of v b) (bit_of v c) refl refl
        ∙ sym (ap (λ (x : Bool). cond x (flip_of v c - 2 ^ b) (flip_of v c + 2 ^ b)) (bit_flip_other v c b n))

-- bit b of word q flipped
abbrev flip_in : ℕ → ℕ → Key → Key
flip_in q b k = set k q (flip_of (get_or k q 0) b)

flips_within : (k : Key) (q b c : ℕ) → flip_in q c (flip_in q b k) ≡ flip_in q b (flip_in q c k)
flips_within k q b c = go (dec_lt q (length k))
  where
    both : (b c : ℕ) → q < length k → flip_in q c (flip_in q b k) ≡ set k q (flip_of (flip_of (get_or k q 0) b) c)
    both b c l = ap (λ (x : ℕ). set (flip_in q b k) q (flip_of x c)) (get_or-set_same k q _ 0 l) ∙ set-set k q _ _

    none : (b c : ℕ) → length k ≤ q → flip_in q c (flip_in q b k) ≡ k
    none b c h = ap (flip_in q c) (set_out k q _ h) ∙ set_out k q _ h

    go : Dec (q < length k) → flip_in q c (flip_in q b k) ≡ flip_in q b (flip_in q c k)
    go (yes l) = both b c l ∙ ap (set k q) (word_flips (get_or k q 0) b c) ∙ sym (both c b l)
    go (no l) = none b c (omega arith) ∙ sym (none c b (omega arith))

pub flips_commute : (k : Key) (i j : ℕ) → flip_at (flip_at k i) j ≡ flip_at (flip_at k j) i
unfolding flip_at
flips_commute k i j = go (ℕ_discrete (i / 64) (j / 64))
  where
    go : Dec (i / 64 ≡ j / 64) → flip_at (flip_at k i) j ≡ flip_at (flip_at k j) i
    go (yes e) =
        ap (λ (q : ℕ). flip_in (j / 64) (j % 64) (flip_in q (i % 64) k)) e
        ∙ flips_within k (j / 64) (i % 64) (j % 64)
        ∙ ap (λ (q : ℕ). flip_in q (i % 64) (flip_in (j / 64) (j % 64) k)) (sym e)
    go (no n) =
        ap (λ (x : ℕ). set (flip_at k i) (j / 64) (flip_of x (j % 64))) (flip_at_other_word k i (j / 64) (λ e. n (sym e)))
        ∙ set_comm k (i / 64) (j / 64) _ _ n
        ∙ sym (ap (λ (x : ℕ). set (flip_at k j) (i / 64) (flip_of x (i % 64))) (flip_at_other_word k j (i / 64) n))

-- ---- the partner of a word

module _ (w : ℕ) where
  pub partner_back : (axis : Axis) (k : Key) → partner_by w axis (partner_by w axis k) ≡ k
  unfolding partner_by
  partner_back (Z q) k = flip_at_twice k (z_at w q)
  partner_back (Zz a b) k =
      ap (λ (l : Key). flip_at l (z_at w b)) (flips_commute (flip_at k (z_at w a)) (z_at w b) (z_at w a) ∙ ap (λ (l : Key). flip_at l (z_at w b)) (flip_at_twice k (z_at w a)))
      ∙ flip_at_twice k (z_at w b)

  pub partner_length : (axis : Axis) (k : Key) → length (partner_by w axis k) ≡ length k
  unfolding partner_by
  partner_length (Z q) k = flip_at_length k (z_at w q)
  partner_length (Zz a b) k = flip_at_length (flip_at k (z_at w a)) (z_at w b) ∙ flip_at_length k (z_at w a)

  pub partner_words : (axis : Axis) (k : Key) → Words k → Words (partner_by w axis k)
  unfolding partner_by
  partner_words (Z q) k ok = flip_at_words k (z_at w q) ok
  partner_words (Zz a b) k ok = flip_at_words (flip_at k (z_at w a)) (z_at w b) (flip_at_words k (z_at w a) ok)

  pub partner_width : (axis : Axis) (t u : Term) → partner_by w axis t.key ≡ u.key → OnWidth w t → OnWidth w u
  partner_width axis t u e x = record {
    long = ap length (sym e) ∙ partner_length axis t.key ∙ x.long;
    words = subst Words e (partner_words axis t.key x.words);
  }

  -- a flip of z keeps x
  x_kept : (k : Key) (q r : ℕ) → q < 64 * w → bit_at (flip_at k (z_at w r)) q ≡ bit_at k q
  x_kept k q r h = bit_at_flip_other k (z_at w r) q (λ e. omega arith)

  pub partner_met : (axis : Axis) (k : Key) → on_key w axis ≡ true → met_by axis (partner_by w axis k) ≡ met_by axis k
  unfolding partner_by met_by
  partner_met (Z q) k on = x_kept k q q (ltb-true q (64 * w) on)
  partner_met (Zz a b) k on =
      let h = on_both w a b on in
      let l = flip_at k (z_at w a) in
      ap₂ ◌⊕◌ (x_kept l a b h.0 ∙ x_kept k a a h.0) (x_kept l b b h.1.0 ∙ x_kept k b a h.1.0)

  -- z changes at the last target
  z_moves : (k : Key) (q : ℕ) → q < 64 * w → length k ≡ 2 * w → bit_at (flip_at k (z_at w q)) (z_at w q) ≢ bit_at k (z_at w q)
  z_moves k q h long e = not_itself (bit_at k (z_at w q)) (sym (bit_at_flip_same k (z_at w q) (omega arith)) ∙ e)
    where
      not_itself : (b : Bool) → not b ≢ b
      not_itself true e = false≢true e
      not_itself false e = true≢false e

  pub partner_moves : (axis : Axis) (k : Key) → on_key w axis ≡ true → length k ≡ 2 * w → partner_by w axis k ≢ k
  unfolding partner_by
  partner_moves (Z q) k on long e = z_moves k q (ltb-true q (64 * w) on) long (ap (λ (l : Key). bit_at l (z_at w q)) e)
  partner_moves (Zz a b) k on long e =
      let h = on_both w a b on in
      z_moves (flip_at k (z_at w a)) b h.1.0 (flip_at_length k (z_at w a) ∙ long)
      (ap (λ (l : Key). bit_at l (z_at w b)) e ∙ sym (bit_at_flip_other k (z_at w a) (z_at w b) (λ e. h.1.1 (omega arith))))

-- ---- the rotation about an axis

module _ (w : ℕ) (axis : Axis) (sin cos : Float) (ts : List Term) where
  pub axis_branched : on_key w axis ≡ true → All (OnWidth w) ts → Distinct ts
      → branched w (met_by axis) (partner_by w axis) sin cos ts ≡ rotated w (met_by axis) (partner_by w axis) sin cos ts
  axis_branched on x D =
      branched_rotated w (met_by axis) (partner_by w axis) sin cos ts
      (all_imp (OnWidth w) (λ t. Paired w (met_by axis) (partner_by w axis) t.key) ts
      (λ t h. record {
        back = partner_back w axis t.key;
        moves = partner_moves w axis t.key on h.long;
        keeps = partner_met w axis t.key on;
        other = partner_odd w axis on t.key h.long;
      }) x) D

  pub axis_distinct : Distinct ts → Distinct (rotated w (met_by axis) (partner_by w axis) sin cos ts)
  axis_distinct D = rotated_distinct w (met_by axis) (partner_by w axis) sin cos ts (all_every _ ts (λ t. partner_back w axis t.key)) D

  pub axis_width : All (OnWidth w) ts → All (OnWidth w) (rotated w (met_by axis) (partner_by w axis) sin cos ts)
  axis_width x = rotated_all w (met_by axis) (partner_by w axis) sin cos (OnWidth w) ts (width_key w) (partner_width w axis) x
