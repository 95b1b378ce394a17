-- A number and a complex coefficient that it stands for: what each operation does to both. Assumes nothing.
use Prim.Native.Nat.{ℕ, zero, suc, ◌+◌, ◌*◌, ◌%◌, ◌<◌}
use mathlib.Core.Path.{◌≡◌, refl, sym, ap, ap₂, ◌∙◌, subst, subst₂}
use mathlib.Core.Bool.{Bool, true, false, not, cond, ◌&&◌, false≢true, beq}
use native.Mathlib.Nat.{zero-mul}
use native.Mathlib.Omega.{arith}
use lib.Dec.{T, ltb, eqb-suc-zero}
use borrow.Author.Tests.{eqb-true, eqb-false}
use lib.Ieee.{Float, nan, inf, fin, binary64, neg, add, mul, of_bits, round, up, down, unlike, fits}
use lib.Ieee.Fits.{neg-fits, add-fits, mul-fits}
use lib.Ieee.Bits.{of_bits-fits}
use Rattle.numbers.specs.Constants.{zero64}
use Rattle.numbers.specs.Tests.{is_finite, abs_of, is_zero}
use Rattle.numbers.specs.Close.{◌≈◌, same, zeros}
use Rattle.numbers.proofs.ValueLaws.{round_zero}
use Rattle.numbers.proofs.CloseLaws.{≈_sym, ≈_trans, finite_≈, neg_≈, add_≈, abs_≈, ≈_of_eq}
use Rattle.words.specs.Keys.{◌⊕◌}
use Rattle.words.specs.declared.Bits as B
use Rattle.words.specs.declared.Gate.{Gate}
use Rattle.words.specs.Gates.{conj_phase}
use Rattle.words.proofs.EveryGate as E
use Rattle.published.specs.declared.Complex64.{Complex64}
use Rattle.published.specs.Complex as C
use Rattle.published.specs.Complex.{complex, none64, quarter_turned, size_of, finite_of, coeff_of}
use Rattle.words.specs.Letters.{is_odd}
use Rattle.terms.proofs.CaseLaws.{and_true}
use Rattle.published.proofs.ComplexLaws.{zero_passes, NearC, near_coeff_refl, near_coeff_trans, near_scaled, near_flipped, near_plus, near_turned, near_size}
use Rattle.published.specs.OneReal.{Stands}
use Rattle.terms.specs.Coefficient.{signed, scaled_of, plus_of, flipped_of, negates, asks_word}
use Rattle.terms.proofs.YLaws.{odd_same}

-- ---- zeros, and what is finite

zero_neg : {x : Float} → x ≈ zero64 → neg x ≈ zero64
unfolding neg of_bits
zero_neg p = ≈_trans (neg_≈ p) (zeros true false)

zero_plus : {x y : Float} → x ≈ zero64 → y ≈ zero64 → add binary64 x y ≈ zero64
unfolding add of_bits
zero_plus p q = ≈_trans (add_≈ binary64 p q) same

rounded : (s : Bool) {a : ℕ} (c : ℕ) → a ≡ 0 → round binary64 s a c ≈ zero64
unfolding of_bits
rounded s c e = rw (e, round_zero binary64 s c) (zeros s false)

-- a product is not finite unless both factors are, so a zero times its factor is a zero
pub zero_times : (v f : Float) → is_finite (mul binary64 v f) ≡ true → mul binary64 zero64 f ≈ zero64
unfolding mul of_bits
zero_times nan f h = absurd (false≢true h)
zero_times (inf s) nan h = absurd (false≢true h)
zero_times (inf s) (inf t) h = absurd (false≢true h)
zero_times (inf s) (fin t m e) h = rounded (unlike false t) (1 * down e) (zero-mul (m * up e))
zero_times (fin s m e) nan h = absurd (false≢true h)
zero_times (fin s zero e) (inf t) h = absurd (false≢true h)
zero_times (fin s (suc m) e) (inf t) h = absurd (false≢true (rw eqb-suc-zero at h))
zero_times (fin s m e) (fin t n d) h = rounded (unlike false t) (1 * down d) (zero-mul (n * up d))

pub finite_neg : (x : Float) → is_finite (neg x) ≡ is_finite x
unfolding neg
finite_neg nan = refl
finite_neg (inf s) = refl
finite_neg (fin s m e) = refl

pub finite_signed : (b : Bool) (x : Float) → is_finite (signed b x) ≡ is_finite x
finite_signed true x = finite_neg x
finite_signed false x = refl

pub finite_mul : (x y : Float) → is_finite (mul binary64 x y) ≡ true → is_finite x ≡ true
unfolding mul
finite_mul nan y h = h
finite_mul (inf s) nan h = h
finite_mul (inf s) (inf t) h = h
finite_mul (inf s) (fin t zero e) h = h
finite_mul (inf s) (fin t (suc m) e) h = rw eqb-suc-zero at h
finite_mul (fin s m e) y h = refl

pub finite_add : (x y : Float) → is_finite (add binary64 x y) ≡ true → (is_finite x ≡ true) × (is_finite y ≡ true)
unfolding add
finite_add nan y h = absurd (false≢true h)
finite_add (inf s) nan h = absurd (false≢true h)
finite_add (inf true) (inf true) h = absurd (false≢true h)
finite_add (inf true) (inf false) h = absurd (false≢true h)
finite_add (inf false) (inf true) h = absurd (false≢true h)
finite_add (inf false) (inf false) h = absurd (false≢true h)
finite_add (inf s) (fin t m e) h = absurd (false≢true h)
finite_add (fin s m e) nan h = absurd (false≢true h)
finite_add (fin s m e) (inf t) h = absurd (false≢true h)
finite_add (fin s m e) (fin t n d) h = (refl, refl)

finite_parts : (c : Complex64) → finite_of c ≡ true → (is_finite c.re ≡ true) × (is_finite c.im ≡ true)
finite_parts c h = and_true (is_finite c.re) (is_finite c.im) h

finite_plus : (c d : Complex64) → finite_of (C.plus_of c d) ≡ true → (finite_of c ≡ true) × (finite_of d ≡ true)
finite_plus c d h =
    let p = finite_parts (C.plus_of c d) h in
    let r = finite_add c.re d.re p.0 in
    let i = finite_add c.im d.im p.1 in
    (ap₂ ◌&&◌ r.0 i.0, ap₂ ◌&&◌ r.1 i.1)

finite_scaled : (f : Float) (c : Complex64) → finite_of (C.scaled_of f c) ≡ true → finite_of c ≡ true
finite_scaled f c h = let p = finite_parts (C.scaled_of f c) h in ap₂ ◌&&◌ (finite_mul c.re f p.0) (finite_mul c.im f p.1)

-- a test that would make another true, which is false, is false
not_so : (b c : Bool) → (b ≡ true → c ≡ true) → c ≡ false → b ≡ false
not_so true c f e = absurd (false≢true (sym e ∙ f refl))
not_so false c f e = refl

-- ---- a number that stands for a coefficient, of a word of the parity b
near : {b : Bool} {v : Float} {c : Complex64} → Stands b v c → NearC (coeff_of b v) c
near p = record { re = p.re; im = p.im }

pub stands : {b : Bool} {v : Float} {c : Complex64} → NearC (coeff_of b v) c → T (fits binary64 v) → Stands b v c
stands p h = record { re = p.re; im = p.im; fit = h }

-- the number and the coefficient, or neither is finite
pub data Names (b : Bool) (v : Float) (c : Complex64) : Type 0 where
  both : Stands b v c → Names b v c
  neither : is_finite v ≡ false → finite_of c ≡ false → Names b v c

finite_coeff : (b : Bool) (v : Float) → finite_of (coeff_of b v) ≡ is_finite v
unfolding of_bits
finite_coeff true v = refl
finite_coeff false v = go (is_finite v)
  where
    go : (a : Bool) → (a && true) ≡ a
    go true = refl
    go false = refl

near_finite : {c d : Complex64} → NearC c d → finite_of c ≡ finite_of d
near_finite p = ap₂ ◌&&◌ (finite_≈ p.re) (finite_≈ p.im)

pub names_finite : {b : Bool} {v : Float} {c : Complex64} → Names b v c → is_finite v ≡ finite_of c
names_finite {b} {v} (both p) = sym (finite_coeff b v) ∙ near_finite (near p)
names_finite (neither e f) = e ∙ sym f

pub names_stands : {b : Bool} {v : Float} {c : Complex64} → Names b v c → is_finite v ≡ true → Stands b v c
names_stands (both p) h = p
names_stands (neither e f) h = absurd (false≢true (sym e ∙ h))

-- two tests that are true together
same_test : (b c : Bool) → (b ≡ true → c ≡ true) → (c ≡ true → b ≡ true) → b ≡ c
same_test true c f g = sym (f refl)
same_test false true f g = g refl
same_test false false f g = refl

-- a number that fits: it stands for the coefficient where it is finite, and is finite where the coefficient is
by_finite : (b : Bool) (v : Float) (c : Complex64) → T (fits binary64 v) → (is_finite v ≡ true → NearC (coeff_of b v) c) → (finite_of c ≡ true → is_finite v ≡ true) → Names b v c
by_finite b v c t f g = go (is_finite v) refl
  where
    go : (a : Bool) → is_finite v ≡ a → Names b v c
    go true h = both (stands (f h) t)
    go false h = neither h (not_so (finite_of c) (is_finite v) g h)

-- ---- 0, sums, products, flips

pub stands_none : (b : Bool) → Stands b zero64 none64
stands_none b = stands (go b) (of_bits-fits binary64 0)
  where
    go : (b : Bool) → NearC (coeff_of b zero64) none64
    go true = near_coeff_refl none64
    go false = near_coeff_refl none64

coeff_plus : (b : Bool) (v u : Float) → NearC (coeff_of b (plus_of v u)) (C.plus_of (coeff_of b v) (coeff_of b u))
coeff_plus true v u = record { re = ≈_sym (zero_plus same same); im = same }
coeff_plus false v u = record { re = same; im = ≈_sym (zero_plus same same) }

pub stands_plus : {b : Bool} {v u : Float} {c d : Complex64} → Stands b v c → Stands b u d → Stands b (plus_of v u) (C.plus_of c d)
stands_plus {b} {v} {u} p q = stands (near_coeff_trans (coeff_plus b v u) (near_plus (near p) (near q))) (add-fits binary64 v u)

pub names_plus : {b : Bool} {v u : Float} {c d : Complex64} → Names b v c → Names b u d → Names b (plus_of v u) (C.plus_of c d)
names_plus (both p) (both q) = both (stands_plus p q)
names_plus {v = v} {u} {c} {d} (neither e f) q = neither (not_so (is_finite (plus_of v u)) (is_finite v) (λ h. (finite_add v u h).0) e) (not_so (finite_of (C.plus_of c d)) (finite_of c) (λ h. (finite_plus c d h).0) f)
names_plus {v = v} {u} {c} {d} (both p) (neither e f) = neither (not_so (is_finite (plus_of v u)) (is_finite u) (λ h. (finite_add v u h).1) e) (not_so (finite_of (C.plus_of c d)) (finite_of d) (λ h. (finite_plus c d h).1) f)

-- where the product is finite, a zero stays a zero beside it
coeff_scaled : (b : Bool) (f v : Float) → is_finite (scaled_of f v) ≡ true → NearC (coeff_of b (scaled_of f v)) (C.scaled_of f (coeff_of b v))
coeff_scaled true f v h = record { re = ≈_sym (zero_times v f h); im = same }
coeff_scaled false f v h = record { re = same; im = ≈_sym (zero_times v f h) }

part_scaled : (b : Bool) (f v : Float) → finite_of (C.scaled_of f (coeff_of b v)) ≡ true → is_finite (scaled_of f v) ≡ true
part_scaled true f v h = (finite_parts (C.scaled_of f (coeff_of true v)) h).1
part_scaled false f v h = (finite_parts (C.scaled_of f (coeff_of false v)) h).0

pub names_scaled : (f : Float) {b : Bool} {v : Float} {c : Complex64} → Names b v c → Names b (scaled_of f v) (C.scaled_of f c)
names_scaled f {b} {v} {c} (both p) =
    by_finite b (scaled_of f v) (C.scaled_of f c) (mul-fits binary64 v f) (λ h. near_coeff_trans (coeff_scaled b f v h) (near_scaled same (near p)))
    (λ h. part_scaled b f v (near_finite (near_scaled same (near p)) ∙ h))
names_scaled f {b} {v} {c} (neither e g) =
    neither (not_so (is_finite (scaled_of f v)) (is_finite v) (finite_mul v f) e) (not_so (finite_of (C.scaled_of f c)) (finite_of c) (finite_scaled f c) g)

-- a flip goes to a word of the other parity
coeff_flipped : (b : Bool) (s v : Float) → is_finite (flipped_of b s v) ≡ true → NearC (coeff_of (not b) (flipped_of b s v)) (C.flipped_of s (coeff_of b v))
coeff_flipped true s v h = record { re = same; im = ≈_sym (zero_neg (zero_times v s h)) }
coeff_flipped false s v h = record { re = ≈_sym (zero_times v s (sym (finite_neg (mul binary64 v s)) ∙ h)); im = same }

part_flipped : (b : Bool) (s v : Float) → finite_of (C.flipped_of s (coeff_of b v)) ≡ true → is_finite (flipped_of b s v) ≡ true
part_flipped true s v h = (finite_parts (C.flipped_of s (coeff_of true v)) h).0
part_flipped false s v h = (finite_parts (C.flipped_of s (coeff_of false v)) h).1

signed_fits : (b : Bool) (v : Float) → T (fits binary64 v) → T (fits binary64 (signed b v))
signed_fits true v h = neg-fits binary64 v h
signed_fits false v h = h

pub names_flipped : (s : Float) {b : Bool} {v : Float} {c : Complex64} → Stands b v c → Names (not b) (flipped_of b s v) (C.flipped_of s c)
names_flipped s {b} {v} {c} p =
    by_finite (not b) (flipped_of b s v) (C.flipped_of s c) (signed_fits (not b) (mul binary64 v s) (mul-fits binary64 v s))
    (λ h. near_coeff_trans (coeff_flipped b s v h) (near_flipped same (near p)))
    (λ h. part_flipped b s v (near_finite (near_flipped same (near p)) ∙ h))

-- ---- "one part is always 0; the size is the other's absolute value"
pub stands_size : {b : Bool} {v : Float} {c : Complex64} → Stands b v c → abs_of v ≈ size_of c
stands_size {b} {v} p = ≈_trans (go b) (near_size (near p))
  where
    at_zero : (z : Bool) → is_zero v ≡ z → abs_of v ≈ cond z (abs_of zero64) (abs_of v)
    at_zero true h = abs_≈ (≈_of_eq binary64 v zero64 p.fit (of_bits-fits binary64 0) h)
    at_zero false h = same

    go : (b : Bool) → abs_of v ≈ size_of (coeff_of b v)
    go true = unfold size_of in rw (zero_passes {x = zero64} same) same
    go false = unfold size_of in at_zero (is_zero v) refl

-- ---- quarter turns

-- the sign that r quarter turns give to a number of a word of the parity b
abbrev pub turn_sign : Bool → ℕ → Bool
turn_sign b r = ltb 1 ((cond b 1 0 + r) % 4)

-- the gate's sign is that of its quarter turns
pub negates_turns : (g : Gate) (s : B.Bits) (b : Bool) → negates g s b ≡ turn_sign b (conj_phase g s)
negates_turns g s true = E.beq→eq _ _ (E.at_each (λ g s. beq (negates g s true) (turn_sign true (conj_phase g s))) tt g s)
negates_turns g s false = E.beq→eq _ _ (E.at_each (λ g s. beq (negates g s false) (turn_sign false (conj_phase g s))) tt g s)

-- no smaller rule: with both bits set, a gate that asks for the word's parity gives words of either parity other signs; a gate that does not
-- ask never does
pub asks : (g : Gate) (s : B.Bits) → negates g s true ⊕ negates g s false ≡ asks_word g && is_odd (conj_phase g s)
asks g s = E.beq→eq _ _ (E.at_each (λ g s. beq (negates g s true ⊕ negates g s false) (asks_word g && is_odd (conj_phase g s))) tt g s)

quarter : (b : Bool) (r : ℕ) (v : Float) → r < 4 → NearC (coeff_of (b ⊕ is_odd r) (signed (turn_sign b r) v)) (quarter_turned r (coeff_of b v))
unfolding quarter_turned neg of_bits
quarter true zero v h = near_coeff_refl _
quarter false zero v h = near_coeff_refl _
quarter true (suc zero) v h = record { re = same; im = same }
quarter false (suc zero) v h = record { re = zeros false true; im = same }
quarter true (suc (suc zero)) v h = record { re = zeros false true; im = same }
quarter false (suc (suc zero)) v h = record { re = same; im = zeros false true }
quarter true (suc (suc (suc zero))) v h = record { re = same; im = zeros false true }
quarter false (suc (suc (suc zero))) v h = record { re = same; im = same }
quarter b (suc (suc (suc (suc r)))) v h = absurd (omega arith)

turned_mod : (m : ℕ) (c : Complex64) → quarter_turned (m % 4) c ≡ quarter_turned m c
unfolding quarter_turned
turned_mod m c = let e : m % 4 % 4 ≡ m % 4 = omega arith in rw e

sign_mod : (b : Bool) (m : ℕ) → turn_sign b (m % 4) ≡ turn_sign b m
sign_mod b m = ap (λ (r : ℕ). ltb 1 r) (go b)
  where
    go : (b : Bool) → (cond b 1 0 + m % 4) % 4 ≡ (cond b 1 0 + m) % 4
    go true = omega arith
    go false = omega arith

-- a parity and quarter turns
pub parity_plus : (n m : ℕ) → is_odd (n + m) ≡ is_odd n ⊕ is_odd m
parity_plus n m = go (is_odd n) (is_odd m) refl refl
  where
    go : (a b : Bool) → is_odd n ≡ a → is_odd m ≡ b → is_odd (n + m) ≡ a ⊕ b
    go true true p q = odd_same (n + m) 0 (omega (arith, eqb-true (n % 2) 1 p, eqb-true (m % 2) 1 q))
    go true false p q = odd_same (n + m) 1 (omega (arith, eqb-true (n % 2) 1 p, eqb-false (m % 2) 1 q))
    go false true p q = odd_same (n + m) 1 (omega (arith, eqb-false (n % 2) 1 p, eqb-true (m % 2) 1 q))
    go false false p q = odd_same (n + m) 0 (omega (arith, eqb-false (n % 2) 1 p, eqb-false (m % 2) 1 q))

-- i to the power m
pub stands_turned : (b : Bool) (m : ℕ) {v : Float} {c : Complex64} → Stands b v c → Stands (b ⊕ is_odd m) (signed (turn_sign b m) v) (quarter_turned m c)
stands_turned b m {v} {c} p = stands (near_coeff_trans one (near_turned m (near p))) (signed_fits (turn_sign b m) v p.fit)
  where
    one : NearC (coeff_of (b ⊕ is_odd m) (signed (turn_sign b m) v)) (quarter_turned m (coeff_of b v))
    one = subst (λ (c : Complex64). NearC (coeff_of (b ⊕ is_odd m) (signed (turn_sign b m) v)) c) (turned_mod m (coeff_of b v))
        (subst₂ (λ (o s : Bool). NearC (coeff_of (b ⊕ o) (signed s v)) (quarter_turned (m % 4) (coeff_of b v))) (odd_same (m % 4) m (omega arith)) (sign_mod b m)
        (quarter b (m % 4) v (omega arith)))
