-- Numeric equality: every operation respects `≈`, with nothing asked of its operands but at a divisor, and `≈` of finite values is IEEE 754's `=`.
use mathlib.Core.Path.{◌≡◌, refl, sym, ap, ap₂, ◌∙◌, subst}
use Prim.Native.Nat.{ℕ, zero, suc, ◌*◌}
use native.Mathlib.Nat.{zero-mul, mul-zero, zero-add, add-zero, sub-zero, mul-one}
use mathlib.Core.Bool.{Bool, true, false, ◌&&◌, ◌||◌, beq, cond, or-true, false≢true}
use mathlib.Core.Logic.{◌⊎◌, inl, inr}
use lib.IntN.{ℤ, pos}
use lib.Dec.{T, ltb, eqb, eqb_refl, eqb→eq, leb-suc-suc, leb-zero, leb-suc-zero, eqb-suc-zero}
use lib.Ieee.{Float, nan, inf, fin, Format, up, down, round, neg, sum, add, sub, mul, div, lt, le, eq, level, unlike, fits, of_bits}
use lib.Ieee.Bits.{is_true}
use lib.Ieee.Fits.{down_pos}
use Rattle.numbers.specs.Tests.{is_finite, is_zero, abs_of, is_epsilon, in_sine, in_unit, at_least_zero}
use Rattle.numbers.specs.Root.{sqrt_of}
use Rattle.numbers.specs.Shown.{shown_of}
use Rattle.numbers.specs.Bits.{printed_bits}
use Rattle.numbers.specs.Close.{◌≈◌, same, zeros}
use Rattle.numbers.proofs.ValueLaws.{round_zero, vanishes, zero_one}
pub use Rattle.numbers.proofs.ValueLaws.{unique, round_own}

-- ---- an equivalence

pub ≈_refl : (x : Float) → x ≈ x
≈_refl x = same

pub ≈_of : {x y : Float} → x ≡ y → x ≈ y
≈_of {x} e = subst (λ (z : Float). x ≈ z) e same

pub ≈_sym : {x y : Float} → x ≈ y → y ≈ x
≈_sym same = same
≈_sym (zeros s t) = zeros t s

pub ≈_trans : {x y z : Float} → x ≈ y → y ≈ z → x ≈ z
≈_trans same q = q
≈_trans (zeros s t) same = zeros s t
≈_trans (zeros s t) (zeros t' u) = zeros s u

-- a function that relates what it gives at the two zeros
module _ {A : Type 0} (R : A → A → Type 0) (self : (a : A) → R a a) (back : (a b : A) → R a b → R b a) (f : Float → A)
    (e : R (f (fin true 0 (pos 0))) (f (fin false 0 (pos 0)))) where
  by_zeros : {x y : Float} → x ≈ y → R (f x) (f y)
  by_zeros same = self _
  by_zeros (zeros true true) = self _
  by_zeros (zeros true false) = e
  by_zeros (zeros false true) = back _ _ e
  by_zeros (zeros false false) = self _

to_≈ : (f : Float → Float) → f (fin true 0 (pos 0)) ≈ f (fin false 0 (pos 0)) → {x y : Float} → x ≈ y → f x ≈ f y
to_≈ f e = by_zeros ◌≈◌ (λ a. same) (λ a b. ≈_sym) f e

to_≡ : {A : Type 0} (f : Float → A) → f (fin true 0 (pos 0)) ≡ f (fin false 0 (pos 0)) → {x y : Float} → x ≈ y → f x ≡ f y
to_≡ f e = by_zeros ◌≡◌ (λ a. refl) (λ a b. sym) f e

pub neg_≈ : {x y : Float} → x ≈ y → neg x ≈ neg y
unfolding neg
neg_≈ = to_≈ neg (zeros false true)

pub finite_≈ : {x y : Float} → x ≈ y → is_finite x ≡ is_finite y
finite_≈ = to_≡ is_finite refl

-- ---- the operations: products of either zero are zeros, and what a sum or a comparison gives does not turn on a zero's sign

rounds : (f : Format) (s t : Bool) {a : ℕ} (c : ℕ) → a ≡ 0 → round f s a c ≈ round f t a c
rounds f s t c e = rw (e, round_zero f s c, round_zero f t c) (zeros s t)

mul_l : (f : Format) (y : Float) → mul f (fin true 0 (pos 0)) y ≈ mul f (fin false 0 (pos 0)) y
unfolding mul
mul_l f nan = same
mul_l f (inf u) = same
mul_l f (fin u n d) = rounds f (unlike true u) (unlike false u) (1 * down d) (zero-mul (n * up d))

mul_r : (f : Format) (y : Float) → mul f y (fin true 0 (pos 0)) ≈ mul f y (fin false 0 (pos 0))
unfolding mul
mul_r f nan = same
mul_r f (inf u) = same
mul_r f (fin u n d) = rounds f (unlike u true) (unlike u false) (down d * 1) (mul-zero (n * up d))

pub mul_≈ : (f : Format) {x y u v : Float} → x ≈ y → u ≈ v → mul f x u ≈ mul f y v
mul_≈ f {y} {u} p q = ≈_trans (to_≈ (λ x. mul f x u) (mul_l f u) p) (to_≈ (mul f y) (mul_r f y) q)

pos_lt : (b : ℕ) → ltb 0 (suc b) ≡ true
pos_lt b = leb-suc-suc 0 b ∙ leb-zero b

lt_zero : (b : ℕ) → ltb b 0 ≡ false
lt_zero b = leb-suc-zero b

-- ±0 + ±b / c, and ±b / c + ±0
zero_sum : (f : Format) (s t : Bool) {a : ℕ} (b c : ℕ) → a ≡ 0 → sum f s a t b c ≈ round f t b c
unfolding sum
zero_sum f s t b c e = rw e (go s t b)
  where
    go : (s t : Bool) (b : ℕ) → sum f s 0 t b c ≈ round f t b c
    go false false b = rw zero-add same
    go true true b = rw zero-add same
    go false true zero = rounds f false true c refl
    go false true (suc b) = rw (pos_lt, sub-zero) same
    go true false zero = same
    go true false (suc b) = rw (pos_lt, sub-zero) same

sum_zero : (f : Format) (s t : Bool) {a : ℕ} (b c : ℕ) → a ≡ 0 → sum f t b s a c ≈ round f t b c
unfolding sum
sum_zero f s t b c e = rw e (go s t b)
  where
    go : (s t : Bool) (b : ℕ) → sum f t b s 0 c ≈ round f t b c
    go false false b = rw add-zero same
    go true true b = rw add-zero same
    go false true zero = rounds f false true c refl
    go false true (suc b) = rw (lt_zero, pos_lt, sub-zero) same
    go true false zero = same
    go true false (suc b) = rw (lt_zero, sub-zero) same

add_l : (f : Format) (y : Float) → add f (fin true 0 (pos 0)) y ≈ add f (fin false 0 (pos 0)) y
unfolding add
add_l f nan = same
add_l f (inf u) = same
add_l f (fin u n d) = ≈_trans (one true) (≈_sym (one false))
  where
    one : (s : Bool) → sum f s (0 * down d) u (n * up d * 1) (1 * down d) ≈ round f u (n * up d * 1) (1 * down d)
    one s = zero_sum f s u (n * up d * 1) (1 * down d) (zero-mul (down d))

add_r : (f : Format) (y : Float) → add f y (fin true 0 (pos 0)) ≈ add f y (fin false 0 (pos 0))
unfolding add
add_r f nan = same
add_r f (inf u) = same
add_r f (fin u n d) = ≈_trans (one true) (≈_sym (one false))
  where
    one : (s : Bool) → sum f u (n * up d * 1) s (0 * down d) (down d * 1) ≈ round f u (n * up d * 1) (down d * 1)
    one s = sum_zero f s u (n * up d * 1) (down d * 1) (zero-mul (down d))

pub add_≈ : (f : Format) {x y u v : Float} → x ≈ y → u ≈ v → add f x u ≈ add f y v
add_≈ f {y} {u} p q = ≈_trans (to_≈ (λ x. add f x u) (add_l f u) p) (to_≈ (add f y) (add_r f y) q)

pub sub_≈ : (f : Format) {x y u v : Float} → x ≈ y → u ≈ v → sub f x u ≈ sub f y v
unfolding sub
sub_≈ f p q = add_≈ f p (neg_≈ q)

pub div_≈ : (f : Format) (y : Float) {x x' : Float} → x ≈ x' → div f x y ≈ div f x' y
unfolding div
div_≈ f y = to_≈ (λ x. div f x y) (one y)
  where
    go : (b u : Bool) (n : ℕ) (d : ℤ) → cond b nan (round f (unlike true u) (0 * down d) (n * up d * 1)) ≈ cond b nan (round f (unlike false u) (0 * down d) (n * up d * 1))
    go true u n d = same
    go false u n d = rounds f (unlike true u) (unlike false u) (n * up d * 1) (zero-mul (down d))

    one : (y : Float) → div f (fin true 0 (pos 0)) y ≈ div f (fin false 0 (pos 0)) y
    one nan = same
    one (inf u) = zeros (unlike true u) (unlike false u)
    one (fin u n d) = go (eqb n 0) u n d

-- The two zeros as divisors give different infinities, so the divisor is not to be one.
pub div_by_≈ : (f : Format) (x : Float) {y y' : Float} → is_zero y ≡ false → y ≈ y' → div f x y ≈ div f x y'
div_by_≈ f x h same = same
div_by_≈ f x h (zeros s t) = absurd (false≢true (sym h ∙ is_zero_lem s))
  where
    is_zero_lem : (s : Bool) → is_zero (fin s 0 (pos 0)) ≡ true
    is_zero_lem true = unfold eq of_bits in refl
    is_zero_lem false = unfold eq of_bits in refl

-- ---- the comparisons

-- a test of the digits that is the same at the two zeros, on either side
module _ (test : Float → Float → Bool) (l : (y : Float) → test (fin true 0 (pos 0)) y ≡ test (fin false 0 (pos 0)) y)
    (r : (y : Float) → test y (fin true 0 (pos 0)) ≡ test y (fin false 0 (pos 0))) where
  both_≈ : {x y u v : Float} → x ≈ y → u ≈ v → test x u ≡ test y v
  both_≈ {y} {u} p q = to_≡ (λ x. test x u) (l u) p ∙ to_≡ (test y) (r y) q

lt_l : (y : Float) → lt (fin true 0 (pos 0)) y ≡ lt (fin false 0 (pos 0)) y
unfolding lt
lt_l nan = refl
lt_l (inf u) = refl
lt_l (fin true n d) = rw (zero-mul (down d)) (lt_zero (n * up d * 1))
lt_l (fin false n d) = rw (zero-mul (down d), zero-add)

lt_r : (y : Float) → lt y (fin true 0 (pos 0)) ≡ lt y (fin false 0 (pos 0))
unfolding lt
lt_r nan = refl
lt_r (inf u) = refl
lt_r (fin true n d) = rw (zero-mul (down d), add-zero)
lt_r (fin false n d) = rw (zero-mul (down d)) (sym (lt_zero (n * up d * 1)))

pub lt_≈ : {x y u v : Float} → x ≈ y → u ≈ v → lt x u ≡ lt y v
lt_≈ = both_≈ lt lt_l lt_r

eq_l : (y : Float) → eq (fin true 0 (pos 0)) y ≡ eq (fin false 0 (pos 0)) y
unfolding eq
eq_l nan = refl
eq_l (inf u) = refl
eq_l (fin u n d) = rw (zero-mul (down d), or-true (beq true u), or-true (beq false u))

eq_r : (y : Float) → eq y (fin true 0 (pos 0)) ≡ eq y (fin false 0 (pos 0))
unfolding eq
eq_r nan = refl
eq_r (inf u) = refl
eq_r (fin u n d) = rw (zero-mul (down d)) (go (n * up d * 1))
  where
    go : (b : ℕ) → level u b true 0 ≡ level u b false 0
    go zero = or-true (beq u true) ∙ sym (or-true (beq u false))
    go (suc b) = rw eqb-suc-zero

pub eq_≈ : {x y u v : Float} → x ≈ y → u ≈ v → eq x u ≡ eq y v
eq_≈ = both_≈ eq eq_l eq_r

-- ---- the tests, and what this crate computes

pub le_≈ : {x y u v : Float} → x ≈ y → u ≈ v → le x u ≡ le y v
unfolding le
le_≈ p q = ap₂ (λ (a b : Bool). a || b) (lt_≈ p q) (eq_≈ p q)

pub is_zero_≈ : {x y : Float} → x ≈ y → is_zero x ≡ is_zero y
is_zero_≈ p = eq_≈ p same

pub is_epsilon_≈ : {x y : Float} → x ≈ y → is_epsilon x ≡ is_epsilon y
is_epsilon_≈ p = ap₂ (λ (a b : Bool). a && b) (finite_≈ p) (le_≈ same p)

pub in_sine_≈ : {x y : Float} → x ≈ y → in_sine x ≡ in_sine y
in_sine_≈ p = ap₂ (λ (a b : Bool). a && b) (le_≈ same p) (le_≈ p same)

pub in_unit_≈ : {x y : Float} → x ≈ y → in_unit x ≡ in_unit y
in_unit_≈ p = ap₂ (λ (a b : Bool). a && b) (le_≈ same p) (le_≈ p same)

pub abs_≈ : {x y : Float} → x ≈ y → abs_of x ≈ abs_of y
abs_≈ p = ≈_of (to_≡ abs_of refl p)

pub at_least_zero_≈ : {x y : Float} → x ≈ y → at_least_zero x ≈ at_least_zero y
at_least_zero_≈ p = ≈_of (to_≡ at_least_zero (unfold lt of_bits in refl) p)

pub sqrt_≈ : {x y : Float} → x ≈ y → sqrt_of x ≈ sqrt_of y
unfolding sqrt_of
sqrt_≈ = to_≈ sqrt_of (zeros true false)

pub shown_≈ : {x y : Float} → x ≈ y → shown_of x ≡ shown_of y
shown_≈ = to_≡ shown_of (unfold shown_of in refl)

pub printed_bits_≈ : {x y : Float} → x ≈ y → printed_bits x ≡ printed_bits y
printed_bits_≈ = to_≡ printed_bits (unfold eq of_bits in refl)

-- ---- `≈` of finite values is IEEE 754's `=`

pub eq_self : (x : Float) → T (is_finite x) → eq x x ≡ true
unfolding eq
eq_self nan h = absurd h
eq_self (inf s) h = absurd h
eq_self (fin true m e) h = rw (is_true (eqb (m * up e * down e) (m * up e * down e)) (eqb_refl (m * up e * down e)))
eq_self (fin false m e) h = rw (is_true (eqb (m * up e * down e) (m * up e * down e)) (eqb_refl (m * up e * down e)))

pub eq_of_≈ : {x y : Float} → x ≈ y → T (is_finite x) → eq x y ≡ true
eq_of_≈ {x} {y} p h = eq_≈ (same {x = x}) (≈_sym p) ∙ eq_self x h

-- ---- a value that fits plus a zero is that value, up to the sign of a zero

pub add_zero_≈ : (f : Format) (t : Bool) (x : Float) → T (fits f x) → add f x (fin t 0 (pos 0)) ≈ x
unfolding add
add_zero_≈ f t nan h = same
add_zero_≈ f t (inf s) h = same
add_zero_≈ f t (fin s m e) h =
    ≈_trans (sum_zero f t s (m * up e * 1) (down e * 1) (zero-mul (down e)))
    (≈_of (ap₂ (λ (a c : ℕ). round f s a c) (mul-one (m * up e)) (mul-one (down e)) ∙ round_own f s m e h))

-- ---- two values that fit and that IEEE 754 calls equal

level_says : (s t : Bool) (a b : ℕ) → level s a t b ≡ true → (a ≡ b) × ((s ≡ t) ⊎ (a ≡ 0))
level_says s t a b h = go (eqb a b) (beq s t) (eqb a 0) (eqb→eq a b) (alike s t) (eqb→eq a 0) h
  where
    alike : (s t : Bool) → T (beq s t) → s ≡ t
    alike true true h = refl
    alike true false h = absurd h
    alike false true h = absurd h
    alike false false h = refl

    go : (x y z : Bool) → (T x → a ≡ b) → (T y → s ≡ t) → (T z → a ≡ 0) → (x && (y || z)) ≡ true → (a ≡ b) × ((s ≡ t) ⊎ (a ≡ 0))
    go true true z f g k h = (f tt, inl (g tt))
    go true false true f g k h = (f tt, inr (k tt))
    go true false false f g k h = absurd (false≢true h)
    go false y z f g k h = absurd (false≢true h)

is_zero_lem : (f : Format) (s : Bool) (m : ℕ) (e : ℤ) → m ≡ 0 → T (fits f (fin s m e)) → fin s m e ≡ fin s 0 (pos 0)
is_zero_lem f s m e a p = ap (λ (z : ℕ). fin s z e) a ∙ zero_one f s e (subst (λ (z : ℕ). T (fits f (fin s z e))) a p)

pub ≈_of_eq : (f : Format) (x y : Float) → T (fits f x) → T (fits f y) → eq x y ≡ true → x ≈ y
unfolding eq
≈_of_eq f nan y p q h = absurd (false≢true h)
≈_of_eq f (inf s) nan p q h = absurd (false≢true h)
≈_of_eq f (inf true) (inf true) p q h = same
≈_of_eq f (inf true) (inf false) p q h = absurd (false≢true h)
≈_of_eq f (inf false) (inf true) p q h = absurd (false≢true h)
≈_of_eq f (inf false) (inf false) p q h = same
≈_of_eq f (inf s) (fin t n d) p q h = absurd (false≢true h)
≈_of_eq f (fin s m e) nan p q h = absurd (false≢true h)
≈_of_eq f (fin s m e) (inf t) p q h = absurd (false≢true h)
≈_of_eq f (fin s m e) (fin t n d) p q h =
    let l = level_says s t (m * up e * down d) (n * up d * down e) h in
    elim l.1 [
      | inl g ↦ ≈_of (unique f (fin s m e) (fin t n d) t (n * up d) (down d) (down_pos d) p q (g, l.0) (refl, refl))
      | inr z ↦ ≈_trans (≈_of (is_zero_lem f s m e (vanishes m e d z) p)) (≈_trans (zeros s t) (≈_sym (≈_of (is_zero_lem f t n d (vanishes n d e (sym l.0 ∙ z)) q))))
    ]
