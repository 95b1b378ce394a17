-- What it says of a value that a format holds it: what its digits are, that rounding leaves it as it is, and that one number with one sign is one value.
use mathlib.Core.Path.{◌≡◌, refl, sym, ap, ◌∙◌, subst, subst₂}
use Prim.Native.Nat.compare
use Prim.Native.Nat.{ℕ, zero, suc, ◌-◌, ◌+◌, ◌*◌, ◌/◌, ◌%◌, ◌^◌, ◌≤◌, ◌<◌, compare}
use native.Mathlib.Nat.{lt-suc_self, lt_of_le_of_lt, zero-mul, zero-div, zero-mod, mul-one, mul_assoc, mul_comm, mul_right_comm, le_of_suc-le-suc, lt_irrefl, lt_of_mul-lt-mul_right, mul-lt-mul_of_pos_right, mul-pos, zero-lt-suc}
use mathlib.Core.Bool.{Bool, ◌&&◌, cond}
use lib.IntN.{ℤ, pos, negsuc}
use lib.Dec.{T, ltb, leb, eqb, eqb→eq, ltb→lt, leb→le}
use lib.Pow.{pow-add, pow_pos, pow-lt}
use lib.Ieee.{Float, nan, inf, fin, Format, binary32, binary64, prec, emax, low, up, down, size, nearest, odd, units, round, fits, hid, top, to_bits, of_bits}
use lib.Ieee.Bits.{of_bits-to_bits}
use lib.Ieee.Digits.{back}
use lib.Ieee.Exact.{HasValue, round_exact}
use lib.Ieee.Fits.{up_pos, down_pos, and_l, and_r, round-fits}
use lib.Ieee.Nearest.{div_same}
use Rattle.numbers.proofs.Squares.{pow_lt_back}

-- ---- one number and one sign are one value: both have the same bits

-- the bits of a finite value, by its sign and its size in smallest values
written : Format → Bool → ℕ → ℕ
written f s n = cond s (top f) 0 + (size n - prec f) * hid f + n / 2 ^ (size n - prec f)

to_bits_value : (f : Format) (x : Float) (s : Bool) (a c : ℕ) → 0 < c → HasValue x s a c → to_bits f x ≡ written f s (a * 2 ^ low f / c)
unfolding to_bits written
to_bits_value f nan s a c C h = absurd h
to_bits_value f (inf t) s a c C h = absurd h
to_bits_value f (fin t m e) s a c C h = λ i. written f (h.0 i) (units_same i)
  where
    units_same : m * up e * 2 ^ low f / down e ≡ a * 2 ^ low f / c
    units_same =
        div_same (m * up e * 2 ^ low f) (down e) (a * 2 ^ low f) c (down_pos e) C
        (mul_right_comm (m * up e) (2 ^ low f) c ∙ ap (λ (z : ℕ). z * 2 ^ low f) h.1 ∙ mul_right_comm a (down e) (2 ^ low f))

pub unique : (f : Format) (x y : Float) (s : Bool) (a c : ℕ) → 0 < c → T (fits f x) → T (fits f y) → HasValue x s a c → HasValue y s a c → x ≡ y
unique f x y s a c C p q h k =
    sym (of_bits-to_bits f x p) ∙ ap (of_bits f) (to_bits_value f x s a c C h ∙ sym (to_bits_value f y s a c C k)) ∙ of_bits-to_bits f y q

-- ---- a zero

pub zero_one : (f : Format) (s : Bool) (e : ℤ) → T (fits f (fin s 0 e)) → fin s 0 e ≡ fin s 0 (pos 0)
zero_one f s e h =
    unique f (fin s 0 e) (fin s 0 (pos 0)) s 0 1 (zero-lt-suc 0) h (unfold fits in tt)
    (refl, ap (λ (z : ℕ). z * 1) (zero-mul (up e)) ∙ sym (zero-mul (down e))) (refl, refl)

-- a value is zero only by its digits
pub vanishes : (m : ℕ) (e d : ℤ) → m * up e * down d ≡ 0 → m ≡ 0
vanishes zero e d h = refl
vanishes (suc m) e d h = absurd (lt_irrefl 0 (subst (λ (z : ℕ). 0 < z) h (mul-pos (mul-pos (zero-lt-suc m) (up_pos e)) (down_pos d))))

near_zero : (u : ℕ) → nearest 0 (compare 0 u) ≡ 0
near_zero zero = refl
near_zero (suc u) = rw compare.zero-suc

pub round_zero : (f : Format) (s : Bool) (c : ℕ) → round f s 0 c ≡ fin s 0 (pos 0)
unfolding round units odd size
round_zero binary32 s c = simp (zero-div, zero-mod, near_zero)
round_zero binary64 s c = simp (zero-div, zero-mod, near_zero)

-- ---- what `fits` says of a value that is not zero

-- m * 2 ^ e is m * 2 ^ power of the format's smallest values, for an odd m of no more digits than the format keeps, and is no infinity's
pub record Digits (f : Format) (m : ℕ) (e : ℤ) : Type 0 where
  pub is_odd : m % 2 ≡ 1
  pub few : m < 2 ^ prec f
  pub power : ℕ
  pub value : m * up e * 2 ^ low f ≡ m * 2 ^ power * down e
  pub reach : m * 2 ^ power < 2 ^ (low f + suc (emax f))

-- 2 ^ e in smallest values
steps : (f : Format) (e : ℤ) → down e ≤ 2 ^ low f → (j : ℕ) × (up e * 2 ^ low f ≡ 2 ^ j * down e)
steps f (pos k) h = (k + low f, sym (pow-add 2 k (low f)) ∙ sym (mul-one (2 ^ (k + low f))))
steps f (negsuc k) h = (low f - suc k, mul_comm 1 (2 ^ low f) ∙ mul-one (2 ^ low f) ∙ ap (λ (z : ℕ). 2 ^ z) (sym (back (low f) (suc k) (le_of_suc-le-suc (pow_lt_back (suc k) (suc (low f)) (lt_of_le_of_lt h (pow-lt (lt-suc_self (low f)))))))) ∙ pow-add 2 (low f - suc k) (suc k))

pub digits_of : (f : Format) (s : Bool) (m : ℕ) (e : ℤ) → T (fits f (fin s (suc m) e)) → Digits f (suc m) e
unfolding fits
digits_of f s m e h =
    let n = suc m in
    let l = 2 ^ low f in
    let a = eqb (n % 2) 1 in
    let b = ltb n (2 ^ prec f) in
    let c = leb (down e) l in
    let d = ltb (n * up e) (2 ^ suc (emax f) * down e) in
    let abc = and_l (a && b && c) d h in
    let ab = and_l (a && b) c abc in
    let j = steps f e (leb→le (down e) l (and_r (a && b) c abc)) in
    let v : n * up e * l ≡ n * 2 ^ j.0 * down e = mul_assoc n (up e) l ∙ ap (λ (z : ℕ). n * z) j.1 ∙ sym (mul_assoc n (2 ^ j.0) (down e)) in
    record {
      is_odd = eqb→eq (n % 2) 1 (and_l a b ab);
      few = ltb→lt n (2 ^ prec f) (and_r a b ab);
      power = j.0;
      value = v;
      reach =
          lt_of_mul-lt-mul_right (down e)
          (subst₂ (λ (x y : ℕ). x < y) v
          (mul_right_comm (2 ^ suc (emax f)) (down e) l ∙ ap (λ (z : ℕ). z * down e) (mul_comm (2 ^ suc (emax f)) l ∙ sym (pow-add 2 (low f) (suc (emax f)))))
          (mul-lt-mul_of_pos_right (ltb→lt (n * up e) (2 ^ suc (emax f) * down e) (and_r (a && b && c) d h)) (pow_pos (low f))));
    }

-- ---- rounding leaves a value that fits as it is

exact : (f : Format) (s : Bool) (m : ℕ) (e : ℤ) → T (fits f (fin s m e)) → HasValue (round f s (m * up e) (down e)) s (m * up e) (down e)
exact f s zero e h = rw (zero-mul (up e), round_zero f s (down e)) (refl, zero-mul (down e) ∙ sym (zero-mul 1))
exact f s (suc m) e h =
    let d = digits_of f s m e h in
    round_exact f s (suc m * up e) (down e) (suc m) d.power (down_pos e) d.few d.reach d.value

pub round_own : (f : Format) (s : Bool) (m : ℕ) (e : ℤ) → T (fits f (fin s m e)) → round f s (m * up e) (down e) ≡ fin s m e
round_own f s m e h =
    unique f (round f s (m * up e) (down e)) (fin s m e) s (m * up e) (down e) (down_pos e) (round-fits f s (m * up e) (down e)) h (exact f s m e h) (refl, refl)
