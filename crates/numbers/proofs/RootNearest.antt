-- The theorem of the square root: `sqrt_of x` is the binary64 nearest to the real root of x, for every finite x above zero, and no other is as near.
use mathlib.Core.Path.{◌≡◌, refl, sym, ap, ◌∙◌, subst, subst₂}
use mathlib.Core.Logic.{◌⊎◌, inl, inr}
use Prim.Native.Nat.{ℕ, zero, suc, ◌+◌, ◌-◌, ◌*◌, ◌/◌, ◌%◌, ◌^◌, ◌≤◌, ◌<◌, Ordering, zero-le}
use native.Mathlib.Nat.{zero-mul, mul-one, mul_assoc, mul_left_comm, pow-suc, le_trans, le_of_eq, le_of_lt, lt_of_lt_of_le, lt_of_le_of_lt, lt_irrefl, not-le_of_lt, mul-pos, mul-le-mul, mul-le-mul_right, mul-div_cancel, le-div_iff_mul-le, div-mul-le_self, lt-div-mul-add, suc-mul, mul-lt-mul_of_pos_right, eq_of_mul-eq-mul_right, zero-lt-suc}
use native.Mathlib.Omega.{arith}
use mathlib.Core.Bool.{Bool, true, false}
use lib.IntN.{ℤ}
use lib.Dec.{T, leb, ltb, lit<, lit≤}
use lib.Arith.{lt_of_le-ne}
use lib.Pow.{pow-add, pow_pos, pow_mono, pow-lt, shl_lt}
use lib.Ieee.{Float, nan, inf, fin, binary64, up, down, size, nearest, units, lt, le, fits, of_bits}
use lib.Ieee.Bits.{is_true}
use lib.Ieee.Digits.{size-lt, size_reaches, size-le, back}
use lib.Ieee.Exact.{HasValue, units_val}
use lib.Ieee.Fits.{down_pos, kept-lt}
use lib.Ieee.Order.{le_of_values}
use borrow.Author.Tests.{leb-true, leb-false, ltb-true, ltb-false}
use Rattle.numbers.specs.Constants.{zero64}
use Rattle.numbers.specs.Tests.{is_finite}
use Rattle.numbers.specs.Root.{square, whole_root, nearest_root, sqrt_of, units_of, Nearest}
use Rattle.numbers.proofs.ValueLaws.{digits_of}
use Rattle.numbers.proofs.TestLaws.{holds, finite_of_value}
use Rattle.numbers.proofs.RootLaws.{of_finite, above_value, sqrt_fits}
use Rattle.numbers.proofs.Squares.{pow_lt_back, square_lt}
use Rattle.numbers.proofs.Rounded.{compare_lt, compare_gt, four_is, square_shift, nearest_root_is, joined}
pub use Rattle.numbers.proofs.Squares.{whole_root_cut}

-- ---- sides: the root of N lies from a up to b, u is at a or b or outside, and 4 * N is compared with the square of a + b

less_square : {a b : ℕ} → a < b → a * a < b * b
less_square {a} {b} h =
    let e : a * a < suc a * suc a = omega arith in
    lt_of_lt_of_le e (mul-le-mul h h)

module _ (N a b u : ℕ) (from : a * a ≤ N) (to : N < b * b) where
  low_above : 4 * N < (a + b) * (a + b) → b ≤ u → 4 * N < (a + u) * (a + u)
  low_above m h = let g : a + b ≤ a + u = omega arith in lt_of_lt_of_le m (mul-le-mul g g)

  low_below : u < a → (a + u) * (a + u) < 4 * N
  low_below h =
      let g : (a + u) * (a + u) < (a + a) * (a + a) = less_square (omega arith) in
      omega arith

  high_above : b < u → 4 * N < (b + u) * (b + u)
  high_above h =
      let g : (b + b) * (b + b) < (b + u) * (b + u) = less_square (omega arith) in
      omega arith

  high_below : (a + b) * (a + b) < 4 * N → u ≤ a → (b + u) * (b + u) < 4 * N
  high_below m h = let g : b + u ≤ a + b = omega arith in lt_of_le_of_lt (mul-le-mul g g) m

-- ---- no value of 53 digits lies between q * 2 ^ k and (q + 1) * 2 ^ k, for a q of 53 digits

gap : (q k m j : ℕ) → 2 ^ 52 ≤ q → m < 2 ^ 53 → (m * 2 ^ j ≤ q * 2 ^ k) ⊎ (suc q * 2 ^ k ≤ m * 2 ^ j)
gap q k m j lead few = go (leb k j) refl
  where
    at : (d : ℕ) (b : Bool) → leb d q ≡ b → d * 2 ^ k ≡ m * 2 ^ j → (m * 2 ^ j ≤ q * 2 ^ k) ⊎ (suc q * 2 ^ k ≤ m * 2 ^ j)
    at d true e is = inl (le_trans (le_of_eq (sym is)) (mul-le-mul_right (2 ^ k) (leb-true d q e)))
    at d false e is = inr (le_trans (mul-le-mul_right (2 ^ k) (leb-false d q e)) (le_of_eq is))

    under : (j k : ℕ) → j < k → 53 + j ≤ 52 + k
    under j k h = omega arith

    go : (b : Bool) → leb k j ≡ b → (m * 2 ^ j ≤ q * 2 ^ k) ⊎ (suc q * 2 ^ k ≤ m * 2 ^ j)
    go true e =
        let d = m * 2 ^ (j - k) in
        at d (leb d q) refl (joined m (j - k) k j (back j k (leb-true k j e)))
    go false e =
        inl (le_trans (le_of_lt (shl_lt 53 j few))
        (le_trans (pow_mono (under j k (leb-false k j e))) (le_trans (le_of_eq (pow-add 2 52 k)) (mul-le-mul_right (2 ^ k) lead))))

-- ---- the middle is never met: the odd part of 4 * N has at most 53 digits, and that of the square of (2 * q + 1) * 2 ^ k has more

twice : (a i : ℕ) → a * 2 ^ suc i ≡ a * 2 ^ i * 2
twice a i = ap (λ (z : ℕ). a * z) (pow-suc 2 i) ∙ sym (mul_assoc a (2 ^ i) 2)

not_even : (a b i : ℕ) → a % 2 ≡ 1 → a * 1 ≡ b * 2 ^ suc i → ⊥
not_even a b i p h = clash a (b * 2 ^ i) p (h ∙ twice b i)
  where
    clash : (a c : ℕ) → a % 2 ≡ 1 → a * 1 ≡ c * 2 → ⊥
    clash a c p e = omega arith

odd_part : (a b i j : ℕ) → a % 2 ≡ 1 → b % 2 ≡ 1 → a * 2 ^ i ≡ b * 2 ^ j → a ≡ b
odd_part a b zero zero p q h = sym (mul-one a) ∙ h ∙ mul-one b
odd_part a b zero (suc j) p q h = absurd (not_even a b j p h)
odd_part a b (suc i) zero p q h = absurd (not_even b a i q (sym h))
odd_part a b (suc i) (suc j) p q h = odd_part a b i j p q (eq_of_mul-eq-mul_right 2 (zero-lt-suc 1) (a * 2 ^ i) (b * 2 ^ j) (sym (twice a i) ∙ h ∙ twice b j))

no_tie : (m i q k : ℕ) → m % 2 ≡ 1 → m < 2 ^ 53 → 2 ^ 52 ≤ q → m * 2 ^ i ≡ square ((2 * q + 1) * 2 ^ k) → ⊥
no_tie m i q k is_odd few lead h =
    let o = (2 * q + 1) * (2 * q + 1) in
    let e : m ≡ o = odd_part m o i (k + k) is_odd (odd_square q) (h ∙ square_shift (2 * q + 1) k ∙ ap (λ (z : ℕ). o * z) (four_is k)) in
    wide q m lead few e
  where
    odd_square : (q : ℕ) → (2 * q + 1) * (2 * q + 1) % 2 ≡ 1
    odd_square q = omega arith

    wide : (q m : ℕ) → 2 ^ 52 ≤ q → m < 2 ^ 53 → m ≡ (2 * q + 1) * (2 * q + 1) → ⊥
    wide q m l h e = omega arith

-- ---- the nearest root of N, from the definition

-- r is w units, and twice the root of N lies on w's side of w + u, for every other u units of 53 digits
record Chosen (N : ℕ) (r : Float) : Type 0 where
  w : ℕ
  value : HasValue r false w (2 ^ 1074)
  above : (m j : ℕ) → m < 2 ^ 53 → w < m * 2 ^ j → 4 * N < square (w + m * 2 ^ j)
  below : (m j : ℕ) → m < 2 ^ 53 → m * 2 ^ j < w → square (w + m * 2 ^ j) < 4 * N

module _ (n m j : ℕ) (is : n ≡ m * 2 ^ j) (is_odd : m % 2 ≡ 1) (few : m < 2 ^ 53) (reach : n < 2 ^ 2098) where
  abbrev N : ℕ
  N = n * 2 ^ 1074

  abbrev r : ℕ
  r = whole_root N

  abbrev k : ℕ
  k = size r - 53

  abbrev q : ℕ
  q = r / 2 ^ k

  abbrev middle : ℕ
  middle = square ((2 * q + 1) * 2 ^ k)

  -- the whole root has 53 digits at least, and 1586 at most
  long : 53 ≤ size r
  long = pow_lt_back 52 (size r) (lt_of_le_of_lt (cut r (square_lt {a = 2 ^ 52} {b = r + 1} (lt_of_le_of_lt large (whole_root_cut N).1))) (size-lt r))
    where
      some : 0 < n
      some = subst (λ (z : ℕ). 0 < z) (sym is) (mul-pos (odd_pos m is_odd) (pow_pos j))
        where
          odd_pos : (m : ℕ) → m % 2 ≡ 1 → 0 < m
          odd_pos m h = omega arith

      large : 2 ^ 52 * 2 ^ 52 ≤ N
      large = le_trans (lit≤ tt) (mul-le-mul_right (2 ^ 1074) some)

      cut : (r : ℕ) → 2 ^ 52 < r + 1 → 2 ^ 52 ≤ r
      cut r h = omega arith

  short : size r ≤ 1586
  short = size-le r 1586 (square_lt {a = r} {b = 2 ^ 1586} (lt_of_le_of_lt (whole_root_cut N).0 (mul-lt-mul_of_pos_right reach (pow_pos 1074))))

  lead : 2 ^ 52 ≤ q
  lead = (le-div_iff_mul-le (pow_pos k)).1 (le_trans (le_of_eq (sym (pow-add 2 52 k))) (size_reaches r (52 + k) (omega (arith, long))))

  -- the root lies from q * 2 ^ k up to suc q * 2 ^ k
  from : q * 2 ^ k * (q * 2 ^ k) ≤ N
  from = let h = div-mul-le_self r (2 ^ k) in le_trans (mul-le-mul h h) (whole_root_cut N).0

  to : N < suc q * 2 ^ k * (suc q * 2 ^ k)
  to =
      let h : r + 1 ≤ suc q * 2 ^ k = next r (suc q * 2 ^ k) (lt_of_lt_of_le (lt-div-mul-add (pow_pos k)) (le_of_eq (sym (suc-mul q (2 ^ k))))) in
      lt_of_lt_of_le (whole_root_cut N).1 (mul-le-mul h h)
    where
      next : (a b : ℕ) → a < b → a + 1 ≤ b
      next a b h = omega arith

  middle_is : middle ≡ (q * 2 ^ k + suc q * 2 ^ k) * (q * 2 ^ k + suc q * 2 ^ k)
  middle_is = ap square (halves q (2 ^ k))
    where
      halves : (q p : ℕ) → (2 * q + 1) * p ≡ q * p + suc q * p
      halves q p = omega arith

  not_middle : middle ≡ 4 * N → ⊥
  not_middle h =
      no_tie m (j + 1076) q k is_odd few lead
      (sym (joined m j 1076 (j + 1076) refl) ∙ ap (λ (z : ℕ). z * 2 ^ 1076) (sym is) ∙ sym (mul_left_comm 4 n (2 ^ 1074)) ∙ sym h)

  has : (v : ℕ) → v ≤ 2 ^ 53 → HasValue (units binary64 false v k) false (v * 2 ^ k) (2 ^ 1074)
  has v h =
      units_val binary64 false v k
      (lt_of_le_of_lt (le_trans (mul-le-mul_right (2 ^ k) h) (le_trans (le_of_eq (sym (pow-add 2 53 k))) (pow_mono {j = 1586} (omega (arith, long, short))))) (pow-lt {i = 1586} {j = 2098} (lit< tt)))

  low : 4 * N < middle → Chosen N (nearest_root N)
  low h =
      let is_q : nearest_root N ≡ units binary64 false q k = nearest_root_is N ∙ ap (λ (o : Ordering). units binary64 false (nearest q o) k) (compare_lt (4 * N) middle h) in
      record {
        w = q * 2 ^ k;
        value = subst (λ (z : Float). HasValue z false (q * 2 ^ k) (2 ^ 1074)) (sym is_q) (has q (le_of_lt (kept-lt 53 r)));
        above = λ m j f g. low_above N (q * 2 ^ k) (suc q * 2 ^ k) (m * 2 ^ j) from to (lt_of_lt_of_le h (le_of_eq middle_is)) (elim (gap q k m j lead f) [ inl l ↦ absurd (not-le_of_lt g l) | inr l ↦ l ]);
        below = λ m j f g. low_below N (q * 2 ^ k) (suc q * 2 ^ k) (m * 2 ^ j) from to g;
      }

  high : middle < 4 * N → Chosen N (nearest_root N)
  high h =
      let is_q : nearest_root N ≡ units binary64 false (suc q) k = nearest_root_is N ∙ ap (λ (o : Ordering). units binary64 false (nearest q o) k) (compare_gt (4 * N) middle h) in
      record {
        w = suc q * 2 ^ k;
        value = subst (λ (z : Float). HasValue z false (suc q * 2 ^ k) (2 ^ 1074)) (sym is_q) (has (suc q) (kept-lt 53 r));
        above = λ m j f g. high_above N (q * 2 ^ k) (suc q * 2 ^ k) (m * 2 ^ j) from to g;
        below = λ m j f g. high_below N (q * 2 ^ k) (suc q * 2 ^ k) (m * 2 ^ j) from to (lt_of_le_of_lt (le_of_eq (sym middle_is)) h) (elim (gap q k m j lead f) [ inl l ↦ l | inr l ↦ absurd (not-le_of_lt g l) ]);
      }

  chosen : Chosen N (nearest_root N)
  chosen = go (ltb (4 * N) middle) refl
    where
      go : (b : Bool) → ltb (4 * N) middle ≡ b → Chosen N (nearest_root N)
      go true e = low (ltb-true (4 * N) middle e)
      go false e = high (lt_of_le-ne (ltb-false (4 * N) middle e) not_middle)

-- ---- values in units

units_of_value : (x : Float) (s : Bool) (w : ℕ) → HasValue x s w (2 ^ 1074) → units_of x ≡ w
units_of_value nan s w v = absurd v
units_of_value (inf t) s w v = absurd v
units_of_value (fin t m e) s w v = ap (λ (z : ℕ). z / down e) v.1 ∙ mul-div_cancel w (down_pos e)

no_units : (s : Bool) (e : ℤ) → HasValue (fin s 0 e) s 0 (2 ^ 1074)
no_units s e = (refl, ap (λ (z : ℕ). z * 2 ^ 1074) (zero-mul (up e)) ∙ zero-mul (2 ^ 1074) ∙ sym (zero-mul (down e)))

units_digits : (y : Float) → T (fits binary64 y) → is_finite y ≡ true → (m : ℕ) × (j : ℕ) × (m < 2 ^ 53) × (units_of y ≡ m * 2 ^ j)
units_digits nan f p = absurd (holds p)
units_digits (inf s) f p = absurd (holds p)
units_digits (fin s zero e) f p = (0, 0, pow_pos 53, units_of_value (fin s zero e) s 0 (no_units s e))
units_digits (fin s (suc m) e) f p = let d = digits_of binary64 s m e f in (suc m, d.power, d.few, units_of_value (fin s (suc m) e) s (suc m * 2 ^ d.power) (refl, d.value))

-- ---- the theorem

nearest_of : (x r : Float) (n : ℕ) → units_of x ≡ n → T (fits binary64 r) → Chosen (n * 2 ^ 1074) r → Nearest x r
unfolding of_bits
nearest_of x r n ux f c =
    let ur = units_of_value r false c.w c.value in
    record {
      held = f;
      finite = finite_of_value r false c.w (2 ^ 1074) c.value;
      sign = is_true (le zero64 r) (le_of_values zero64 r 0 1 c.w (2 ^ 1074) (zero-lt-suc 0) (pow_pos 1074) (refl, refl) c.value zero-le);
      above = λ y g p h.
          let d = units_digits y g p in
          rw (ux, ur, d.3) (c.above d.0 d.1 d.2 (subst₂ (λ (a b : ℕ). a < b) ur d.3 h));
      below = λ y g p h.
          let d = units_digits y g p in
          rw (ux, ur, d.3) (c.below d.0 d.1 d.2 (subst₂ (λ (a b : ℕ). a < b) d.3 ur h));
    }

pub sqrt_nearest : (x : Float) → T (fits binary64 x) → is_finite x ≡ true → lt zero64 x ≡ true → Nearest x (sqrt_of x)
sqrt_nearest nan f p l = absurd (holds p)
sqrt_nearest (inf s) f p l = absurd (holds p)
sqrt_nearest (fin s zero e) f p l =
    absurd (lt_irrefl 0 (above_value (fin s zero e) s 0 l (no_units s e)))
sqrt_nearest (fin s (suc m) e) f p l =
    let x = fin s (suc m) e in
    let d = digits_of binary64 s m e f in
    let n = suc m * 2 ^ d.power in
    let v : HasValue x s n (2 ^ 1074) = (refl, d.value) in
    nearest_of x (sqrt_of x) n (units_of_value x s n v) (sqrt_fits x f)
    (subst (λ (z : Float). Chosen (n * 2 ^ 1074) z) (sym (of_finite x s n l v)) (chosen n (suc m) d.power refl d.is_odd d.few d.reach))
