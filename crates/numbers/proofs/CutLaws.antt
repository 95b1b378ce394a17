-- A number cut to whole multiples of 2^-60: from its digits and its power, and held at 2^61. Assumes nothing.
use mathlib.Core.Path.{◌≡◌, refl, sym, ap, ◌∙◌, subst}
use Prim.Native.Nat.{ℕ, suc, ◌+◌, ◌-◌, ◌*◌, ◌/◌, ◌%◌, ◌^◌, ◌≤◌, ◌<◌, min}
use native.Mathlib.Nat.{le_trans, le_of_lt, le_of_eq, lt_of_lt_of_le, mul_assoc, mul_right_comm, mul-le-mul, mul-div_cancel, min-eq_left, min-eq_right, div-eq_of_lt, div-le_self, div-add-mod', mod-lt, suc-mul}
use native.Mathlib.Omega.{arith}
use mathlib.Core.Bool.{Bool, true, false, ◌&&◌}
use lib.Dec.{leb, lit≤}
use lib.Pow.{pow-add, pow_pos, pow_mono, shl_lt, shl_exact}
use lib.IntN.{ℤ}
use lib.Ieee.{Float, nan, inf, fin, up, down}
use lib.Ieee.Fits.{down_pos}
use lib.Ieee.Exact.{HasValue}
use lib.Ieee.Nearest.{div_same}
use borrow.Author.Tests.{lt-leb}
use Rattle.numbers.specs.Tests.{is_finite}
use Rattle.numbers.specs.Close.{◌≈◌, same, zeros}
use Rattle.numbers.proofs.TestLaws.{fails}
use Rattle.numbers.specs.Angle.{cut_of, most, near, on_circle}

-- ---- "cut toward zero to a whole multiple of 2^-60": n multiples are at most the number, and n + 1 are more

pub cut_floor : (s : Bool) (m : ℕ) (e : ℤ) → let n = (cut_of (fin s m e)).size in (n * down e ≤ m * up e * 2 ^ 60) × (m * up e * 2 ^ 60 < suc n * down e)
unfolding cut_of
cut_floor s m e =
    let x = m * up e * 2 ^ 60 in
    let whole : x / down e * down e + x % down e ≡ x = div-add-mod' x (down e) in
    let rest : x % down e < down e = mod-lt x (down_pos e) in
    let next : suc (x / down e) * down e ≡ x / down e * down e + down e = suc-mul (x / down e) (down e) in
    (omega arith, omega arith)

-- ---- by the value

pub cut_value : (x : Float) (s : Bool) (w : ℕ) → HasValue x s w (2 ^ 1074) → (cut_of x).size ≡ w * 2 ^ 60 / 2 ^ 1074
unfolding cut_of
cut_value nan s w v = absurd v
cut_value (inf t) s w v = absurd v
cut_value (fin t m d) s w v =
    div_same (m * up d * 2 ^ 60) (down d) (w * 2 ^ 60) (2 ^ 1074) (down_pos d) (pow_pos 1074)
    (mul_right_comm (m * up d) (2 ^ 60) (2 ^ 1074) ∙ ap (λ (n : ℕ). n * 2 ^ 60) v.1 ∙ mul_right_comm w (down d) (2 ^ 60))

pub cut_none : (x : Float) → is_finite x ≡ false → most ≡ min (cut_of x).size most
unfolding cut_of
cut_none nan p = refl
cut_none (inf s) p = refl
cut_none (fin s m e) p = absurd (fails p tt)

-- ---- by the digits and the power of 2^-1074

-- few digits: the number is below 2^53 multiples, and so below the most
pub low_power : (d p : ℕ) → d < 2 ^ 53 → p < 1014 → d / 2 ^ (1014 - p) ≡ min (d * 2 ^ p * 2 ^ 60 / 2 ^ 1074) most
low_power d p few h =
    let j = 1014 - p in
    let joined : 2 ^ p * 2 ^ 60 * 2 ^ j ≡ 2 ^ 1074 =
    ap (λ (x : ℕ). x * 2 ^ j) (sym (pow-add 2 p 60)) ∙ sym (pow-add 2 (p + 60) j) ∙ ap (λ (k : ℕ). 2 ^ k) (join p h) in
    let is : d / 2 ^ j ≡ d * 2 ^ p * 2 ^ 60 / 2 ^ 1074 =
    div_same d (2 ^ j) (d * 2 ^ p * 2 ^ 60) (2 ^ 1074) (pow_pos j) (pow_pos 1074)
    (ap (λ (x : ℕ). d * x) (sym joined) ∙ sym (mul_assoc d (2 ^ p * 2 ^ 60) (2 ^ j)) ∙ ap (λ (x : ℕ). x * 2 ^ j) (sym (mul_assoc d (2 ^ p) (2 ^ 60)))) in
    let small : d / 2 ^ j ≤ most = le_trans (div-le_self d (2 ^ j)) (below d few) in
    sym (min-eq_left small) ∙ ap (λ (n : ℕ). min n most) is
  where
    join : (p : ℕ) → p < 1014 → p + 60 + (1014 - p) ≡ 1074
    join p h = omega arith

    below : (d : ℕ) → d < 2 ^ 53 → d ≤ most
    below d h = omega arith

pub zero_down : (d by : ℕ) → d < 2 ^ 53 → 64 ≤ by → 0 ≡ d / 2 ^ by
zero_down d by h l = sym (div-eq_of_lt (lt_of_lt_of_le h (pow_mono {i = 53} (le_trans (lit≤ tt) l))))

-- d * 2^p of the smallest values, for p from 1014 on
scaled : (d p : ℕ) → 1014 ≤ p → d * 2 ^ p * 2 ^ 60 / 2 ^ 1074 ≡ d * 2 ^ (p - 1014)
scaled d p l =
    ap (λ (x : ℕ). x / 2 ^ 1074)
    (mul_assoc d (2 ^ p) (2 ^ 60) ∙ ap (λ (x : ℕ). d * x) (sym (pow-add 2 p 60) ∙ ap (λ (k : ℕ). 2 ^ k) (join p l) ∙ pow-add 2 (p - 1014) 1074)
    ∙ sym (mul_assoc d (2 ^ (p - 1014)) (2 ^ 1074)))
    ∙ mul-div_cancel (d * 2 ^ (p - 1014)) (pow_pos 1074)
  where
    join : (p : ℕ) → 1014 ≤ p → p + 60 ≡ p - 1014 + 1074
    join p h = omega arith

pub middle_power : (d p : ℕ) → d < 2 ^ 53 → 1014 ≤ p → p < 1023 → (d * 2 ^ (p - 1014)) % 2 ^ 64 ≡ min (d * 2 ^ p * 2 ^ 60 / 2 ^ 1074) most
middle_power d p few l h =
    let k = p - 1014 in
    let k_le : k ≤ 8 = reach p h in
    let small : d * 2 ^ k ≤ most = le_of_lt (lt_of_lt_of_le (shl_lt 53 k few) (pow_mono (sum k k_le))) in
    shl_exact 53 k 64 few (room k k_le) ∙ sym (min-eq_left small) ∙ ap (λ (n : ℕ). min n most) (sym (scaled d p l))
  where
    reach : (p : ℕ) → p < 1023 → p - 1014 ≤ 8
    reach p h = omega arith

    sum : (k : ℕ) → k ≤ 8 → 53 + k ≤ 61
    sum k h = omega arith

    room : (k : ℕ) → k ≤ 8 → 53 + k ≤ 64
    room k h = omega arith

pub high_power : (d p : ℕ) → 2 ^ 52 ≤ d → 1023 ≤ p → most ≡ min (d * 2 ^ p * 2 ^ 60 / 2 ^ 1074) most
high_power d p lead h =
    sym (min-eq_right (subst (λ (n : ℕ). most ≤ n) (sym (scaled d p (le_trans (lit≤ tt) h))) (mul-le-mul {n₁ = 2 ^ 52} {m₁ = 2 ^ 9} lead (pow_mono (up_to p h)))))
  where
    up_to : (p : ℕ) → 1023 ≤ p → 9 ≤ p - 1014
    up_to p h = omega arith

-- ---- the tests do not tell numbers apart that are held

held_le : (n : ℕ) → min n most ≤ most
held_le n = omega arith

-- a number from the most on is on no circle
pub far : (a b : ℕ) → most ≤ a → on_circle a b ≡ false
far a b h =
    let q : most * most ≤ a * a = mul-le-mul h h in
    let past : 2 ^ 120 + 2 ^ 70 < a * a + b * b = over (a * a) (b * b) q in
    ap (λ (t : Bool). leb (2 ^ 120) (a * a + b * b + 2 ^ 70) && t) (lt-leb (a * a + b * b) (2 ^ 120 + 2 ^ 70) past) ∙ and_false (leb (2 ^ 120) (a * a + b * b + 2 ^ 70))
  where
    over : (x y : ℕ) → most * most ≤ x → 2 ^ 120 + 2 ^ 70 < x + y
    over x y h = omega arith

    and_false : (t : Bool) → (t && false) ≡ false
    and_false true = refl
    and_false false = refl

pub swapped : (a b : ℕ) → on_circle a b ≡ on_circle b a
swapped a b = ap near (flip (a * a) (b * b))
  where
    flip : (x y : ℕ) → x + y ≡ y + x
    flip x y = omega arith

first_held : (a b : ℕ) → on_circle (min a most) b ≡ on_circle a b
first_held a b = go (leb a most) refl
  where
    go : (t : Bool) → leb a most ≡ t → on_circle (min a most) b ≡ on_circle a b
    go true e = ap (λ (n : ℕ). on_circle n b) (min-eq_left (borrow.Author.Tests.leb-true a most e))
    go false e =
        let l : most ≤ a = le_of_lt (borrow.Author.Tests.leb-false a most e) in
        ap (λ (n : ℕ). on_circle n b) (min-eq_right l) ∙ far most b (le_of_eq refl) ∙ sym (far a b l)

pub circle_held : (a b : ℕ) → on_circle (min a most) (min b most) ≡ on_circle a b
circle_held a b = first_held a (min b most) ∙ swapped a (min b most) ∙ first_held b a ∙ swapped b a

pub mix_held : (a b c : ℕ) → leb (min a most + min b most + min c most) (2 ^ 60) ≡ leb (a + b + c) (2 ^ 60)
mix_held a b c = go (leb (a + b + c) (2 ^ 60)) refl
  where
    inside : (a b c : ℕ) → a + b + c ≤ 2 ^ 60 → min a most + min b most + min c most ≤ 2 ^ 60
    inside a b c h = omega arith

    outside : (a b c : ℕ) → 2 ^ 60 < a + b + c → 2 ^ 60 < min a most + min b most + min c most
    outside a b c h = omega arith

    go : (t : Bool) → leb (a + b + c) (2 ^ 60) ≡ t → leb (min a most + min b most + min c most) (2 ^ 60) ≡ t
    go true e = borrow.Author.Tests.le-leb _ _ (inside a b c (borrow.Author.Tests.leb-true _ _ e))
    go false e = lt-leb _ _ (outside a b c (borrow.Author.Tests.leb-false _ _ e))

-- ---- numbers that agree are cut alike

pub cut_near : {x y : Float} → x ≈ y → (cut_of x).size ≡ (cut_of y).size
unfolding cut_of
cut_near same = refl
cut_near (zeros s t) = refl
