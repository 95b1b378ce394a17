-- One bit of a number: what a flip does to the bit, to every other bit, and to the bound. Over any width. Assumes nothing.
use Prim.Native.Nat.{ℕ, zero, suc, ◌+◌, ◌-◌, ◌*◌, ◌/◌, ◌%◌, ◌^◌, ◌<◌}
use mathlib.Core.Path.{◌≡◌, refl, sym, ap, ap₂, ◌∙◌, subst, subst⁻¹}
use mathlib.Core.Bool.{Bool, true, false, not, cond, true≢false, false≢true}
use mathlib.Core.Logic.{◌≢◌}
use native.Mathlib.Nat.{mod-lt, add-mul, one-mul, div-one, add-zero}
use native.Mathlib.Omega.{arith}
use native.Mathlib.Decide.{dec_lt}
use native.Mathlib.Numerals.{add-one}
use lib.Dec.{eqb}
use lib.Pow.{pow_pos, pow-add, split, high, low, field, mod-mod-pow, shr-shr, shr_lt}
use lib.Arith.{digits_lt}
use lib.Bits.{bit_xor, differ, xor_block, xor_step, xor_zero_r}
use borrow.Author.Tests.{eqb-true, eqb-false, eq-eqb, ne_eqb}
use Rattle.words.specs.Keys.{bit_of, flip_of}

-- a number with its lowest bit flipped
abbrev pub swap0 : ℕ → ℕ
swap0 q = cond (eqb (q % 2) 1) (q - 1) (q + 1)

less_one : (q p : ℕ) → 0 < q → q * p ≡ (q - 1) * p + p
less_one q p h =
    let e : q ≡ (q - 1) + 1 = omega arith in
    ap (λ (x : ℕ). x * p) e ∙ add-mul (q - 1) 1 p ∙ ap (λ (x : ℕ). (q - 1) * p + x) (one-mul p)

more_one : (q p : ℕ) → (q + 1) * p ≡ q * p + p
more_one q p = add-mul q 1 p ∙ ap (λ (x : ℕ). q * p + x) (one-mul p)

flip_digits : (q p r : ℕ) (t : Bool) → eqb (q % 2) 1 ≡ t → cond t (q * p + r - p) (q * p + r + p) ≡ cond t (q - 1) (q + 1) * p + r
flip_digits q p r true e = let h : q % 2 ≡ 1 = eqb-true (q % 2) 1 e in omega (arith, less_one q p (omega arith))
flip_digits q p r false e = omega (arith, more_one q p)

-- the flip in digits: the part above bit b with its lowest bit flipped, and the part below as it was
pub flip_split : (w b : ℕ) → flip_of w b ≡ swap0 (w / 2 ^ b) * 2 ^ b + w % 2 ^ b
unfolding flip_of bit_of
flip_split w b =
    ap (λ (x : ℕ). cond (eqb (w / 2 ^ b % 2) 1) (x - 2 ^ b) (x + 2 ^ b)) (sym (split w b))
    ∙ flip_digits (w / 2 ^ b) (2 ^ b) (w % 2 ^ b) (eqb (w / 2 ^ b % 2) 1) refl

low_lt : (w b : ℕ) → w % 2 ^ b < 2 ^ b
low_lt w b = mod-lt w (pow_pos b)

flip_high : (w b : ℕ) → flip_of w b / 2 ^ b ≡ swap0 (w / 2 ^ b)
flip_high w b = ap (λ (x : ℕ). x / 2 ^ b) (flip_split w b) ∙ high (swap0 (w / 2 ^ b)) b (low_lt w b)

flip_low : (w b : ℕ) → flip_of w b % 2 ^ b ≡ w % 2 ^ b
flip_low w b = ap (λ (x : ℕ). x % 2 ^ b) (flip_split w b) ∙ low (swap0 (w / 2 ^ b)) b (low_lt w b)

-- what the flip of the lowest bit does to the lowest bit, to the others, and done twice
swap0_same : (q : ℕ) (t : Bool) → eqb (q % 2) 1 ≡ t → eqb (cond t (q - 1) (q + 1) % 2) 1 ≡ not t
swap0_same q true e = let h : q % 2 ≡ 1 = eqb-true (q % 2) 1 e in ne_eqb ((q - 1) % 2) 1 (λ k. omega arith)
swap0_same q false e = let h : q % 2 ≢ 1 = eqb-false (q % 2) 1 e in eq-eqb ((q + 1) % 2) 1 (omega arith)

swap0_half : (q : ℕ) (t : Bool) → eqb (q % 2) 1 ≡ t → cond t (q - 1) (q + 1) / 2 ≡ q / 2
swap0_half q true e = let h : q % 2 ≡ 1 = eqb-true (q % 2) 1 e in omega arith
swap0_half q false e = let h : q % 2 ≢ 1 = eqb-false (q % 2) 1 e in omega arith

swap0_lt : (q m : ℕ) (t : Bool) → eqb (q % 2) 1 ≡ t → q < 2 * m → cond t (q - 1) (q + 1) < 2 * m
swap0_lt q m true e k = omega arith
swap0_lt q m false e k = let h : q % 2 ≢ 1 = eqb-false (q % 2) 1 e in omega arith

swap0_twice : (q : ℕ) (t : Bool) → eqb (q % 2) 1 ≡ t → cond (not t) (cond t (q - 1) (q + 1) - 1) (cond t (q - 1) (q + 1) + 1) ≡ q
swap0_twice q true e = let h : q % 2 ≡ 1 = eqb-true (q % 2) 1 e in omega arith
swap0_twice q false e = omega arith

-- the bit that was flipped
pub bit_flip_same : (w b : ℕ) → bit_of (flip_of w b) b ≡ not (bit_of w b)
unfolding bit_of
bit_flip_same w b = ap (λ (x : ℕ). eqb (x % 2) 1) (flip_high w b) ∙ swap0_same (w / 2 ^ b) (eqb (w / 2 ^ b % 2) 1) refl

-- twice is the identity
pub flip_twice : (w b : ℕ) → flip_of (flip_of w b) b ≡ w
flip_twice w b =
    flip_split (flip_of w b) b
    ∙ ap₂ (λ (x y : ℕ). swap0 x * 2 ^ b + y) (flip_high w b) (flip_low w b)
    ∙ ap (λ (x : ℕ). x * 2 ^ b + w % 2 ^ b) (twice (w / 2 ^ b))
    ∙ split w b
  where
    twice : (q : ℕ) → swap0 (swap0 q) ≡ q
    twice q =
        ap (λ (t : Bool). cond t (swap0 q - 1) (swap0 q + 1)) (swap0_same q (eqb (q % 2) 1) refl) ∙ swap0_twice q (eqb (q % 2) 1) refl

-- a bit above the flipped one
above : (w b d : ℕ) → bit_of (flip_of w b) (b + (1 + d)) ≡ bit_of w (b + (1 + d))
unfolding bit_of
above w b d = ap (λ (x : ℕ). eqb (x % 2) 1) (shift (flip_of w b) ∙ ap (λ (x : ℕ). x / 2 ^ d) halves ∙ sym (shift w))
  where
    shift : (n : ℕ) → n / 2 ^ (b + (1 + d)) ≡ n / 2 ^ b / 2 / 2 ^ d
    shift n = sym (shr-shr n b (1 + d)) ∙ sym (shr-shr (n / 2 ^ b) 1 d)

    halves : flip_of w b / 2 ^ b / 2 ≡ w / 2 ^ b / 2
    halves = ap (λ (x : ℕ). x / 2) (flip_high w b) ∙ swap0_half (w / 2 ^ b) (eqb (w / 2 ^ b % 2) 1) refl

-- a bit below it
below : (w c d : ℕ) → bit_of (flip_of w (d + 1 + c)) c ≡ bit_of w c
unfolding bit_of
below w c d = ap (λ (x : ℕ). eqb x 1) (low_bit (flip_of w (d + 1 + c)) ∙ ap (λ (x : ℕ). x / 2 ^ c % 2) (flip_low w (d + 1 + c)) ∙ sym (low_bit w))
  where
    low_bit : (n : ℕ) → n / 2 ^ c % 2 ≡ n % 2 ^ (d + 1 + c) / 2 ^ c % 2
    low_bit n = sym (ap (λ (x : ℕ). x % 2) (field n (d + 1) c) ∙ mod-mod-pow (n / 2 ^ c) d 1)

-- every other bit
pub bit_flip_other : (w b c : ℕ) → c ≢ b → bit_of (flip_of w b) c ≡ bit_of w c
bit_flip_other w b c h = go (dec_lt c b)
  where
    go : Dec (c < b) → bit_of (flip_of w b) c ≡ bit_of w c
    go (yes l) = subst (λ (n : ℕ). bit_of (flip_of w n) c ≡ bit_of w c) (omega arith) (below w c (b - c - 1))
    go (no l) = subst (λ (n : ℕ). bit_of (flip_of w b) n ≡ bit_of w n) (omega arith) (above w b (c - b - 1))

-- a number of n bits stays one
pub flip_lt : (w b n : ℕ) → b < n → w < 2 ^ n → flip_of w b < 2 ^ n
flip_lt w b n h k = subst (λ (m : ℕ). flip_of w b < 2 ^ m) (omega arith) (wide (n - b - 1) (subst (λ (m : ℕ). w < 2 ^ m) (omega arith) k))
  where
    wide : (d : ℕ) → w < 2 ^ (1 + d + b) → flip_of w b < 2 ^ (1 + d + b)
    wide d l =
        subst⁻¹ (λ (x : ℕ). x < 2 ^ (1 + d + b)) (flip_split w b)
        (subst⁻¹ (λ (m : ℕ). swap0 (w / 2 ^ b) * 2 ^ b + w % 2 ^ b < m) (pow-add 2 (1 + d) b)
        (digits_lt
        (subst⁻¹ (λ (m : ℕ). swap0 (w / 2 ^ b) < m) (pow-add 2 1 d)
        (swap0_lt (w / 2 ^ b) (2 ^ d) (eqb (w / 2 ^ b % 2) 1) refl
        (subst (λ (m : ℕ). w / 2 ^ b < m) (pow-add 2 1 d) (shr_lt (1 + d) b l))))
        (low_lt w b)))

-- the machine's exclusive or with one bit is the flip
xor_one : (q : ℕ) (t : Bool) → eqb (q % 2) 1 ≡ t → q / 2 * 2 + differ (q % 2) 1 ≡ cond t (q - 1) (q + 1)
xor_one q true e = let h : q % 2 ≡ 1 = eqb-true (q % 2) 1 e in rw h (omega arith)
xor_one q false e =
    let n : q % 2 ≢ 1 = eqb-false (q % 2) 1 e in
    let h : q % 2 ≡ 0 = omega arith in
    rw h (omega arith)

pub xor_flip : (w b : ℕ) → bit_xor w (2 ^ b) ≡ flip_of w b
xor_flip w b =
    ap₂ bit_xor (sym (split w b)) (sym (add-zero (1 * 2 ^ b) ∙ one-mul (2 ^ b)))
    ∙ xor_block b (w / 2 ^ b) 1 (w % 2 ^ b) 0 (low_lt w b) (pow_pos b)
    ∙ ap₂ (λ (x y : ℕ). x * 2 ^ b + y) (one (w / 2 ^ b)) (xor_zero_r (w % 2 ^ b))
    ∙ sym (flip_split w b)
  where
    one : (q : ℕ) → bit_xor q 1 ≡ swap0 q
    one q = xor_step q 1 ∙ ap (λ (x : ℕ). x * 2 + differ (q % 2) 1) (xor_zero_r (q / 2)) ∙ xor_one q (eqb (q % 2) 1) refl

-- numbers of n bits are equal where their bits are
digit : (a b : ℕ) → a < 2 → b < 2 → eqb a 1 ≡ eqb b 1 → a ≡ b
digit zero zero h k e = refl
digit (suc zero) (suc zero) h k e = refl
digit zero (suc zero) h k e = absurd (false≢true e)
digit (suc zero) zero h k e = absurd (true≢false e)
digit (suc (suc a)) b h k e = absurd (omega arith)
digit zero (suc (suc b)) h k e = absurd (omega arith)
digit (suc zero) (suc (suc b)) h k e = absurd (omega arith)

half_bit : (w b : ℕ) → bit_of (w / 2) b ≡ bit_of w (1 + b)
unfolding bit_of
half_bit w b = ap (λ (x : ℕ). eqb (x % 2) 1) (shr-shr w 1 b)

bit_zero : (w : ℕ) → bit_of w 0 ≡ eqb (w % 2) 1
unfolding bit_of
bit_zero w = ap (λ (x : ℕ). eqb (x % 2) 1) (div-one w)

pub word_ext : (n v w : ℕ) → v < 2 ^ n → w < 2 ^ n → ((b : ℕ) → b < n → bit_of v b ≡ bit_of w b) → v ≡ w
word_ext zero v w h k e = omega arith
word_ext (suc n) v w h k e =
    let p : v % 2 ≡ w % 2 = digit (v % 2) (w % 2) (mod-lt v (pow_pos 1)) (mod-lt w (pow_pos 1)) (sym (bit_zero v) ∙ e 0 (omega arith) ∙ bit_zero w) in
    let q : v / 2 ≡ w / 2 = word_ext n (v / 2) (w / 2) (half v h) (half w k) (λ b l. half_bit v b ∙ e (1 + b) (omega arith) ∙ sym (half_bit w b)) in
    omega arith
  where
    half : (x : ℕ) → x < 2 ^ suc n → x / 2 < 2 ^ n
    half x l = shr_lt n 1 (subst (λ (m : ℕ). x < 2 ^ m) (sym (add-one n)) l)
