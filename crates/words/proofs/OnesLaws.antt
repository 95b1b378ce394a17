-- The Y letters of 64 qubits are the digits 1 of x & z. Assumes nothing.
use mathlib.Core.Path.{◌≡◌, refl, sym, ap, ap₂, ◌∙◌}
use mathlib.Core.Bool.{Bool, true, false, cond, ◌&&◌, and-false}
use mathlib.Core.Logic.{◌⊎◌, inl, inr, ⊎_elim}
use Prim.Native.Nat.{ℕ, zero, suc, ◌+◌, ◌-◌, ◌*◌, ◌/◌, ◌%◌, ◌^◌, ◌≤◌, ◌<◌, min}
use native.Mathlib.Nat.{zero-add, add-zero, add-suc, add_assoc, zero-div, lt_of_le_of_lt, mod-lt, mod-one, mod-eq_of_lt}
use native.Mathlib.Omega.{arith}
use borrow.Author.Tests.{ltb-true, ltb-false}
use lib.Dec.{ltb, eqb}
use lib.Pow.{pow_pos, mod-pow-add}
use lib.ListN.{length, get_or, get_or-eq_default}
use lib.Arith.{bin_ind}
use lib.Bits.{bit_and, bit_xor, differ, and_step, xor_step, and_shr, and_le_l}
use lib.Count.{ones, ones_step, ones_cat}
use Rattle.words.specs.Keys.{Key, bit_of, bit_at, z_at}
use Rattle.words.specs.Letters.{count_y, ys_of}

lt_or_le : (a b : ℕ) → (a < b) ⊎ (b ≤ a)
lt_or_le a b = go (ltb a b) refl
  where
    go : (t : Bool) → ltb a b ≡ t → (a < b) ⊎ (b ≤ a)
    go true e = inl (ltb-true a b e)
    go false e = inr (ltb-false a b e)

-- one digit
ones_bit : (n : ℕ) → n < 2 → ones n ≡ n
unfolding ones
ones_bit zero h = refl
ones_bit (suc zero) h = refl
ones_bit (suc (suc n)) h = absurd (omega arith)

-- the digit n of v, and those below it
next : (v n : ℕ) → ones (v % 2 ^ (1 + n)) ≡ v / 2 ^ n % 2 + ones (v % 2 ^ n)
next v n =
    ap ones (mod-pow-add v 1 n) ∙ ones_cat n (v / 2 ^ n % 2 ^ 1) (v % 2 ^ n) (mod-lt v (pow_pos n))
    ∙ ap (λ (d : ℕ). d + ones (v % 2 ^ n)) (ones_bit (v / 2 ^ n % 2) (mod-lt (v / 2 ^ n) (pow_pos 1)))

and_digit : (x z n : ℕ) → bit_and x z / 2 ^ n % 2 ≡ min (x / 2 ^ n % 2) (z / 2 ^ n % 2)
and_digit x z n = ap (λ (v : ℕ). v % 2) (and_shr x z n ∙ and_step (x / 2 ^ n) (z / 2 ^ n)) ∙ low (bit_and (x / 2 ^ n / 2) (z / 2 ^ n / 2)) (min (x / 2 ^ n % 2) (z / 2 ^ n % 2)) (least (x / 2 ^ n) (z / 2 ^ n))
  where
    low : (q r : ℕ) → r < 2 → (q * 2 + r) % 2 ≡ r
    low q r h = omega arith

    least : (a b : ℕ) → min (a % 2) (b % 2) < 2
    least a b = omega arith

-- the digits of an exclusive or are those of both, less the ones that both have
ones_xor : (a b : ℕ) → ones (bit_xor a b) % 2 ≡ (ones a + ones b) % 2
ones_xor = bin_ind (λ (n : ℕ). (b : ℕ) → ones (bit_xor n b) % 2 ≡ (ones n + ones b) % 2)
    (λ b. ap (λ (m : ℕ). m % 2) (sym (zero-add (ones b)) ∙ ap (λ (m : ℕ). m + ones b) (sym (ones_bit 0 (omega arith)))))
    (λ n ih b.
    let p = n % 2 in
    let q = b % 2 in
    let d = differ p q in
    let whole : ones (bit_xor n b) ≡ ones (bit_xor (n / 2) (b / 2)) + ones d =
    ap ones (xor_step n b) ∙ ones_cat 1 (bit_xor (n / 2) (b / 2)) d (digit p q (mod-lt n (pow_pos 1)) (mod-lt b (pow_pos 1))).0 in
    ap (λ (m : ℕ). m % 2) (whole ∙ ap (λ (m : ℕ). ones (bit_xor (n / 2) (b / 2)) + m) (ones_bit d (digit p q (mod-lt n (pow_pos 1)) (mod-lt b (pow_pos 1))).0))
    ∙ sums (ones (bit_xor (n / 2) (b / 2))) (ones (n / 2)) (ones (b / 2)) p q d (ih (b / 2)) (digit p q (mod-lt n (pow_pos 1)) (mod-lt b (pow_pos 1))).1
    ∙ ap₂ (λ (l m : ℕ). (l + m) % 2) (sym (ones_step n)) (sym (ones_step b)))
  where
    digit : (p q : ℕ) → p < 2 → q < 2 → (differ p q < 2) × (differ p q % 2 ≡ (p + q) % 2)
    digit zero q h k = (k, ap (λ (m : ℕ). m % 2) (sym (zero-add q)))
    digit (suc zero) zero h k = (omega arith, refl)
    digit (suc zero) (suc zero) h k = (omega arith, refl)
    digit (suc zero) (suc (suc q)) h k = absurd (omega arith)
    digit (suc (suc p)) q h k = absurd (omega arith)

    sums : (x l m p q d : ℕ) → x % 2 ≡ (l + m) % 2 → d % 2 ≡ (p + q) % 2 → (x + d) % 2 ≡ (p + l + (q + m)) % 2
    sums x l m p q d e f = omega arith

both_digits : (a b : ℕ) → a < 2 → b < 2 → cond (eqb a 1 && eqb b 1) 1 0 ≡ min a b
both_digits zero b h k = omega arith
both_digits (suc zero) zero h k = refl
both_digits (suc zero) (suc zero) h k = refl
both_digits (suc zero) (suc (suc b)) h k = absurd (omega arith)
both_digits (suc (suc a)) b h k = absurd (omega arith)

module _ (w j : ℕ) (k : Key) where
  abbrev x : ℕ
  x = get_or k j 0

  abbrev z : ℕ
  z = get_or k (w + j) 0

  x_bit : (n : ℕ) → n < 64 → bit_at k (64 * j + n) ≡ eqb (x / 2 ^ n % 2) 1
  unfolding bit_at bit_of
  x_bit n h = ap₂ (λ (i b : ℕ). eqb (get_or k i 0 / 2 ^ b % 2) 1) (quot j n h) (rem j n h)
    where
      quot : (j n : ℕ) → n < 64 → (64 * j + n) / 64 ≡ j
      quot j n h = omega arith

      rem : (j n : ℕ) → n < 64 → (64 * j + n) % 64 ≡ n
      rem j n h = omega arith

  z_bit : (n : ℕ) → n < 64 → bit_at k (z_at w (64 * j + n)) ≡ eqb (z / 2 ^ n % 2) 1
  unfolding bit_at bit_of
  z_bit n h = ap₂ (λ (i b : ℕ). eqb (get_or k i 0 / 2 ^ b % 2) 1) (quot w j n h) (rem w j n h)
    where
      quot : (w j n : ℕ) → n < 64 → (64 * w + (64 * j + n)) / 64 ≡ w + j
      quot w j n h = omega arith

      rem : (w j n : ℕ) → n < 64 → (64 * w + (64 * j + n)) % 64 ≡ n
      rem w j n h = omega arith

  here : (n : ℕ) → n < 64 → cond (bit_at k (64 * j + n) && bit_at k (z_at w (64 * j + n))) 1 0 ≡ bit_and x z / 2 ^ n % 2
  here n h =
      ap₂ (λ (a b : Bool). cond (a && b) 1 0) (x_bit n h) (z_bit n h)
      ∙ both_digits (x / 2 ^ n % 2) (z / 2 ^ n % 2) (mod-lt (x / 2 ^ n) (pow_pos 1)) (mod-lt (z / 2 ^ n) (pow_pos 1)) ∙ sym (and_digit x z n)

  counted : (n : ℕ) → n ≤ 64 → count_y w (64 * j + n) k ≡ ones (bit_and x z % 2 ^ n) + count_y w (64 * j) k
  unfolding count_y
  counted zero h = ap (λ (m : ℕ). count_y w m k) (add-zero (64 * j)) ∙ sym (ap (λ (m : ℕ). m + count_y w (64 * j) k) (ap ones (mod-one (bit_and x z)) ∙ ones_bit 0 (omega arith)) ∙ zero-add (count_y w (64 * j) k))
  counted (suc n) h =
      ap (λ (m : ℕ). count_y w m k) (add-suc (64 * j) n)
      ∙ ap₂ ◌+◌ (here n h) (counted n (omega arith))
      ∙ sym (add_assoc (bit_and x z / 2 ^ n % 2) (ones (bit_and x z % 2 ^ n)) (count_y w (64 * j) k))
      ∙ ap (λ (m : ℕ). m + count_y w (64 * j) k) (sym (next (bit_and x z) n) ∙ ap (λ (m : ℕ). ones (bit_and x z % 2 ^ m)) (one_plus n))
    where
      one_plus : (n : ℕ) → 1 + n ≡ suc n
      one_plus n = omega arith

  -- one word more
  pub word_ys : x < 2 ^ 64 → count_y w (64 * (j + 1)) k ≡ ones (bit_and x z) + count_y w (64 * j) k
  word_ys h =
      let next : 64 * (j + 1) ≡ 64 * j + 64 = omega arith in
      ap (λ (n : ℕ). count_y w n k) next ∙ counted 64 (omega arith)
      ∙ ap (λ (n : ℕ). ones n + count_y w (64 * j) k) (mod-eq_of_lt (lt_of_le_of_lt (and_le_l x z) h))

  pub parity_turn : (f : ℕ) → x < 2 ^ 64 → ones f % 2 ≡ count_y w (64 * j) k % 2 → ones (bit_xor f (bit_and x z)) % 2 ≡ count_y w (64 * (j + 1)) k % 2
  parity_turn f h e = ones_xor f (bit_and x z) ∙ sums (ones f) (ones (bit_and x z)) (count_y w (64 * j) k) e ∙ ap (λ (n : ℕ). n % 2) (sym (word_ys h))
    where
      sums : (m n c : ℕ) → m % 2 ≡ c % 2 → (m + n) % 2 ≡ (n + c) % 2
      sums m n c e = omega arith

  pub quarters_turn : (q : ℕ) → x < 2 ^ 64 → q ≡ count_y w (64 * j) k % 4 → (q + ones (bit_and x z)) % 4 ≡ count_y w (64 * (j + 1)) k % 4
  quarters_turn q h e = sums q (ones (bit_and x z)) (count_y w (64 * j) k) e ∙ ap (λ (n : ℕ). n % 4) (sym (word_ys h))
    where
      sums : (m n c : ℕ) → m ≡ c % 4 → (m + n) % 4 ≡ (n + c) % 4
      sums m n c e = omega arith

pub parity_start : (w : ℕ) (k : Key) → ones 0 % 2 ≡ count_y w (64 * 0) k % 2
unfolding count_y ones
parity_start w k = refl

pub quarters_start : (w : ℕ) (k : Key) → 0 ≡ count_y w (64 * 0) k % 4
unfolding count_y
quarters_start w k = refl

-- ---- bits past the end are clear

bit_clear : (k : Key) (i : ℕ) → 64 * length k ≤ i → bit_at k i ≡ false
unfolding bit_at bit_of
bit_clear k i h =
    let past : length k ≤ i / 64 = omega arith in
    ap (λ (x : ℕ). eqb (x / 2 ^ (i % 64) % 2) 1) (get_or-eq_default k 0 past) ∙ ap (λ (x : ℕ). eqb (x % 2) 1) (zero-div (2 ^ (i % 64)))

-- qubits whose z bit lies past the end
count_past : (w p d : ℕ) (k : Key) → 64 * length k ≤ z_at w p → count_y w (p + d) k ≡ count_y w p k
unfolding count_y
count_past w p zero k h = ap (λ (n : ℕ). count_y w n k) (add-zero p)
count_past w p (suc d) k h =
    ap (λ (n : ℕ). count_y w n k) (add-suc p d)
    ∙ ap (λ (b : Bool). cond (bit_at k (p + d) && b) 1 0 + count_y w (p + d) k) (bit_clear k (z_at w (p + d)) (omega arith))
    ∙ ap (λ (b : Bool). cond b 1 0 + count_y w (p + d) k) (and-false (bit_at k (p + d)))
    ∙ zero-add (count_y w (p + d) k) ∙ count_past w p d k h

-- the x words whose z word is there
pub ys_whole : (w : ℕ) (k : Key) (m : ℕ) → m ≡ min w (length k - w) → count_y w (64 * m) k ≡ ys_of w k
ys_whole w k m e = ⊎_elim
    (λ (l : m < w).
    let all : 64 * m + 64 * (w - m) ≡ 64 * w = omega arith in
    sym (count_past w (64 * m) (64 * (w - m)) k (omega arith)) ∙ ap (λ (n : ℕ). count_y w n k) all)
    (λ (l : w ≤ m). let same : 64 * m ≡ 64 * w = omega arith in ap (λ (n : ℕ). count_y w n k) same)
    (lt_or_le m w)
