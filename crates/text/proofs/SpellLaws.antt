-- A text is read as a number just if it is that number's spelling.
use Prim.Native.Nat.{ℕ, zero, suc, ◌+◌, ◌-◌, ◌*◌, ◌/◌, ◌%◌, ◌^◌, ◌<◌, ◌≤◌}
use mathlib.Core.Path.{◌≡◌, refl, sym, ap, subst, ◌∙◌}
use mathlib.Core.List.{List, [], ◌∷◌, ◌++◌, append_assoc, append-nil}
use mathlib.Core.Bool.{Bool, true, false, cond, ◌&&◌, and-eq-true_iff}
use native.Mathlib.Nat.{pow-suc, mul-le-mul_right, zero-add, add-zero, zero-lt-suc, div-lt_iff_lt-mul}
use native.Mathlib.Omega.{arith}
use borrow.Author.Tests.{ltb-true, ltb-false, leb-true, eqb-true, eqb-false, lt-ltb, le-ltb, ne_eqb}
use lib.ListN.{length, get_or, length-append}
use lib.Dec.{ltb, leb, eqb}
use Rattle.std.specs.Prelude.{Option, Some, None, option_map, unwrap_or}
use Rattle.text.specs.Numerals.{steps, is_digit, next_digit, decimal, hex_digit, next_hex, hex16, decimal_text, nat_text, hex_text}
use Rattle.text.proofs.ReadLaws.{steps_bad, digit_stays, hex_stays, digit_fits, hex_number, hex_letter, hex_low, hex16_start}

-- ---- what was read

bad_no_number : (v : ℕ) → None ≡ Some v → ⊥
bad_no_number v e = cc

same_number : (a b : ℕ) → Some a ≡ Some b → a ≡ b
same_number a b h = cc

-- ---- steps

-- the last byte's step is the last step
pub steps_snoc : (f : Option ℕ → ℕ → Option ℕ) (xs : List ℕ) (b : ℕ) (r : Option ℕ) → steps f (xs ++ (b ∷ [])) r ≡ f (steps f xs r) b
unfolding steps
steps_snoc f [] b r = refl
steps_snoc f (x ∷ xs) b r = steps_snoc f xs b (f r x)

-- what is bad gives no number
bad_is_none : (f : Option ℕ → ℕ → Option ℕ) → ((b : ℕ) → f None b ≡ None) → (l : List ℕ) (v : ℕ) → steps f l None ≡ Some v → ⊥
bad_is_none f k l v e = bad_no_number v (sym (steps_bad f k l) ∙ e)

one_over : (a b : ℕ) → suc a + b ≡ a + suc b
one_over a b = omega arith

-- ---- digits that were read spell the number that was read, in any base

-- one digit more
grows : (base d u g : ℕ) → u < base ^ d → g < base → base * u + g < base ^ suc d
grows base d u g h l = rw (pow-suc base d) (omega (arith, mul-le-mul_right base h))

module _ (base : ℕ) (next : Option ℕ → ℕ → Option ℕ) (value : ℕ → ℕ) (text : ℕ → ℕ → List ℕ) (Good Digit : ℕ → Type 0) (low : (b : ℕ) → Digit b → value b < base)
    (read : (u b : ℕ) (bs : List ℕ) (v : ℕ) → Good u → steps next (b ∷ bs) (Some u) ≡ Some v
    → Digit b × Good (base * u + value b) × (steps next bs (Some (base * u + value b)) ≡ Some v))
    (snoc : (d u b : ℕ) → Good u → Digit b → text (suc d) (base * u + value b) ≡ text d u ++ (b ∷ [])) where
  -- d digits that were read, to u, before the bytes that are left, spell the number v
  spelled : (s : List ℕ) (d u v : ℕ) → Good u → u < base ^ d → steps next s (Some u) ≡ Some v
      → Good v × (v < base ^ (d + length s)) × (text d u ++ s ≡ text (d + length s) v)
  unfolding steps
  spelled [] d u v g h e =
      let q = same_number u v e in
      let z = sym (add-zero d) in (
        subst Good q g,
        subst (λ (x : ℕ). v < base ^ x) z (subst (λ (x : ℕ). x < base ^ d) q h),
        append-nil (text d u) ∙ ap (text d) q ∙ ap (λ (k : ℕ). text k v) z,
      )
  spelled (b ∷ bs) d u v g h e =
      let r = read u b bs v g e in
      let w = spelled bs (suc d) (base * u + value b) v r.1 (grows base d u (value b) h (low b r.0)) r.2 in
      let o = one_over d (length bs) in (
        w.0,
        subst (λ (x : ℕ). v < base ^ x) o w.1,
        sym (append_assoc (text d u) (b ∷ []) bs) ∙ ap (λ (x : List ℕ). x ++ bs) (sym (snoc d u b g r.0)) ∙ w.2 ∙ ap (λ (k : ℕ). text k v) o,
      )

-- ---- hexadecimal digits

-- the byte of a digit, as hex_text has it
abbrev hex_byte : ℕ → ℕ
hex_byte g = cond (ltb g 10) (48 + g) (87 + g)

-- the value of that byte is the digit, and a byte with a value is that value's byte
hex_digit_of : (g : ℕ) → g < 16 → hex_digit (hex_byte g) ≡ Some g
hex_digit_of g h = go (ltb g 10) refl
  where
    minus : (a : ℕ) → a + g - a ≡ g
    minus a = omega arith

    go : (t : Bool) → ltb g 10 ≡ t → hex_digit (cond t (48 + g) (87 + g)) ≡ Some g
    go true e = let l = ltb-true g 10 e in hex_number (48 + g) (omega arith) (omega (arith, l)) ∙ ap Some (minus 48)
    go false e = let l = ltb-false g 10 e in hex_letter (87 + g) (omega (arith, l)) (omega (arith, h)) ∙ ap Some (minus 87)

hex_byte_of : (b d : ℕ) → hex_digit b ≡ Some d → hex_byte d ≡ b
unfolding hex_digit
hex_byte_of b d e = go (leb 48 b) (leb b 57) (leb 97 b) (leb b 102) refl refl refl refl e
  where
    number : 48 ≤ b → b ≤ 57 → b - 48 ≡ d → hex_byte d ≡ b
    number l m q = rw (lt-ltb d 10 (omega arith)) (omega arith)

    letter : 97 ≤ b → b ≤ 102 → b - 87 ≡ d → hex_byte d ≡ b
    letter l m q = rw (le-ltb d 10 (omega arith)) (omega arith)

    go : (t u w x : Bool) → leb 48 b ≡ t → leb b 57 ≡ u → leb 97 b ≡ w → leb b 102 ≡ x
        → cond (t && u) (Some (b - 48)) (cond (w && x) (Some (b - 87)) None) ≡ Some d → hex_byte d ≡ b
    go true true w x e f g k h = number (leb-true _ _ e) (leb-true _ _ f) cc
    go true false true true e f g k h = letter (leb-true _ _ g) (leb-true _ _ k) cc
    go true false true false e f g k h = cc
    go true false false x e f g k h = cc
    go false u true true e f g k h = letter (leb-true _ _ g) (leb-true _ _ k) cc
    go false u true false e f g k h = cc
    go false u false x e f g k h = cc

-- ---- hexadecimal texts

pub length_hex_text : (d v : ℕ) → length (hex_text d v) ≡ d
unfolding hex_text
length_hex_text zero v = refl
length_hex_text (suc d) v = length-append (hex_text d (v / 16)) _ ∙ rw (length_hex_text d (v / 16)) (omega arith)

-- the digits of a number are read as the number
hex_steps : (d v : ℕ) → v < 16 ^ d → steps next_hex (hex_text d v) (Some 0) ≡ Some v
unfolding hex_text steps next_hex
hex_steps zero v h = ap Some (omega (arith, h))
hex_steps (suc d) v h =
    steps_snoc next_hex (hex_text d (v / 16)) (hex_byte (v % 16)) (Some 0)
    ∙ ap (λ (r : Option ℕ). next_hex r (hex_byte (v % 16))) (hex_steps d (v / 16) ((div-lt_iff_lt-mul (zero-lt-suc 15)).1 (subst (λ (x : ℕ). v < x) (pow-suc 16 d) h)))
    ∙ last (v % 16) (omega arith) (omega arith)
  where
    last : (g : ℕ) → g < 16 → 16 * (v / 16) + g ≡ v → next_hex (Some (v / 16)) (hex_byte g) ≡ Some v
    last g l e = rw (hex_digit_of g l, e)

-- each number has its spelling
pub hex_reads : (v : ℕ) → v < 2 ^ 64 → hex16 (hex_text 16 v) ≡ Some v
hex_reads v h = sym (hex16_start (hex_text 16 v) (length_hex_text 16 v)) ∙ hex_steps 16 v h

-- the value of a byte, and what it takes that the first byte of a text is read
abbrev hex_value : ℕ → ℕ
hex_value b = unwrap_or (hex_digit b) 0

abbrev IsHex : ℕ → Type 0
IsHex b = hex_digit b ≡ Some (hex_value b)

hex_read : (u b : ℕ) (bs : List ℕ) (v : ℕ) → Unit {0} → steps next_hex (b ∷ bs) (Some u) ≡ Some v
    → IsHex b × Unit {0} × (steps next_hex bs (Some (16 * u + hex_value b)) ≡ Some v)
unfolding steps next_hex
hex_read u b bs v g e = go (hex_digit b) refl e
  where
    go : (r : Option ℕ) → hex_digit b ≡ r → steps next_hex bs (option_map (λ d. 16 * u + d) r) ≡ Some v
        → (hex_digit b ≡ Some (unwrap_or (hex_digit b) 0)) × Unit {0} × (steps next_hex bs (Some (16 * u + unwrap_or (hex_digit b) 0)) ≡ Some v)
    go (Some d) q h = rw q (refl, tt, h)
    go None q h = absurd (bad_is_none next_hex hex_stays bs v h)

-- one digit more at the end of the text, and of the number
hex_snoc : (d u b : ℕ) → Unit {0} → IsHex b → hex_text (suc d) (16 * u + hex_value b) ≡ hex_text d u ++ (b ∷ [])
unfolding hex_text
hex_snoc d u b o l = go (hex_value b) l
  where
    go : (g : ℕ) → hex_digit b ≡ Some g → hex_text (suc d) (16 * u + g) ≡ hex_text d u ++ (b ∷ [])
    go g l =
        let k = hex_low b g l in
        let q : (16 * u + g) / 16 ≡ u = omega arith in
        let m : (16 * u + g) % 16 ≡ g = omega arith in
        rw (q, m, hex_byte_of b g l)

hex_whole : (s : List ℕ) (v : ℕ) → steps next_hex s (Some 0) ≡ Some v → (s ≡ hex_text (length s) v) × (v < 16 ^ length s)
unfolding hex_text
hex_whole s v h =
    let w = spelled 16 next_hex hex_value hex_text (λ u. Unit {0}) IsHex (λ b l. hex_low b _ l) hex_read hex_snoc s 0 0 v tt (zero-lt-suc 0) h in
    (w.2 ∙ ap (λ (k : ℕ). hex_text k v) (zero-add (length s)), subst (λ (k : ℕ). v < 16 ^ k) (zero-add (length s)) w.1)

hex_both : (s : List ℕ) (v : ℕ) → hex16 s ≡ Some v → (s ≡ hex_text 16 v) × (v < 2 ^ 64)
unfolding hex16
hex_both s v e = go (eqb (length s) 16) refl e
  where
    go : (t : Bool) → eqb (length s) 16 ≡ t → cond t (steps next_hex s (Some 0)) None ≡ Some v → (s ≡ hex_text 16 v) × (v < 2 ^ 64)
    go true t h =
        let w = hex_whole s v h in
        let l = eqb-true _ _ t in
        (w.0 ∙ ap (λ (k : ℕ). hex_text k v) l, subst (λ (k : ℕ). v < 16 ^ k) l w.1)
    go false t h = absurd (bad_no_number v h)

-- a text that is read is the number's spelling, and the number is below 2 ^ 64
pub hex_spells : (s : List ℕ) (v : ℕ) → hex16 s ≡ Some v → s ≡ hex_text 16 v
hex_spells s v e = (hex_both s v e).0

pub hex_below : (s : List ℕ) (v : ℕ) → hex16 s ≡ Some v → v < 2 ^ 64
hex_below s v e = (hex_both s v e).1

-- ---- one decimal digit

-- a digit g after a number u
digit_good : (u g n : ℕ) → g < 10 → 10 * u + g ≡ n → n < 2 ^ 64 → next_digit (Some u) (48 + g) ≡ Some n
digit_good u g n l e h =
    let m : 10 * u + (48 + g - 48) ≡ n = omega (arith, e) in
    sym (digit_fits u (48 + g) (omega arith) (omega (arith, l)) (omega (arith, m, h))) ∙ ap Some m

-- what it takes that the first byte of a text is read
abbrev IsDigit : ℕ → Type 0
IsDigit b = (b ≡ 48 + (b - 48)) × (b - 48 < 10)

digit_read : (u b : ℕ) (bs : List ℕ) (v : ℕ) → steps next_digit (b ∷ bs) (Some u) ≡ Some v
    → IsDigit b × (10 * u + (b - 48) < 2 ^ 64) × (steps next_digit bs (Some (10 * u + (b - 48))) ≡ Some v)
unfolding steps next_digit
digit_read u b bs v e = go (is_digit b && ltb (10 * u + (b - 48)) (2 ^ 64)) refl e
  where
    go : (t : Bool) → (is_digit b && ltb (10 * u + (b - 48)) (2 ^ 64)) ≡ t → steps next_digit bs (cond t (Some (10 * u + (b - 48))) None) ≡ Some v
        → IsDigit b × (10 * u + (b - 48) < 2 ^ 64) × (steps next_digit bs (Some (10 * u + (b - 48))) ≡ Some v)
    go false q h = absurd (bad_is_none next_digit digit_stays bs v h)
    go true q h =
        let a = (and-eq-true_iff (is_digit b) _).0 q in
        let d = (and-eq-true_iff (leb 48 b) (leb b 57)).0 a.0 in
        let lo : 48 ≤ b = leb-true _ _ d.0 in
        let hi : b ≤ 57 = leb-true _ _ d.1 in
        ((omega arith, omega arith), ltb-true _ _ a.1, h)

-- ---- decimal texts

-- the text of one digit, and of more
pub short_text : (d n : ℕ) → n < 10 → decimal_text (suc d) n ≡ (48 + n) ∷ []
unfolding decimal_text
short_text d n h = rw (lt-ltb n 10 h)

pub long_text : (d n : ℕ) → 10 ≤ n → decimal_text (suc d) n ≡ decimal_text d (n / 10) ++ ((48 + n % 10) ∷ [])
unfolding decimal_text
long_text d n h = rw (le-ltb n 10 h)

tenth : (d n : ℕ) → n < 10 ^ suc d → n / 10 < 10 ^ d
tenth d n h = (div-lt_iff_lt-mul (zero-lt-suc 9)).1 (subst (λ (x : ℕ). n < x) (pow-suc 10 d) h)

-- the digits of a number are read as the number
decimal_steps : (d n : ℕ) → n < 10 ^ d → n < 2 ^ 64 → steps next_digit (decimal_text d n) (Some 0) ≡ Some n
unfolding decimal_text steps
decimal_steps zero n h k = ap Some (omega (arith, h))
decimal_steps (suc d) n h k = go (ltb n 10) refl (decimal_steps d (n / 10) (tenth d n h) (omega (arith, k)))
  where
    go : (t : Bool) → ltb n 10 ≡ t → steps next_digit (decimal_text d (n / 10)) (Some 0) ≡ Some (n / 10) → steps next_digit (decimal_text (suc d) n) (Some 0) ≡ Some n
    go true t ih = ap (λ (x : List ℕ). steps next_digit x (Some 0)) (short_text d n (ltb-true _ _ t)) ∙ digit_good 0 n n (ltb-true _ _ t) (zero-add n) k
    go false t ih =
        ap (λ (x : List ℕ). steps next_digit x (Some 0)) (long_text d n (ltb-false _ _ t))
        ∙ steps_snoc next_digit (decimal_text d (n / 10)) (48 + n % 10) (Some 0)
        ∙ ap (λ (r : Option ℕ). next_digit r (48 + n % 10)) ih
        ∙ digit_good (n / 10) (n % 10) n (omega arith) (omega arith) k

-- a number that is not 0 does not start with the digit 0
no_zero : (d n : ℕ) → 1 ≤ n → n < 10 ^ d → 48 < get_or (decimal_text d n) 0 0
no_zero zero n p h = absurd (omega (arith, p, h))
no_zero (suc d) n p h = go (ltb n 10) refl (no_zero d (n / 10))
  where
    longer : (xs ys : List ℕ) → 48 < get_or xs 0 0 → 48 < get_or (xs ++ ys) 0 0
    longer [] ys k = absurd (omega (arith, k))
    longer (x ∷ xs) ys k = k

    go : (t : Bool) → ltb n 10 ≡ t → (1 ≤ n / 10 → n / 10 < 10 ^ d → 48 < get_or (decimal_text d (n / 10)) 0 0) → 48 < get_or (decimal_text (suc d) n) 0 0
    go true t ih = subst (λ (x : List ℕ). 48 < get_or x 0 0) (sym (short_text d n (ltb-true _ _ t))) (omega (arith, p))
    go false t ih =
        let l = ltb-false _ _ t in
        subst (λ (x : List ℕ). 48 < get_or x 0 0) (sym (long_text d n l)) (longer (decimal_text d (n / 10)) _ (ih (omega (arith, l)) (tenth d n h)))

decimal_is : (s : List ℕ) → 48 < get_or s 0 0 → decimal s ≡ steps next_digit s (Some 0)
unfolding decimal
decimal_is [] h = absurd (omega (arith, h))
decimal_is (b ∷ []) h = refl
decimal_is (b ∷ d ∷ bs) h = rw (ne_eqb b 48 (λ e. omega (arith, h, e)))

-- 2 ^ 64 is below 10 ^ 20
below_20 : (n : ℕ) → n < 2 ^ 64 → n < 10 ^ 20
below_20 n h = omega (arith, h)

decimal_zero_reads : decimal (nat_text 0) ≡ Some 0
unfolding decimal decimal_text steps next_digit
decimal_zero_reads = refl

-- each number has its spelling
pub decimal_reads : (n : ℕ) → n < 2 ^ 64 → decimal (nat_text n) ≡ Some n
decimal_reads zero h = decimal_zero_reads
decimal_reads (suc n) h = decimal_is (nat_text (suc n)) (no_zero 20 (suc n) (omega arith) (below_20 (suc n) h)) ∙ decimal_steps 20 (suc n) (below_20 (suc n) h) h

-- any two counts of digits that are enough give the same text
pub enough : (d e n : ℕ) → 1 ≤ n → n < 10 ^ d → n < 10 ^ e → decimal_text d n ≡ decimal_text e n
enough zero e n p h k = absurd (omega (arith, p, h))
enough (suc d) zero n p h k = absurd (omega (arith, p, k))
enough (suc d) (suc e) n p h k = go (ltb n 10) refl (enough d e (n / 10))
  where
    go : (t : Bool) → ltb n 10 ≡ t → (1 ≤ n / 10 → n / 10 < 10 ^ d → n / 10 < 10 ^ e → decimal_text d (n / 10) ≡ decimal_text e (n / 10)) → decimal_text (suc d) n ≡ decimal_text (suc e) n
    go true t ih = short_text d n (ltb-true _ _ t) ∙ sym (short_text e n (ltb-true _ _ t))
    go false t ih =
        let l = ltb-false _ _ t in
        long_text d n l
        ∙ ap (λ (x : List ℕ). x ++ ((48 + n % 10) ∷ [])) (ih (omega (arith, l)) (tenth d n h) (tenth e n k))
        ∙ sym (long_text e n l)

-- what was read and is not 0
abbrev Good : ℕ → Type 0
Good u = (1 ≤ u) × (u < 2 ^ 64)

good_read : (u b : ℕ) (bs : List ℕ) (v : ℕ) → Good u → steps next_digit (b ∷ bs) (Some u) ≡ Some v
    → IsDigit b × Good (10 * u + (b - 48)) × (steps next_digit bs (Some (10 * u + (b - 48))) ≡ Some v)
good_read u b bs v g e = let r = digit_read u b bs v e in (r.0, (omega (arith, g.0), r.1), r.2)

good_snoc : (d u b : ℕ) → Good u → IsDigit b → decimal_text (suc d) (10 * u + (b - 48)) ≡ decimal_text d u ++ (b ∷ [])
good_snoc d u b g r = go (b - 48) r.0 r.1 g.0
  where
    go : (g : ℕ) → b ≡ 48 + g → g < 10 → 1 ≤ u → decimal_text (suc d) (10 * u + g) ≡ decimal_text d u ++ (b ∷ [])
    go g k l p =
        let q : (10 * u + g) / 10 ≡ u = omega arith in
        let m : (10 * u + g) % 10 ≡ g = omega arith in
        long_text d (10 * u + g) (omega arith) ∙ rw (q, m, k)

-- a text of one digit, and of more
decimal_one_spells : (b n : ℕ) → steps next_digit (b ∷ []) (Some 0) ≡ Some n → (b ∷ [] ≡ nat_text n) × (n < 2 ^ 64)
unfolding steps
decimal_one_spells b n e =
    let r = digit_read 0 b [] n e in
    let q : b - 48 ≡ n = sym (zero-add (b - 48)) ∙ same_number _ _ r.2 in
    (ap (λ (x : ℕ). x ∷ []) r.0.0 ∙ sym (short_text 19 (b - 48) r.0.1) ∙ ap nat_text q, subst (λ (x : ℕ). x < 2 ^ 64) q (omega (arith, r.0.1)))

decimal_more_spells : (b : ℕ) (bs : List ℕ) (n : ℕ) → (b ≡ 48 → ⊥) → steps next_digit (b ∷ bs) (Some 0) ≡ Some n → (b ∷ bs ≡ nat_text n) × (n < 2 ^ 64)
decimal_more_spells b bs n z e =
    let r = digit_read 0 b bs n e in
    let low = r.0.1 in
    let w = spelled 10 next_digit (λ b. b - 48) decimal_text Good IsDigit (λ b i. i.1) good_read good_snoc bs 1 (b - 48) n
    (pos (b - 48) r.0.0, omega arith) low (rw zero-add at r.2) in (
      ap (λ (x : ℕ). x ∷ bs) r.0.0
          ∙ ap (λ (x : List ℕ). x ++ bs) (sym (short_text 0 (b - 48) low))
          ∙ w.2
          ∙ enough (1 + length bs) 20 n w.0.0 w.1 (below_20 n w.0.1),
      w.0.1,
    )
  where
    pos : (g : ℕ) → b ≡ 48 + g → 1 ≤ g
    pos zero k = absurd (z k)
    pos (suc g) k = omega arith

decimal_both : (s : List ℕ) (n : ℕ) → decimal s ≡ Some n → (s ≡ nat_text n) × (n < 2 ^ 64)
unfolding decimal
decimal_both [] n e = absurd (bad_no_number n e)
decimal_both (b ∷ []) n e = decimal_one_spells b n e
decimal_both (b ∷ d ∷ bs) n e = go (eqb b 48) refl e
  where
    go : (t : Bool) → eqb b 48 ≡ t → cond t None (steps next_digit (b ∷ d ∷ bs) (Some 0)) ≡ Some n → (b ∷ d ∷ bs ≡ nat_text n) × (n < 2 ^ 64)
    go true t h = absurd (bad_no_number n h)
    go false t h = decimal_more_spells b (d ∷ bs) n (eqb-false _ _ t) h

-- a text that is read is the number's spelling, and the number is below 2 ^ 64
pub decimal_spells : (s : List ℕ) (n : ℕ) → decimal s ≡ Some n → s ≡ nat_text n
decimal_spells s n e = (decimal_both s n e).0

pub decimal_below : (s : List ℕ) (n : ℕ) → decimal s ≡ Some n → n < 2 ^ 64
decimal_below s n e = (decimal_both s n e).1
