-- Laws of the readers of numbers: what the loops' invariants need, stated over lists and numbers.
use Prim.Native.Nat.{ℕ, ◌+◌, ◌-◌, ◌*◌, ◌^◌, ◌<◌, ◌≤◌}
use mathlib.Core.Path.{◌≡◌, refl, sym, ap, ◌∙◌}
use mathlib.Core.List.{List, [], ◌∷◌}
use mathlib.Core.Bool.{Bool, true, false, cond, ◌&&◌, and-false}
use native.Mathlib.Numerals.{add-one}
use native.Mathlib.Nat.{pow-suc, pow-le-pow_right, lt_of_lt_of_le}
use native.Mathlib.Omega.{arith}
use borrow.Author.Tests.{eq-eqb, ne_eqb, lt-ltb, le-ltb, lt-leb, le-leb, leb-true}
use lib.ListN.{length, get_or, drop, drop_of_length-le}
use lib.Seq.{drop-cons}
use lib.Dec.{lit<, leb}
use Rattle.std.specs.Option.{SomeIff}
use Rattle.std.specs.Prelude.{Option, Some, None}
use Rattle.text.specs.Numerals.{steps, next_digit, decimal, hex_digit, next_hex, hex16}

-- what is bad stays bad
pub steps_bad : (f : Option ℕ → ℕ → Option ℕ) → ((b : ℕ) → f None b ≡ None) → (l : List ℕ) → steps f l None ≡ None
unfolding steps
steps_bad f k [] = refl
steps_bad f k (b ∷ bs) = ap (steps f bs) (k b) ∙ steps_bad f k bs

pub digit_stays : (b : ℕ) → next_digit None b ≡ None
unfolding next_digit
digit_stays b = refl

pub hex_stays : (b : ℕ) → next_hex None b ≡ None
unfolding next_hex
hex_stays b = refl

-- a loop that has read i bytes, to r, of a text whose number is n
module _ (f : Option ℕ → ℕ → Option ℕ) (n : Option ℕ) (s : List ℕ) (i : ℕ) (r : Option ℕ) (inv : steps f (drop i s) r ≡ n) where
  pub steps_next : (q : Option ℕ) → i < length s → q ≡ f r (get_or s i 0) → steps f (drop (i + 1) s) q ≡ n
  unfolding steps
  steps_next q h e = rw e (rw (drop-cons s i 0, ← add-one) at inv)

  pub steps_end : length s ≤ i → r ≡ n
  unfolding steps
  steps_end h = rw (drop_of_length-le s h) at inv

  pub steps_stop : ((b : ℕ) → f None b ≡ None) → i < length s → None ≡ f r (get_or s i 0) → None ≡ n
  steps_stop k h e = sym (steps_bad f k (drop (i + 1) s)) ∙ steps_next None h e

-- when the number is that of the digits, and when there is none
pub decimal_none : (s : List ℕ) → length s ≡ 0 → None ≡ decimal s
unfolding decimal
decimal_none [] h = refl
decimal_none (b ∷ []) h = absurd (omega (arith, h))
decimal_none (b ∷ d ∷ bs) h = absurd (omega (arith, h))

pub decimal_zero : (s : List ℕ) → 1 < length s → get_or s 0 0 ≡ 48 → None ≡ decimal s
unfolding decimal
decimal_zero [] h e = absurd (omega (arith, h))
decimal_zero (b ∷ []) h e = absurd (omega (arith, h))
decimal_zero (b ∷ d ∷ bs) h e = rw (eq-eqb _ _ e)

pub decimal_one : (s : List ℕ) → (length s ≡ 0 → ⊥) → length s ≤ 1 → steps next_digit s (Some 0) ≡ decimal s
unfolding decimal
decimal_one [] n h = absurd (n refl)
decimal_one (b ∷ []) n h = refl
decimal_one (b ∷ d ∷ bs) n h = absurd (omega (arith, h))

pub decimal_more : (s : List ℕ) → 1 < length s → (get_or s 0 0 ≡ 48 → ⊥) → steps next_digit s (Some 0) ≡ decimal s
unfolding decimal
decimal_more [] h e = absurd (omega (arith, h))
decimal_more (b ∷ []) h e = absurd (omega (arith, h))
decimal_more (b ∷ d ∷ bs) h e = rw (ne_eqb _ _ e)

-- exactly 16 bytes
pub hex16_none : (s : List ℕ) → (length s ≡ 16 → ⊥) → None ≡ hex16 s
unfolding hex16
hex16_none s h = rw (ne_eqb _ _ h)

pub hex16_start : (s : List ℕ) → length s ≡ 16 → steps next_hex s (Some 0) ≡ hex16 s
unfolding hex16
hex16_start s h = rw (eq-eqb _ _ h)

-- one decimal digit more
pub digit_under : (v b : ℕ) → b < 48 → None ≡ next_digit (Some v) b
unfolding next_digit
digit_under v b h = rw (lt-leb 48 b h)

pub digit_over : (v b : ℕ) → 57 < b → None ≡ next_digit (Some v) b
unfolding next_digit
digit_over v b h = rw (lt-leb b 57 h, and-false)

pub digit_full : (v b : ℕ) → 2 ^ 64 ≤ 10 * v + (b - 48) → None ≡ next_digit (Some v) b
unfolding next_digit
digit_full v b h = rw (le-ltb (10 * v + (b - 48)) 18446744073709551616 h, and-false)

pub digit_fits : (v b : ℕ) → 48 ≤ b → b ≤ 57 → 10 * v + (b - 48) < 2 ^ 64 → Some (10 * v + (b - 48)) ≡ next_digit (Some v) b
unfolding next_digit
digit_fits v b l u h = rw (le-leb 48 b l, le-leb b 57 u, lt-ltb (10 * v + (b - 48)) 18446744073709551616 h)

-- what std's `checked_add` answers of the digits before it times 10, and its value
pub digit_added : (v b w : ℕ) (r : Option ℕ) → w ≡ 10 * v → 48 ≤ b → b ≤ 57 → SomeIff r (w + (b - 48) < 2 ^ 64) (w + (b - 48)) → r ≡ next_digit (Some v) b
digit_added v b w None e l u h = digit_full v b (omega (arith, h))
digit_added v b w (Some x) e l u h = ap Some (omega (arith, h)) ∙ digit_fits v b l u (omega (arith, h))

-- the bytes of hexadecimal digits
pub hex_number : (b : ℕ) → 48 ≤ b → b ≤ 57 → hex_digit b ≡ Some (b - 48)
unfolding hex_digit
hex_number b l u = rw (le-leb 48 b l, le-leb b 57 u)

pub hex_letter : (b : ℕ) → 97 ≤ b → b ≤ 102 → hex_digit b ≡ Some (b - 87)
unfolding hex_digit
hex_letter b l u = rw (lt-leb b 57 (omega arith), and-false, le-leb 97 b l, le-leb b 102 u)

-- what has a value is below 16
pub hex_low : (b d : ℕ) → hex_digit b ≡ Some d → d < 16
unfolding hex_digit
hex_low b d e = go (leb 48 b) (leb b 57) (leb 97 b) (leb b 102) refl refl refl refl e
  where
    go : (t u w x : Bool) → leb 48 b ≡ t → leb b 57 ≡ u → leb 97 b ≡ w → leb b 102 ≡ x → cond (t && u) (Some (b - 48)) (cond (w && x) (Some (b - 87)) None) ≡ Some d → d < 16
    go true true w x e f g k h = let q : b - 48 ≡ d = cc in let m = leb-true _ _ f in omega arith
    go true false true true e f g k h = let q : b - 87 ≡ d = cc in let m = leb-true _ _ k in omega arith
    go true false true false e f g k h = cc
    go true false false x e f g k h = cc
    go false u true true e f g k h = let q : b - 87 ≡ d = cc in let m = leb-true _ _ k in omega arith
    go false u true false e f g k h = cc
    go false u false x e f g k h = cc

-- one hexadecimal digit more
pub hex_good : (v b d : ℕ) → hex_digit b ≡ Some d → Some (16 * v + d) ≡ next_hex (Some v) b
unfolding next_hex
hex_good v b d e = rw e

pub hex_bad : (v b : ℕ) → hex_digit b ≡ None → None ≡ next_hex (Some v) b
unfolding next_hex
hex_bad v b e = rw e

-- a number of i hexadecimal digits, and one digit more
pub hex_grows : (i v d : ℕ) → v < 16 ^ i → d < 16 → 16 * v + d < 16 ^ (i + 1)
hex_grows i v d h l = rw (add-one, pow-suc 16 i) (omega arith)

pub hex_fits : (i v d : ℕ) → v < 16 ^ i → d < 16 → i < 16 → 16 * v + d < 18446744073709551616
hex_fits i v d h l b = lt_of_lt_of_le (hex_grows i v d h l) (pow-le-pow_right {n = 16} (lit< tt) {i = i + 1} {j = 16} (omega arith))
