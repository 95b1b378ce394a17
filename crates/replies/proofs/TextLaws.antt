-- The texts of numbers by their last digit, and the lines of the means by the last of them. Assumes nothing.
use Prim.Native.Nat.{ℕ, zero, suc, ◌+◌, ◌-◌, ◌/◌, ◌%◌, ◌^◌, ◌≤◌, ◌<◌}
use mathlib.Core.Path.{◌≡◌, refl, sym, ap, ◌∙◌}
use mathlib.Core.Bool.{true, false, cond, true≢false}
use mathlib.Core.List.{List, [], ◌∷◌, ◌++◌, append_assoc, append-nil}
use native.Mathlib.Nat.{suc-ne-zero}
use native.Mathlib.Numerals.{add-one, sub-one}
use native.Mathlib.Omega.{arith}
use lib.Dec.{ltb}
use lib.IntN.{ℤ, pos, negsuc, nat_abs}
use lib.Signed.{lt_z}
use mir.Syntax.{w64}
use mir.Val.{SFits, to_z, of_z}
use mir.ValLaws.{to_z-of_z}
use borrow.Author.Tests.{ltb-true}
use lib.Ieee.{Float, nan}
use lib.ListN.{length, get_or, take}
use lib.Seq.{take-suc}
use Rattle.text.specs.Bytes.{bytes}
use Rattle.text.specs.Numerals.{nat_text, hex_text}
use Rattle.text.proofs.SpellLaws.{short_text, long_text, enough}
use Rattle.replies.specs.Written.{Writes}
use Rattle.replies.specs.declared.Page.{Page}
use Rattle.replies.specs.Printed.{int_text, real_text, field, z_lines}
use Rattle.replies.proofs.WriteLaws.{both, put}

-- ---- decimal

pub digit_one : (n : ℕ) → n < 10 → (48 + n % 10) ∷ [] ≡ nat_text n
digit_one n h = ap (λ (k : ℕ). (48 + k) ∷ []) (omega arith) ∙ sym (short_text 19 n h)

pub digit_more : (n m : ℕ) → 10 ≤ n → n < 2 ^ 64 → m ≡ n / 10 → nat_text m ++ ((48 + n % 10) ∷ []) ≡ nat_text n
digit_more n m h f e =
    ap (λ (k : ℕ). nat_text k ++ ((48 + n % 10) ∷ [])) e
    ∙ ap (λ (l : List ℕ). l ++ ((48 + n % 10) ∷ [])) (enough 20 19 (n / 10) (omega arith) (omega arith) (omega arith))
    ∙ sym (long_text 19 n h)

-- ---- hexadecimal

pub hex_none : (d n : ℕ) → d ≡ 0 → [] ≡ hex_text d n
unfolding hex_text
hex_none zero n z = refl
hex_none (suc d) n z = absurd (suc-ne-zero d z)

pub hex_more : (d n b : ℕ) → (d ≡ 0 → ⊥) → b ≡ cond (ltb (n % 16) 10) (48 + n % 16) (87 + n % 16) → hex_text (d - 1) (n / 16) ++ (b ∷ []) ≡ hex_text d n
unfolding hex_text
hex_more zero n b z e = absurd (z refl)
hex_more (suc d) n b z e = λ i. hex_text (sub-one (suc d) i) (n / 16) ++ (e i ∷ [])

-- ---- a number with its sign, which code has as its 64 bits

pub as_held : (n : ℤ) → SFits w64 n → to_z w64 (of_z w64 n) ≡ n
as_held n f = to_z-of_z w64 n f

minus : (n : ℤ) → lt_z n (pos 0) ≡ true → 45 ∷ nat_text (nat_abs n) ≡ int_text n
minus (pos m) e = absurd (omega (arith, ltb-true m 0 e))
minus (negsuc m) e = refl

plus : (n : ℤ) → lt_z n (pos 0) ≡ false → nat_text (nat_abs n) ≡ int_text n
plus (pos m) e = refl
plus (negsuc m) e = absurd (true≢false e)

module _ (n : ℤ) (f : SFits w64 n) (k : ℕ) (s : k ≡ nat_abs (to_z w64 (of_z w64 n))) where
  pub text_minus : lt_z (to_z w64 (of_z w64 n)) (pos 0) ≡ true → 45 ∷ nat_text k ≡ int_text n
  text_minus e = rw (s, as_held n f) (minus n (rw (as_held n f) at e))

  pub text_plus : lt_z (to_z w64 (of_z w64 n)) (pos 0) ≡ false → nat_text k ≡ int_text n
  text_plus e = rw (s, as_held n f) (plus n (rw (as_held n f) at e))

-- ---- the lines of the means

z_lines_append : (xs ys : List Float) → z_lines (xs ++ ys) ≡ z_lines xs ++ z_lines ys
unfolding z_lines
z_lines_append [] ys = refl
z_lines_append (x ∷ xs) ys =
    ap (λ (l : List ℕ). field (bytes "z=") (real_text x) ++ l) (z_lines_append xs ys)
    ∙ sym (append_assoc (field (bytes "z=") (real_text x)) (z_lines xs) (z_lines ys))

one_line : (x : Float) → field (bytes "z=") (real_text x) ≡ z_lines (x ∷ [])
unfolding z_lines
one_line x = sym (append-nil (field (bytes "z=") (real_text x)))

module _ {p q r : Page} (xs : List Float) where
  pub lines_more : (i : ℕ) → i < length xs → Writes p (z_lines (take i xs)) q
      → Writes q (field (bytes "z=") (real_text (get_or xs i nan))) r → Writes p (z_lines (take (i + 1) xs)) r
  lines_more i h a b = put
      (ap (λ (l : List ℕ). z_lines (take i xs) ++ l) (one_line (get_or xs i nan))
      ∙ sym (z_lines_append (take i xs) (get_or xs i nan ∷ []))
      ∙ ap z_lines (sym (take-suc xs i nan h) ∙ ap (λ (k : ℕ). take k xs) (sym (add-one i))))
      (both a b)
