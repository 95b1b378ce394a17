-- Laws of the places where lines start: each line of `parts` stands where `start_at` says. Assumes nothing.
use mathlib.Core.Path.{◌≡◌, refl, sym, ap, ◌∙◌}
use Prim.Native.Nat.{ℕ, zero, suc, ◌+◌, ◌-◌, ◌<◌, ◌≤◌}
use native.Mathlib.Numerals.{add-one}
use native.Mathlib.Nat.{add-zero, add-suc}
use native.Mathlib.Omega.{arith}
use mathlib.Core.Bool.{Bool, true, false}
use mathlib.Core.List.{List, [], ◌∷◌}
use lib.Dec.{ltb}
use lib.ListN.{length, drop, get_or, drop_of_length-le}
use borrow.Author.Tests.{lt-ltb, le-ltb, ltb-true, ltb-false}
use Rattle.text.specs.Bytes.{parts, index, before, newline}
use Rattle.text.proofs.PartLaws.{cursor_step, cursor_last, here}
use Rattle.layout.specs.Cursor.{line_at, next_at, start_at}

-- r is the text from a place on, m where its first byte 10 stands
module _ (s : List ℕ) (at : ℕ) (r : List ℕ) (m : ℕ) (t : r ≡ drop at s) (e : m ≡ index newline r) where
  pub next_there : m < length r → at + m + 1 ≡ next_at s at
  unfolding next_at
  next_there h = rw (← t, ← e, lt-ltb m (length r) h) (omega arith)

  pub next_end : length r ≤ m → length s ≡ next_at s at
  unfolding next_at
  next_end h = rw (← t, ← e, le-ltb m (length r) h)

-- at the end there is no next line
end_stays : (s : List ℕ) → next_at s (length s) ≡ length s
unfolding index
end_stays s = sym (next_end s (length s) [] 0 (sym (drop_of_length-le s {i = length s} (omega arith))) zero_index (omega arith))
  where
    zero_index : 0 ≡ index newline []
    zero_index = refl

pub start_next : (s : List ℕ) (at i place next : ℕ) → place ≡ start_at s at i → next ≡ next_at s place → next ≡ start_at s at (i + 1)
unfolding start_at
start_next s at i place next e f = f ∙ ap (next_at s) e ∙ ap (start_at s at) (sym (add-one i))

pub start_shift : (s : List ℕ) (at n : ℕ) → start_at s at (suc n) ≡ start_at s (next_at s at) n
unfolding start_at
start_shift s at zero = refl
start_shift s at (suc n) = ap (next_at s) (start_shift s at n)

pub start_add : (s : List ℕ) (at a b : ℕ) → start_at s (start_at s at a) b ≡ start_at s at (a + b)
unfolding start_at
start_add s at a zero = ap (start_at s at) (sym (add-zero a))
start_add s at a (suc b) = ap (next_at s) (start_add s at a b) ∙ ap (start_at s at) (sym (add-suc a b))

-- from the end on, every place is the end
ends_at : (s : List ℕ) (n : ℕ) → start_at s (length s) n ≡ length s
unfolding start_at
ends_at s zero = refl
ends_at s (suc n) = ap (next_at s) (ends_at s n) ∙ end_stays s

pub start_end : (s : List ℕ) (at i n place : ℕ) → place ≡ start_at s at i → i ≤ n → length s ≡ place → place ≡ start_at s at n
start_end s at i n place e h f = sym f ∙ sym (ends_at s (n - i)) ∙ ap (λ (p : ℕ). start_at s p (n - i)) (f ∙ e) ∙ start_add s at i (n - i) ∙ ap (start_at s at) (omega arith)

-- the line n lines further
line_from : (s : List ℕ) (n at : ℕ) → line_at s (start_at s at n) ≡ get_or (parts newline (drop at s)) n []
unfolding start_at parts
line_from s zero at = here newline s at (drop at s) refl (index newline (drop at s)) refl (before newline (drop at s)) refl
line_from s (suc n) at = ap (line_at s) (start_shift s at n) ∙ line_from s n (next_at s at) ∙ go (ltb (index newline (drop at s)) (length (drop at s))) refl
  where
    none : (k : ℕ) → get_or {A = List ℕ} ([] ∷ []) k [] ≡ []
    none zero = refl
    none (suc k) = refl

    no_parts : parts newline [] ≡ [] ∷ []
    no_parts = refl

    go : (b : Bool) → ltb (index newline (drop at s)) (length (drop at s)) ≡ b → get_or (parts newline (drop (next_at s at) s)) n [] ≡ get_or (parts newline (drop at s)) (suc n) []
    go true q =
        let h : index newline (drop at s) < length (drop at s) = ltb-true _ _ q in
        ap (λ (p : ℕ). get_or (parts newline (drop p s)) n []) (sym (next_there s at (drop at s) _ refl refl h))
        ∙ ap (λ (l : List (List ℕ)). get_or l (suc n) []) (sym (cursor_step newline s at (drop at s) refl _ refl h))
    go false q =
        let h : length (drop at s) ≤ index newline (drop at s) = ltb-false _ _ q in
        ap (λ (p : ℕ). get_or (parts newline (drop p s)) n []) (sym (next_end s at (drop at s) _ refl refl h))
        ∙ ap (λ (l : List ℕ). get_or (parts newline l) n []) (drop_of_length-le s {i = length s} (omega arith))
        ∙ ap (λ (l : List (List ℕ)). get_or l n []) no_parts ∙ none n
        ∙ ap (λ (l : List (List ℕ)). get_or l (suc n) []) (sym (cursor_last newline s at (drop at s) refl _ refl h))

pub line_there : (s : List ℕ) (n : ℕ) → line_at s (start_at s 0 n) ≡ get_or (parts newline s) n []
line_there s n = line_from s n 0
