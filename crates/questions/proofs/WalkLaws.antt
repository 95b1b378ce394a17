-- Questions put line by line: the walks of the code, and the set of 256 qubits. Assumes nothing.
use mathlib.Core.Path.{◌≡◌, refl, sym, ap, ap₂, ◌∙◌}
use Prim.Native.Nat.{ℕ, suc, ◌+◌, ◌<◌, ◌≤◌}
use native.Mathlib.Numerals.{add-one}
use native.Mathlib.Nat.{add-zero, add-suc}
use native.Mathlib.Omega.{arith}
use mathlib.Core.Bool.{Bool, true, false, cond, ◌&&◌}
use mathlib.Core.List.{List, [], ◌∷◌}
use lib.Dec.{ltb}
use lib.ListN.{length, take, drop, get_or, drop_of_length-le, get_or-map}
use lib.Seq.{drop-cons, get_or-take, get_or-drop}
use borrow.Author.Tests.{ltb-true, lt-ltb}
use Rattle.std.specs.Prelude.{Option, None, Some}
use Rattle.text.specs.Bytes.{parts, newline}
use Rattle.terms.proofs.CaseLaws.{and_true}
use Rattle.ops.specs.Task.{every}
use Rattle.lines.specs.TermLines.{line_on, all_below, distinct}
use Rattle.layout.specs.declared.Head.{Head}
use Rattle.layout.specs.Cursor.{line_at, start_at}
use Rattle.layout.specs.Layout.{term_lines}
use Rattle.layout.proofs.CursorLaws.{line_there}
use Rattle.questions.specs.Verdict.{RefusedAt, Passed}
use Rattle.questions.specs.Questions.{fault_of, refused_by, first_fault}

-- ---- a walk that has passed i elements, the first of which stands at line k: none is refused
pub record Walked {A : Type 0} (f : A → Option ℕ) (k : ℕ) (l : List A) (i : ℕ) : Type 0 where
  pub rest : first_fault f (k + i) (drop i l) Passed ≡ first_fault f k l Passed

pub walked_none : {A : Type 0} (f : A → Option ℕ) (k : ℕ) (l : List A) → Walked f k l 0
walked_none f k l = record { rest = ap (λ (m : ℕ). first_fault f m l Passed) (add-zero k) }

module _ {A : Type 0} {f : A → Option ℕ} {k i : ℕ} {l : List A} (W : Walked f k l i) where
  -- what refuses the next
  module _ (d : A) (n : Option ℕ) (h : i < length l) (e : n ≡ f (get_or l i d)) where
    here : refused_by n (k + i) (first_fault f (suc (k + i)) (drop (suc i) l) Passed) ≡ first_fault f k l Passed
    unfolding first_fault
    here =
        ap (λ (m : Option ℕ). refused_by m (k + i) (first_fault f (suc (k + i)) (drop (suc i) l) Passed)) e
        ∙ sym (ap (λ (r : List A). first_fault f (k + i) r Passed) (drop-cons l i d h)) ∙ W.rest

  pub walked_stop : (d : A) (n : ℕ) → i < length l → Some n ≡ f (get_or l i d) → RefusedAt n (k + i) ≡ first_fault f k l Passed
  walked_stop d n h e = here d (Some n) h e

  pub walked_more : (d : A) → i < length l → None ≡ f (get_or l i d) → Walked f k l (i + 1)
  walked_more d h e = record {
    rest =
        ap (λ (j : ℕ). first_fault f (k + j) (drop j l) Passed) (add-one i) ∙ ap (λ (m : ℕ). first_fault f m (drop (suc i) l) Passed) (add-suc k i)
        ∙ here d None h e;
  }

  pub walked_all : length l ≤ i → Passed ≡ first_fault f k l Passed
  unfolding first_fault
  walked_all h = sym (ap (λ (r : List A). first_fault f (k + i) r Passed) (drop_of_length-le l h)) ∙ W.rest

-- ---- `term` line i of a sheet, where it starts
pub term_line : (h : Head) (s : List ℕ) (i at : ℕ) (l : List ℕ) → i < h.terms → at ≡ start_at s 0 (6 + i) → l ≡ line_at s at
    → line_on l ≡ get_or (term_lines h (parts newline s)) i (line_on [])
term_line h s i at l b e f =
    ap line_on (f ∙ ap (line_at s) e ∙ line_there s (6 + i) ∙ sym (get_or-drop 6 (parts newline s) i []) ∙ sym (get_or-take h.terms (drop 6 (parts newline s)) i [] b))
    ∙ sym (get_or-map line_on (take h.terms (drop 6 (parts newline s))) i [])

-- ---- on a line that 5 does not refuse all qubits are below 256
below_more : (m n : ℕ) (qs : List ℕ) → m ≤ n → all_below m qs ≡ true → all_below n qs ≡ true
unfolding every
below_more m n [] h e = refl
below_more m n (q ∷ qs) h e =
    let g = and_true (ltb q m) (all_below m qs) e in
    let l : q < n = let k = ltb-true q m g.0 in omega arith in
    ap₂ ◌&&◌ (lt-ltb q n l) (below_more m n qs h g.1)

-- so a set of 256 qubits tells them apart
pub fault_by_set : (n : ℕ) (qs : List ℕ) → n ≤ 256 → fault_of (all_below n qs) (all_below 256 qs && distinct qs) ≡ fault_of (all_below n qs) (distinct qs)
fault_by_set n qs h = go (all_below n qs) refl
  where
    go : (b : Bool) → all_below n qs ≡ b → fault_of b (all_below 256 qs && distinct qs) ≡ fault_of b (distinct qs)
    go true e = ap (λ (x : Bool). cond (x && distinct qs) None (Some 6)) (below_more n 256 qs h e)
    go false e = refl
