-- The set of letters from which the code marks a cone is the observable's qubits. Assumes nothing.
use mathlib.Core.Path.{◌≡◌, refl, sym, ap, ◌∙◌}
use mathlib.Core.Bool.{Bool, true, false, ◌||◌, ◌&&◌, cond}
use mathlib.Core.List.{List, ◌∷◌}
use Prim.Native.Nat.{ℕ, zero, suc, ◌*◌}
use native.Mathlib.Omega.{arith}
use borrow.Author.Tests.{eqb-true, eqb-false, ltb-true, ltb-false, lt-ltb, le-ltb}
use lib.Dec.{ltb, eqb}
use Rattle.words.specs.Keys.{Key, has_letter}
use Rattle.ops.specs.declared.Op.{Op}
use Rattle.ops.specs.Marks.{member, mark_cone}
use Rattle.ops.specs.Sets.{TargetsBelow, ConeMarked, overlay, set_marks, letters_in}
use Rattle.ops.proofs.MarkLaws.{letters_marks}
use Rattle.ops.specs.Task.{letters_below, qubits_of}

-- a qubit is listed below n if it is below n and the word has a letter there
pub member_below : (w : ℕ) (k : Key) (n q : ℕ) → member q (letters_below w n k) ≡ (ltb q n && has_letter w k q)
unfolding letters_below member
member_below w k zero q = ap (λ (b : Bool). b && has_letter w k q) (sym (le-ltb q zero (omega arith)))
member_below w k (suc n) q = go (has_letter w k n) refl (eqb q n) refl (member_below w k n q)
  where
    at : (b : Bool) → ltb q (suc n) ≡ b → (b && has_letter w k q) ≡ (ltb q (suc n) && has_letter w k q)
    at b e = ap (λ (x : Bool). x && has_letter w k q) (sym e)

    skip : (eqb q n ≡ false) → ltb q n ≡ ltb q (suc n)
    skip e = test (ltb q n) refl
      where
        test : (b : Bool) → ltb q n ≡ b → b ≡ ltb q (suc n)
        test true h = let l = ltb-true q n h in sym (lt-ltb q (suc n) (omega arith))
        test false h = let l = ltb-false q n h in let ne = eqb-false q n e in sym (le-ltb q (suc n) (omega arith))

    go : (h : Bool) → has_letter w k n ≡ h → (b : Bool) → eqb q n ≡ b → member q (letters_below w n k) ≡ (ltb q n && has_letter w k q)
        → member q (cond h (n ∷ letters_below w n k) (letters_below w n k)) ≡ (ltb q (suc n) && has_letter w k q)
    go true eh true e r = let i = eqb-true q n e in
        ap (λ (b : Bool). b || member q (letters_below w n k)) e ∙ sym eh ∙ ap (has_letter w k) (sym i) ∙ at true (lt-ltb q (suc n) (omega arith))
    go true eh false e r = ap (λ (b : Bool). b || member q (letters_below w n k)) e ∙ r ∙ ap (λ (x : Bool). x && has_letter w k q) (skip e)
    go false eh true e r = let i = eqb-true q n e in
        r ∙ ap (λ (x : Bool). x && has_letter w k q) (le-ltb q n (omega arith)) ∙ sym eh ∙ ap (has_letter w k) (sym i) ∙ at true (lt-ltb q (suc n) (omega arith))
    go false eh false e r = r ∙ ap (λ (x : Bool). x && has_letter w k q) (skip e)

-- so the code's marks are the cone's, for targets that the set of 256 has
pub cone_is : (w : ℕ) (k : Key) (ops : List Op) → TargetsBelow ops → set_marks (letters_in w k) ops ≡ mark_cone (qubits_of w k) ops
cone_is w k ops h = letters_marks w k (qubits_of w k) ops (λ q below. member_below w k (64 * w) q) h

-- the marks made by the set
pub cone_marked : (w : ℕ) (key : Key) (ops : List Op) {ms ms' : List Bool} → ms' ≡ overlay (set_marks (letters_in w key) ops) ms → ConeMarked w key ops ms ms'
cone_marked w key ops {ms} e = record { by_set = e; document = λ h. e ∙ ap (λ (m : List Bool). overlay m ms) (cone_is w key ops h) }
