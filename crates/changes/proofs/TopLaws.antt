-- 2026-01: which answers change, as specs/TopLine.antt states it (`top_line_first`). Assumes nothing.
use Prim.Native.Nat.{ℕ, suc, ◌+◌, ◌≤◌}
use mathlib.Core.Path.{◌≡◌, refl, sym, ap, ap₂, ◌∙◌}
use mathlib.Core.Bool.{Bool, true, false, cond, ◌&&◌}
use mathlib.Core.List.{List, [], ◌∷◌}
use native.Mathlib.Omega.{arith}
use lib.Dec.{eqb}
use lib.ListN.{length, take, drop, length-map, length-take}
use borrow.Author.Tests.{lt-ltb, le-ltb}
use Rattle.std.specs.Prelude.{Option, None, Some}
use Rattle.lines.specs.Fields.{or_zero}
use Rattle.lines.specs.TermLines.{line_on}
use Rattle.layout.specs.declared.Head.{Head}
use Rattle.layout.specs.Layout.{question1, term_lines, sheet_ops}
use Rattle.questions.specs.Verdict.{Verdict, RefusedAt, Passed}
use Rattle.questions.specs.Questions.{question2, question3, question4, question5, question6, question7, question11, ◌or_else◌, first_of, refused_or, refused_by, line_of, by_question, fault_of, first_fault, by_line, room_verdict, verdict}
use Rattle.changes.specs.TopLine.{outside_line, repeat_line, earlier_than, one_by_one, top_line, TopLineFirst}
use Rattle.changes.proofs.ComparedLaws.{and_false, raised, RunsAlike, IsRaised, compared}

-- ---- none, or not before line k
Late : ℕ → Option ℕ → Type 0
Late k None = Unit {0}
Late k (Some m) = k ≤ m

late_from : (k m : ℕ) (o : Option ℕ) → k ≤ m → Late m o → Late k o
unfolding Late
late_from k m None h e = tt
late_from k m (Some n) h e = omega arith

-- a search from line k on, and then line c, which stands behind it
late_first : {A : Type 0} (p : A → Bool) (k : ℕ) (l : List A) (c : Option ℕ) → Late (k + length l) c → Late k (first_of p k l or_else c)
unfolding first_of Late
late_first p k [] c e = late_from k (k + 0) c (omega arith) e
late_first p k (a ∷ l) c e = go (p a) (late_first p (suc k) l c (late_from (suc k + length l) (k + suc (length l)) c (omega arith) e))
  where
    go : (b : Bool) → Late (suc k) (first_of p (suc k) l or_else c) → Late k (cond b (first_of p (suc k) l) (Some k) or_else c)
    go true f = late_from k (suc k) (first_of p (suc k) l or_else c) (omega arith) f
    go false f = omega arith

-- ---- 5 and 6 from the first line of each: 6 where the repeat stands earlier, else 5 before 6
top : Option ℕ → Option ℕ → Verdict → Verdict
top None six v = refused_or 6 six v
top (Some f) six v = cond (earlier_than six f) (RefusedAt 6 (or_zero six)) (RefusedAt 5 f)

-- at line k the repeat is the earlier
top_six : (five : Option ℕ) (k : ℕ) (v : Verdict) → Late (suc k) five → top five (Some k) v ≡ RefusedAt 6 k
unfolding top Late
top_six None k v h = refl
top_six (Some f) k v h = ap (λ (b : Bool). cond b (RefusedAt 6 k) (RefusedAt 5 f)) (lt-ltb k f (omega arith))

-- at line k there is a qubit outside, and no repeat before it
top_five : (k : ℕ) (six : Option ℕ) (v : Verdict) → Late k six → top (Some k) six v ≡ RefusedAt 5 k
unfolding top Late
top_five k None v h = refl
top_five k (Some r) v h = ap (λ (b : Bool). cond b (RefusedAt 6 r) (RefusedAt 5 k)) (le-ltb r k h)

-- ---- a walk line by line is the two searches
module _ {A : Type 0} (p q : A → Bool) where
  walked : (k : ℕ) (l : List A) (c d : Option ℕ) (v : Verdict) → Late (k + length l) c → Late (k + length l) d
      → first_fault (λ a. fault_of (p a) (q a)) k l (top c d v) ≡ top (first_of p k l or_else c) (first_of q k l or_else d) v
  unfolding first_fault first_of
  walked k [] c d v e f = refl
  walked k (a ∷ l) c d v e f =
      let e' = late_from (suc k + length l) (k + suc (length l)) c (omega arith) e in
      let f' = late_from (suc k + length l) (k + suc (length l)) d (omega arith) f in
      go (p a) (q a) (walked (suc k) l c d v e' f') (late_first p (suc k) l c e') (late_first q k (a ∷ l) d f)
    where
      go : (x y : Bool) → first_fault (λ a. fault_of (p a) (q a)) (suc k) l (top c d v) ≡ top (first_of p (suc k) l or_else c) (first_of q (suc k) l or_else d) v
          → Late (suc k) (first_of p (suc k) l or_else c) → Late k (cond y (first_of q (suc k) l) (Some k) or_else d)
          → refused_by (fault_of x y) k (first_fault (λ a. fault_of (p a) (q a)) (suc k) l (top c d v))
          ≡ top (cond x (first_of p (suc k) l) (Some k) or_else c) (cond y (first_of q (suc k) l) (Some k) or_else d) v
      go true true ih g m = ih
      go true false ih g m = sym (top_six (first_of p (suc k) l or_else c) k v g)
      go false y ih g m = sym (top_five k (cond y (first_of q (suc k) l) (Some k) or_else d) v m)

or_none : (o : Option ℕ) → (o or_else None) ≡ o
or_none None = refl
or_none (Some k) = refl

-- the `term` lines stand before line 8 + terms, the `op` lines from there on
by_line_is : (h : Head) (ls : List (List ℕ)) (v : Verdict) → by_line h ls v ≡ top (outside_line h ls) (repeat_line h ls) v
unfolding top Late
by_line_is h ls v =
    let ts = term_lines h ls in
    let os = sheet_ops h ls in
    let k = 8 + h.terms in
    let p = (question5 h).op in
    let q = question6.op in
    let few : 7 + length ts ≤ k = omega (arith, length-map (take h.terms (drop 6 ls)) line_on, length-take h.terms (drop 6 ls)) in
    let behind : (r : _ → Bool) → Late (7 + length ts) (first_of r k os or_else None) = λ r. late_from (7 + length ts) k (first_of r k os or_else None) few (late_first r k os None tt) in
    ap (first_fault _ 7 ts) (walked p q k os None None v tt tt)
    ∙ walked (question5 h).term question6.term 7 ts (first_of p k os or_else None) (first_of q k os or_else None) v (behind p) (behind q)
    ∙ ap₂ (λ (c d : Option ℕ). top (first_of (question5 h).term 7 ts or_else c) (first_of question6.term 7 ts or_else d) v) (or_none (first_of p k os)) (or_none (first_of q k os))

-- ---- the verdict, from the verdict before

-- another question than 5 is put as before
raised_past : (h : Head) (ls : List (List ℕ)) (n : ℕ) (a : Option ℕ) (v : Verdict) → eqb n 5 ≡ false
    → raised top_line h ls (refused_or n a v) ≡ refused_or n a (raised top_line h ls v)
raised_past h ls n None v e = refl
raised_past h ls n (Some k) v e = ap (λ (b : Bool). cond (b && earlier_than (repeat_line h ls) k) (RefusedAt 6 (or_zero (repeat_line h ls))) (RefusedAt n k)) e

top_raised : (h : Head) (ls : List (List ℕ)) (v : Verdict) → raised top_line h ls v ≡ v
    → top (outside_line h ls) (repeat_line h ls) v ≡ raised top_line h ls (refused_or 5 (outside_line h ls) (refused_or 6 (repeat_line h ls) v))
unfolding top
top_raised h ls v e = go (outside_line h ls)
  where
    go : (five : Option ℕ) → top five (repeat_line h ls) v ≡ raised top_line h ls (refused_or 5 five (refused_or 6 (repeat_line h ls) v))
    go None = sym (raised_past h ls 6 (repeat_line h ls) v refl ∙ ap (refused_or 6 (repeat_line h ls)) e)
    go (Some f) = refl

room_raised : (h : Head) (ls : List (List ℕ)) (rows places : ℕ) → raised top_line h ls (room_verdict h rows places) ≡ room_verdict h rows places
room_raised h ls rows places = go (question7 h rows places)
  where
    go : (b : Bool) → raised top_line h ls (cond b Passed (RefusedAt 7 0)) ≡ cond b Passed (RefusedAt 7 0)
    go true = refl
    go false = refl

questions_raised : (h : Head) (ls : List (List ℕ)) (v : Verdict) → by_question h ls (raised top_line h ls v) ≡ raised top_line h ls (by_question h ls v)
questions_raised h ls v =
    let b = line_of (question2 h) h ls in
    let c = line_of (question3 h) h ls in
    let d = line_of (question4 h) h ls in
    sym (raised_past h ls 1 (question1 h ls) (refused_or 2 b (refused_or 3 c (refused_or 4 d v))) refl
    ∙ ap (refused_or 1 (question1 h ls)) (raised_past h ls 2 b (refused_or 3 c (refused_or 4 d v)) refl
    ∙ ap (refused_or 2 b) (raised_past h ls 3 c (refused_or 4 d v) refl
    ∙ ap (refused_or 3 c) (raised_past h ls 4 d v refl))))

verdict_raised : IsRaised top_line
unfolding verdict one_by_one
verdict_raised h ls rows places =
    let v = room_verdict h rows places in
    let w = refused_or 5 (outside_line h ls) (refused_or 6 (repeat_line h ls) v) in
    let e = line_of question11 h ls in
    ap (λ (u : Verdict). by_question h ls (refused_or 11 e u)) (by_line_is h ls v ∙ top_raised h ls v (room_raised h ls rows places))
    ∙ ap (by_question h ls) (sym (raised_past h ls 11 e w refl)) ∙ questions_raised h ls (refused_or 11 e w)

-- no line stands before line 0
none_before : (o : Option ℕ) → earlier_than o 0 ≡ false
none_before None = refl
none_before (Some r) = le-ltb r 0 (omega arith)

-- a run is no 5 at a line
runs_alike : RunsAlike top_line
runs_alike h ls n = ap (λ (b : Bool). eqb n 5 && b) (none_before (repeat_line h ls)) ∙ and_false (eqb n 5)

pub top_line_first : TopLineFirst
top_line_first = compared top_line runs_alike verdict_raised
