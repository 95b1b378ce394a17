-- 2026-06: which answers change, as specs/NoAngle.antt states it (`angles_only`). Assumes nothing.
use Prim.Native.Nat.{ℕ, suc, ◌+◌}
use mathlib.Core.Path.{◌≡◌, refl, sym, ap, ap₂, ◌∙◌}
use mathlib.Core.Bool.{Bool, true, false, cond, not, ◌&&◌}
use mathlib.Core.List.{List, [], ◌∷◌}
use lib.Dec.{leb}
use borrow.Author.Tests.{lt-ltb}
use Rattle.std.specs.Prelude.{Option, None, Some, is_some}
use Rattle.terms.proofs.CaseLaws.{and_true}
use Rattle.lines.specs.Fields.{or_zero}
use Rattle.layout.specs.declared.Head.{Head}
use Rattle.layout.specs.Layout.{question1, term_lines, sheet_ops}
use Rattle.questions.specs.Verdict.{Verdict, RefusedAt, Passed}
use Rattle.questions.specs.Questions.{question2, question3, question4, question5, question6, question7, refused_or, refused_by, line_of, fault_of, first_fault, by_line, room_verdict, verdict}
use Rattle.questions.proofs.LineLaws.{Above, line_above, laid_above}
use Rattle.changes.specs.NoAngle.{unasked, earlier, broken_line, no_angle, AnglesOnly}
use Rattle.changes.proofs.ComparedLaws.{and_false, raised, RunsAlike, IsRaised, compared}

-- a verdict of 1 to 4
early : Verdict → Bool
early (RefusedAt n k) = earlier n k
early Passed = false

-- 5 and 6 line by line, and 7, are none
late_walk : {A : Type 0} (p q : A → Bool) (k : ℕ) (l : List A) (v : Verdict) → early v ≡ false → early (first_fault (λ a. fault_of (p a) (q a)) k l v) ≡ false
unfolding first_fault early
late_walk p q k [] v h = h
late_walk p q k (a ∷ l) v h = go (p a) (q a) (late_walk p q (suc k) l v h)
  where
    go : (x y : Bool) → early (first_fault (λ a. fault_of (p a) (q a)) (suc k) l v) ≡ false
        → early (refused_by (fault_of x y) k (first_fault (λ a. fault_of (p a) (q a)) (suc k) l v)) ≡ false
    go true true ih = ih
    go true false ih = refl
    go false true ih = refl
    go false false ih = refl

late_room : (h : Head) (rows places : ℕ) → early (room_verdict h rows places) ≡ false
unfolding early
late_room h rows places = go (question7 h rows places)
  where
    go : (b : Bool) → early (cond b Passed (RefusedAt 7 0)) ≡ false
    go true = refl
    go false = refl

late_lines : (h : Head) (ls : List (List ℕ)) (v : Verdict) → early v ≡ false → early (by_line h ls v) ≡ false
late_lines h ls v e =
    late_walk (question5 h).term question6.term 7 (term_lines h ls) (first_fault _ (8 + h.terms) (sheet_ops h ls) v)
    (late_walk (question5 h).op question6.op (8 + h.terms) (sheet_ops h ls) v e)

module _ (h : Head) (ls : List (List ℕ)) where
  -- 11 is put to what 1 to 4 pass
  here : (v : Verdict) → early v ≡ false → refused_or 11 (broken_line h ls) v ≡ raised no_angle h ls v
  unfolding early
  here (RefusedAt n k) e = go (broken_line h ls)
    where
      go : (o : Option ℕ) → refused_or 11 o (RefusedAt n k) ≡ cond (is_some o && not (earlier n k)) (RefusedAt 11 (or_zero o)) (RefusedAt n k)
      go None = refl
      go (Some m) = sym (ap (λ (t : Bool). cond (not t) (RefusedAt 11 m) (RefusedAt n k)) e)
  here Passed e = go (broken_line h ls)
    where
      go : (o : Option ℕ) → refused_or 11 o Passed ≡ cond (is_some o && true) (RefusedAt 11 (or_zero o)) Passed
      go None = refl
      go (Some m) = refl

  -- 1 to 4 refuse as before
  past : (n : ℕ) (a : Option ℕ) (v w : Verdict) → (leb 1 n && leb n 4) ≡ true → Above a → w ≡ raised no_angle h ls v
      → refused_or n a w ≡ raised no_angle h ls (refused_or n a v)
  past n None v w e l f = f
  past n (Some k) v w e l f =
      let g = and_true (leb 1 n) (leb n 4) e in
      let t : earlier n k ≡ true = ap₂ ◌&&◌ g.0 (ap₂ ◌&&◌ g.1 (lt-ltb 0 k l)) in
      let b = is_some (broken_line h ls) in
      let m = or_zero (broken_line h ls) in
      sym (ap (λ (x : Bool). cond (b && not x) (RefusedAt 11 m) (RefusedAt n k)) t ∙ ap (λ (x : Bool). cond x (RefusedAt 11 m) (RefusedAt n k)) (and_false b))

verdict_raised : IsRaised no_angle
unfolding verdict unasked
verdict_raised h ls rows places =
    let v = by_line h ls (room_verdict h rows places) in
    let b = line_of (question2 h) h ls in
    let c = line_of (question3 h) h ls in
    let d = line_of (question4 h) h ls in
    past h ls 1 (question1 h ls) (refused_or 2 b (refused_or 3 c (refused_or 4 d v))) _ refl (laid_above h ls)
    (past h ls 2 b (refused_or 3 c (refused_or 4 d v)) _ refl (line_above (question2 h) h ls)
    (past h ls 3 c (refused_or 4 d v) _ refl (line_above (question3 h) h ls)
    (past h ls 4 d v _ refl (line_above (question4 h) h ls) (here h ls v (late_lines h ls (room_verdict h rows places) (late_room h rows places))))))

-- a run's refusal stands at line 0
runs_alike : RunsAlike no_angle
runs_alike h ls n = ap (λ (t : Bool). is_some (broken_line h ls) && not t) (ap (λ (t : Bool). leb 1 n && t) (and_false (leb n 4)) ∙ and_false (leb 1 n))

pub angles_only : AnglesOnly
angles_only = compared no_angle runs_alike verdict_raised
