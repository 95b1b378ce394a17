-- The verdict, by questions 1 and 2, and then the others. Assumes nothing.
use mathlib.Core.Path.{◌≡◌, refl, ap, ◌∙◌}
use Prim.Native.Nat.{ℕ}
use mathlib.Core.List.{List}
use Rattle.std.specs.Prelude.{Option, None, Some}
use Rattle.layout.specs.declared.Head.{Head}
use Rattle.layout.specs.Layout.{question1}
use Rattle.questions.specs.Verdict.{RefusedAt, Passed}
use Rattle.questions.specs.Questions.{question2, line_of, refused_or, verdict, early_verdict, later_verdict}

pub early_laid : (h : Head) (ls : List (List ℕ)) → early_verdict h ls ≡ Passed → (question1 h ls ≡ None) × (line_of (question2 h) h ls ≡ None)
early_laid h ls e = go (question1 h ls) (line_of (question2 h) h ls) e
  where
    go : (a b : Option ℕ) → refused_or 1 a (refused_or 2 b Passed) ≡ Passed → (a ≡ None) × (b ≡ None)
    go None None e = (refl, refl)
    go None (Some k) e = absurd (cc)
    go (Some k) b e = absurd (cc)

pub early_passed : (h : Head) (ls : List (List ℕ)) (rows places : ℕ) → early_verdict h ls ≡ Passed → verdict h ls rows places ≡ later_verdict h ls rows places
unfolding verdict
early_passed h ls rows places e =
    let s = early_laid h ls e in
    ap (λ (x : Option ℕ). refused_or 1 x (refused_or 2 (line_of (question2 h) h ls) (later_verdict h ls rows places))) s.0 ∙ ap (λ (x : Option ℕ). refused_or 2 x (later_verdict h ls rows places)) s.1

pub early_refused : (h : Head) (ls : List (List ℕ)) (rows places n k : ℕ) → early_verdict h ls ≡ RefusedAt n k → verdict h ls rows places ≡ RefusedAt n k
unfolding verdict
early_refused h ls rows places n k e = go (question1 h ls) (line_of (question2 h) h ls) e
  where
    go : (a b : Option ℕ) → refused_or 1 a (refused_or 2 b Passed) ≡ RefusedAt n k → refused_or 1 a (refused_or 2 b (later_verdict h ls rows places)) ≡ RefusedAt n k
    go None None e = absurd (cc)
    go None (Some j) e = e
    go (Some j) b e = e
