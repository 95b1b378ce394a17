-- One question after another: what refuses a sheet first. Assumes nothing.
use mathlib.Core.Path.{◌≡◌, refl, sym, ap, ◌∙◌}
use Prim.Native.Nat.{ℕ, suc, ◌+◌}
use mathlib.Core.Bool.{Bool, true, false, cond}
use mathlib.Core.List.{List, [], ◌∷◌}
use Rattle.std.specs.Prelude.{Option, None, Some, Result, Err}
use Rattle.ops.specs.declared.Op.{Op}
use Rattle.ops.specs.Refusals.{number_of}
use Rattle.questions.specs.declared.Refused.{Refused}
use Rattle.lines.specs.TermLines.{TermLine}
use Rattle.layout.specs.declared.Head.{Head}
use Rattle.layout.specs.Layout.{term_lines, sheet_ops}
use Rattle.questions.specs.declared.Asked.{Asked}
use Rattle.questions.specs.declared.Asked.TheVariants.{Two, Three, Four, FiveAndSix, Eleven}
use Rattle.questions.specs.Verdict.{Verdict, RefusedAt, Passed, verdict_of}
use Rattle.questions.specs.Questions.{question2, question3, question4, question11, Question, first_of, unless, ◌or_else◌, head_line, ops_line, line_of, refused_or, refused_by, first_fault, by_line}
use Rattle.questions.specs.Asking.{question_of, number, number_unless, head_verdict, term_verdict, count_verdict, op_verdict, asked_verdict}

-- ---- a step puts a question, and where it passes, the next
-- v, and where it passes w
abbrev and_then : Verdict → Verdict → Verdict
and_then (RefusedAt n k) w = RefusedAt n k
and_then Passed w = w

pub record Step (F : Verdict → Verdict) : Type 0 where
  pub next : (v : Verdict) → F v ≡ and_then (F Passed) v

pub refused_step : (n : ℕ) (line : Option ℕ) → Step (refused_or n line)
refused_step n None = record { next = λ v. refl }
refused_step n (Some k) = record { next = λ v. refl }

fault_next : {A : Type 0} (f : A → Option ℕ) (k : ℕ) (l : List A) (v : Verdict) → first_fault f k l v ≡ and_then (first_fault f k l Passed) v
unfolding first_fault
fault_next f k [] v = refl
fault_next f k (a ∷ l) v = go (f a) (fault_next f (suc k) l v)
  where
    go : (n : Option ℕ) → first_fault f (suc k) l v ≡ and_then (first_fault f (suc k) l Passed) v
        → refused_by n k (first_fault f (suc k) l v) ≡ and_then (refused_by n k (first_fault f (suc k) l Passed)) v
    go None e = e
    go (Some n) e = refl

pub fault_step : {A : Type 0} (f : A → Option ℕ) (k : ℕ) (l : List A) → Step (first_fault f k l)
fault_step f k l = record { next = fault_next f k l }

then_then : (x y v : Verdict) → and_then x (and_then y v) ≡ and_then (and_then x y) v
then_then (RefusedAt n k) y v = refl
then_then Passed y v = refl

pub step_twice : {F G : Verdict → Verdict} → Step F → Step G → Step (λ v. F (G v))
step_twice {F} {G} S T = record {
  next = λ v. S.next (G v) ∙ ap (and_then (F Passed)) (T.next v) ∙ then_then (F Passed) (G Passed) v ∙ ap (λ (x : Verdict). and_then x v) (sym (S.next (G Passed)));
}

-- it passes
pub pass_on : {F : Verdict → Verdict} → Step F → Passed ≡ F Passed → (v : Verdict) → v ≡ F v
pass_on S e v = sym (S.next v ∙ ap (λ (x : Verdict). and_then x v) (sym e))

-- it refuses
pub stop_here : {F : Verdict → Verdict} → Step F → {n k : ℕ} → RefusedAt n k ≡ F Passed → (v : Verdict) → RefusedAt n k ≡ F v
stop_here S e v = sym (S.next v ∙ ap (λ (x : Verdict). and_then x v) (sym e))

-- what a `?` returns
pub refused_is : (r : Result (Unit {0}) Refused) (x e : Refused) → r ≡ Err x → x ≡ e → verdict_of r ≡ RefusedAt (number_of e.by) e.line
refused_is r x e f g = ap verdict_of f ∙ ap (λ (y : Refused). RefusedAt (number_of y.by) y.line) g

-- ---- the steps of a question
pub head_step : (a : Asked) (h : Head) → Step (head_verdict a h)
head_step a h = refused_step (number a) (head_line (question_of a h))

pub term_step : (a : Asked) (h : Head) (ls : List (List ℕ)) → Step (term_verdict a h ls)
term_step a h ls = fault_step _ 7 (term_lines h ls)

pub count_step : (a : Asked) (h : Head) → Step (count_verdict a h)
count_step a h = refused_step (number a) (unless (question_of a h).ops (7 + h.terms))

pub op_step : (a : Asked) (h : Head) (ls : List (List ℕ)) → Step (op_verdict a h ls)
op_step a h ls = fault_step _ (8 + h.terms) (sheet_ops h ls)

pub asked_step : (a : Asked) (h : Head) (ls : List (List ℕ)) → Step (asked_verdict a h ls)
asked_step a h ls = step_twice (head_step a h) (step_twice (term_step a h ls) (step_twice (count_step a h) (op_step a h ls)))

-- ---- the steps of a question are the question
-- one question of some lines after another
joined : (n : ℕ) (a b : Option ℕ) (v : Verdict) → refused_or n a (refused_or n b v) ≡ refused_or n (a or_else b) v
joined n None b v = refl
joined n (Some k) b v = refl

-- a walk at which one question refuses
walk_is : {A : Type 0} (p : A → Bool) (n k : ℕ) (l : List A) (v : Verdict) → first_fault (λ a. number_unless (p a) n) k l v ≡ refused_or n (first_of p k l) v
unfolding first_fault first_of
walk_is p n k [] v = refl
walk_is p n k (a ∷ l) v = go (p a) (walk_is p n (suc k) l v)
  where
    go : (b : Bool) → first_fault (λ a. number_unless (p a) n) (suc k) l v ≡ refused_or n (first_of p (suc k) l) v
        → refused_by (number_unless b n) k (first_fault (λ a. number_unless (p a) n) (suc k) l v) ≡ refused_or n (cond b (first_of p (suc k) l) (Some k)) v
    go true e = e
    go false e = refl

asked_is : (n : ℕ) (q : Question) (t : ℕ) (ts : List TermLine) (os : List Op) (v : Verdict)
    → refused_or n (head_line q) (first_fault (λ l. number_unless (q.term l) n) 7 ts (refused_or n (unless q.ops (7 + t)) (first_fault (λ o. number_unless (q.op o) n) (8 + t) os v)))
    ≡ refused_or n (head_line q or_else first_of q.term 7 ts or_else ops_line q t os) v
asked_is n q t ts os v =
    let later = ap (refused_or n (unless q.ops (7 + t))) (walk_is q.op n (8 + t) os v) ∙ joined n (unless q.ops (7 + t)) (first_of q.op (8 + t) os) v in
    ap (λ (x : Verdict). refused_or n (head_line q) (first_fault (λ l. number_unless (q.term l) n) 7 ts x)) later
    ∙ ap (refused_or n (head_line q)) (walk_is q.term n 7 ts (refused_or n (ops_line q t os) v) ∙ joined n (first_of q.term 7 ts) (ops_line q t os) v)
    ∙ joined n (head_line q) (first_of q.term 7 ts or_else ops_line q t os) v

module _ (h : Head) (ls : List (List ℕ)) (v : Verdict) where
  two_is : asked_verdict Two h ls v ≡ refused_or 2 (line_of (question2 h) h ls) v
  two_is = asked_is 2 (question_of Two h) h.terms (term_lines h ls) (sheet_ops h ls) v

  pub later_is : asked_verdict Three h ls (asked_verdict Four h ls (asked_verdict Eleven h ls (asked_verdict FiveAndSix h ls v)))
      ≡ refused_or 3 (line_of (question3 h) h ls) (refused_or 4 (line_of (question4 h) h ls) (refused_or 11 (line_of question11 h ls) (by_line h ls v)))
  later_is =
      ap (λ (x : Verdict). asked_verdict Three h ls (asked_verdict Four h ls x)) (asked_is 11 (question_of Eleven h) h.terms (term_lines h ls) (sheet_ops h ls) (by_line h ls v))
      ∙ ap (asked_verdict Three h ls) (asked_is 4 (question_of Four h) h.terms (term_lines h ls) (sheet_ops h ls) (refused_or 11 (line_of question11 h ls) (by_line h ls v)))
      ∙ asked_is 3 (question_of Three h) h.terms (term_lines h ls) (sheet_ops h ls) (refused_or 4 (line_of (question4 h) h ls) (refused_or 11 (line_of question11 h ls) (by_line h ls v)))

-- ---- question 2 asks nothing of a `term` or an `op` line
none_asked : {A : Type 0} (k : ℕ) (l : List A) (v : Verdict) → first_fault (λ a. None) k l v ≡ v
unfolding first_fault
none_asked k [] v = refl
none_asked k (a ∷ l) v = none_asked (suc k) l v

pub second_is : (h : Head) (ls : List (List ℕ)) (v : Verdict) → head_verdict Two h (count_verdict Two h v) ≡ refused_or 2 (line_of (question2 h) h ls) v
second_is h ls v =
    ap (λ (x : Verdict). head_verdict Two h (count_verdict Two h x)) (sym (none_asked (8 + h.terms) (sheet_ops h ls) v))
    ∙ ap (head_verdict Two h) (sym (none_asked 7 (term_lines h ls) (count_verdict Two h (op_verdict Two h ls v)))) ∙ two_is h ls v
