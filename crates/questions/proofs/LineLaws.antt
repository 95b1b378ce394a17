-- Lines are counted from 1. Assumes nothing.
use mathlib.Core.Path.{◌≡◌, refl}
use Prim.Native.Nat.{ℕ, suc, ◌+◌, ◌<◌}
use native.Mathlib.Omega.{arith}
use mathlib.Core.Bool.{Bool, true, false, cond}
use mathlib.Core.List.{List, [], ◌∷◌}
use Rattle.std.specs.Prelude.{Option, None, Some}
use Rattle.layout.specs.declared.Head.{Head}
use Rattle.layout.specs.Layout.{question1, term_lines, sheet_ops}
use Rattle.layout.proofs.LaidLaws.{question1_above}
use Rattle.questions.specs.Questions.{Question, first_of, ◌or_else◌, unless, head_line, ops_line, line_of}

-- none, or a line from 1 on
abbrev pub Above : Option ℕ → Type 0
Above None = Unit {0}
Above (Some k) = 0 < k

or_above : (a b : Option ℕ) → Above a → Above b → Above (a or_else b)
or_above None b e f = f
or_above (Some k) b e f = e

unless_above : (b : Bool) (k : ℕ) → 0 < k → Above (unless b k)
unless_above true k h = tt
unless_above false k h = h

first_above : {A : Type 0} (p : A → Bool) (k : ℕ) (l : List A) → 0 < k → Above (first_of p k l)
unfolding first_of
first_above p k [] h = tt
first_above p k (a ∷ l) h = go (p a) (first_above p (suc k) l (omega arith))
  where
    go : (b : Bool) → Above (first_of p (suc k) l) → Above (cond b (first_of p (suc k) l) (Some k))
    go true e = e
    go false e = h

pub line_above : (q : Question) (h : Head) (ls : List (List ℕ)) → Above (line_of q h ls)
line_above q h ls =
    let t = h.terms in
    or_above (head_line q) _
    (or_above (unless q.qubits 1) _ (unless_above q.qubits 1 (omega arith))
    (or_above (unless q.epsilon 3) _ (unless_above q.epsilon 3 (omega arith))
    (or_above (unless q.limit 5) _ (unless_above q.limit 5 (omega arith)) (unless_above q.terms 6 (omega arith)))))
    (or_above (first_of q.term 7 (term_lines h ls)) (ops_line q t (sheet_ops h ls)) (first_above q.term 7 (term_lines h ls) (omega arith))
    (or_above (unless q.ops (7 + t)) _ (unless_above q.ops (7 + t) (omega arith)) (first_above q.op (8 + t) (sheet_ops h ls) (omega arith))))

pub laid_above : (h : Head) (ls : List (List ℕ)) → Above (question1 h ls)
laid_above h ls = go (question1 h ls) refl
  where
    go : (o : Option ℕ) → question1 h ls ≡ o → Above o
    go None e = tt
    go (Some k) e = question1_above h ls k e
