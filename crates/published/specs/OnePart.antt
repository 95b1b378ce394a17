-- "one part is always 0; the size is the other's absolute value" (document 01), of the published form: at every turn of every run, in the terms whose
-- sizes truncation takes, and at the end. proofs/PartedRuns.antt proves it (`one_part`).
use Rattle.std.specs.Prelude.{ℕ, ◌+◌, ◌≡◌, Bool, true, List, [], ◌∷◌, drop, Float}
use Rattle.numbers.specs.Constants.{one64}
use Rattle.numbers.specs.Root.{square, units_of}
use Rattle.terms.specs.Lists.{All}
use Rattle.ops.specs.declared.Op.{Op}
use Rattle.dynamics.specs.Turn.{UnlessRefused}
use Rattle.dynamics.specs.Outcome.{z_key}
use Rattle.ops.specs.declared.Run.{Run}
use Rattle.ops.specs.Task.{Task, width}
use Rattle.published.specs.Complex.{size_of}
use Rattle.published.specs.Term.{Term, all_finite}
use Rattle.published.specs.Start.{term_of}
use Rattle.published.specs.Parity.{Parted}
use Rattle.published.specs.Ops.{act}
use Rattle.published.specs.Turn.{State, state, Outcome}
use Rattle.published.specs.Runs.{begin, runs}
use Rattle.published.specs.Outcome.{start_of, outcome_of}
use Rattle.published.specs.OneReal.{Given}

-- one part is zero, and the size is the exact absolute value: in units of the smallest value, its square is the sum of the parts' squares
pub record Halved (w : ℕ) (t : Term) : Type 0 where
  pub parted : Parted w t
  pub size : square (units_of (size_of t.coeff)) ≡ square (units_of t.coeff.re) + square (units_of t.coeff.im)

-- the terms of a state, and what an op makes of them that passes question 8: the terms whose sizes truncation takes
pub record HalvedState (w : ℕ) (s : State) : Type 0 where
  pub terms : All (Halved w) s.terms
  pub acted : (op : Op) → all_finite (act w op s.terms) ≡ true → All (Halved w) (act w op s.terms)

abbrev pub HalvedEnd : ℕ → Outcome → Type 0
HalvedEnd w o = All (Halved w) o.terms

-- at the turn of op k, under any marks, the ops from the k-th on have had theirs; after a refusal there is no state
abbrev pub HalvedAt : Task → List Bool → ℕ → State → Type 0
HalvedAt t ms k s = UnlessRefused (HalvedState (width t)) (runs (width t) t.limits (drop k ms) (drop k t.ops) s)

-- at every turn of the sum's run, of each line's run in a fold, of each qubit's run in `all`, and at the end of every run
pub record OnePart (t : Task) : Type 0 where
  pub turns : (ms : List Bool) (k : ℕ) → HalvedAt t ms k (begin (start_of (width t) t.lines))
  pub lines : (ms : List Bool) (k : ℕ) → All (λ l. HalvedAt t ms k (begin (term_of (width t) l.key one64 ∷ []))) t.lines
  pub qubits : (ms : List Bool) (k q p n : ℕ) (d : Float) → HalvedAt t ms k (state (term_of (width t) (z_key (width t) q) one64 ∷ []) p d n)
  pub ends : (r : Run) → UnlessRefused (HalvedEnd (width t)) (outcome_of r t)

-- for every task whose words have the width and whose weights are binary64 numbers, as those of every sheet
abbrev pub OnePartIsZero : Type 0
OnePartIsZero = (t : Task) → All (Given (width t)) t.lines → OnePart t
