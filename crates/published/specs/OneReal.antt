-- Request 2026-07, sentence by sentence; proofs/SameRuns.antt proves it (`one_real`). The form without a prefix is the stored one, of terms, turns and
-- runs; `C..` is the published one, of this crate.
--   "Half of every coefficient is always zero .. A row shall store the other part alone"     Term, complex_of
--   "the two forms name the same coefficient"                                               Stands, SameTerm
--   "after every step that passes question 8"                                               OneReal .steps, .turns
--   "and read the compared rows through that"                                               OneReal .ends
use Rattle.std.specs.Prelude.{ℕ, ◌≡◌, Bool, true, List, [], ◌∷◌, T, drop, Float}
use Rattle.std.specs.Float.{binary64}
use Rattle.std.specs.Float.Ieee.{fits}
use Rattle.numbers.specs.Constants.{one64}
use Rattle.numbers.specs.Close.{◌≈◌}
use Rattle.published.specs.declared.Complex64.{Complex64}
use Rattle.terms.specs.Lists.{All, Each}
use Rattle.terms.specs.Term.{Term, odd_y, OnWidth, all_finite}
use Rattle.terms.specs.Start.{term_of}
use Rattle.ops.specs.declared.Op.{Op}
use Rattle.dynamics.specs.Acts.{act}
use Rattle.dynamics.specs.Turn.{Stage, refused, going, State, state, Outcome}
use Rattle.dynamics.specs.Runs.{begin, runs}
use Rattle.dynamics.specs.Outcome.{z_key, start_of, outcome_of}
use Rattle.ops.specs.declared.Run.{Run}
use Rattle.ops.specs.Task.{Line, Task, width}
use Rattle.published.specs.Complex.{coeff_of}
use Rattle.published.specs.Term as CT
use Rattle.published.specs.Start as CS
use Rattle.published.specs.Ops as CO
use Rattle.published.specs.Turn as CU
use Rattle.published.specs.Runs as CN
use Rattle.published.specs.Outcome as CQ

-- ---- "the two forms name the same coefficient": a binary64, and the coefficient that it stands for, of a word whose Y letters are odd in number,
-- or even; part by part, either zero alike
pub record Stands (odd : Bool) (v : Float) (c : Complex64) : Type 0 where
  pub re : (coeff_of odd v).re ≈ c.re
  pub im : (coeff_of odd v).im ≈ c.im
  pub fit : T (fits binary64 v)

-- one word, and coefficients that are related for words of its parity
pub record TermBy (R : Bool → Float → Complex64 → Type 0) (w : ℕ) (t : Term) (u : CT.Term) : Type 0 where
  pub key : t.key ≡ u.key
  pub coeff : R (odd_y w t.key) t.coeff u.coeff

-- `complex_of w t` and u
abbrev pub SameTerm : ℕ → Term → CT.Term → Type 0
SameTerm w t u = TermBy Stands w t u

-- row by row; the words have the width
pub record Both (w : ℕ) (ts : List Term) (us : List CT.Term) : Type 0 where
  pub same : Each (TermBy Stands w) ts us
  pub wide : All (OnWidth w) ts

-- ---- states, outcomes and stages of the two forms
pub record SameState (w : ℕ) (s : State) (t : CU.State) : Type 0 where
  pub terms : Both w s.terms t.terms
  pub peak : s.peak ≡ t.peak
  pub discarded : s.discarded ≈ t.discarded
  pub touched : s.touched ≡ t.touched

pub record SameEnd (w : ℕ) (o : Outcome) (p : CU.Outcome) : Type 0 where
  pub terms : Both w o.terms p.terms
  pub mean : o.mean ≈ p.mean
  pub means : Each ◌≈◌ o.means p.means
  pub peak : o.peak ≡ p.peak
  pub discarded : o.discarded ≈ p.discarded
  pub touched : o.touched ≡ p.touched

-- the same refusal, or what both have come to
pub data Like {S S' : Type 0} (R : S → S' → Type 0) : Stage S → Stage S' → Type 0 where
  stops : (n : ℕ) → Like R (refused n) (refused n)
  goes : {s : S} {t : S'} → R s t → Like R (going s) (going t)

-- ---- what a sheet gives: a word of the width, and as weight a binary64
pub record Given (w : ℕ) (l : Line) : Type 0 where
  pub wide : OnWidth w (term_of w l.key l.weight)
  pub weight : T (fits binary64 l.weight)

-- what two runs have come to when the ops from the k-th on have had their turns, under any marks
abbrev pub SameAt : Task → List Bool → ℕ → State → CU.State → Type 0
SameAt t ms k s u = Like (SameState (width t)) (runs (width t) t.limits (drop k ms) (drop k t.ops) s) (CN.runs (width t) t.limits (drop k ms) (drop k t.ops) u)

pub record OneReal (t : Task) : Type 0 where
  -- an op, on any terms that agree: question 8 has one answer, and where it is yes the terms agree after it
  pub steps : (op : Op) (ts : List Term) (us : List CT.Term) → Both (width t) ts us
      → (all_finite (act (width t) op ts) ≡ CT.all_finite (CO.act (width t) op us))
      × (all_finite (act (width t) op ts) ≡ true → Both (width t) (act (width t) op ts) (CO.act (width t) op us))
  -- "after every step that passes question 8": at every turn of the sum's run, of each line's run in a fold, of each qubit's run in `all`
  pub turns : (ms : List Bool) (k : ℕ) → SameAt t ms k (begin (start_of (width t) t.lines)) (CN.begin (CQ.start_of (width t) t.lines))
  pub lines : (ms : List Bool) (k : ℕ) → All (λ l. SameAt t ms k (begin (term_of (width t) l.key one64 ∷ [])) (CN.begin (CS.term_of (width t) l.key one64 ∷ []))) t.lines
  pub qubits : (ms : List Bool) (k q p n : ℕ) (d : Float)
      → SameAt t ms k (state (term_of (width t) (z_key (width t) q) one64 ∷ []) p d n) (CU.state (CS.term_of (width t) (z_key (width t) q) one64 ∷ []) p d n)
  -- the same refusal, or means and discarded weights equal as numbers, equal peaks and touched, and rows that name the same coefficients
  pub ends : (r : Run) → Like (SameEnd (width t)) (outcome_of r t) (CQ.outcome_of r t)

-- for every task whose words have the width and whose weights are binary64 numbers, as those of every sheet
abbrev pub OneRealPerRow : Type 0
OneRealPerRow = (t : Task) → All (Given (width t)) t.lines → OneReal t
