-- Demand 3, sentence by sentence, over the values of a sheet and the runs of Outcome.antt; proofs/Demand.antt proves it.
--   "However gates outside the inverse light cone are added, dropped or altered"   two tasks, whatever their unmarked ops (Demand3)
--   "for every two channel-free sheets .., with one observable of weight 1"        question 3, put as `full` and as `cone` (Passes)
--   "that pass every question put before the run"                                  questions 2 to 6 and 11, both ways (Passes)
--   "agreeing in qubits, observable, .. and marked gates in order"                 Agree
--   "the full and the cone run of each, four runs in all"                          Which, Way, end_as
--   "end in the same refusal .. or all succeed with numerically equal means .."    SameEnd
--   "every gate that 01 leaves unmarked, whenever its turn comes"                  cone_marks, reached
--   "meets identities only"                                                        MeetsIdentities
use Rattle.std.specs.Prelude.{ℕ, suc, ◌<◌, ◌≡◌, Bool, true, false, List, map, length, drop, get_or, Float}
use Rattle.std.specs.Float.Ieee.{eq}
use Rattle.words.specs.Keys.{Key, has_letter}
use Rattle.terms.specs.Lists.{All, Each}
use Rattle.ops.specs.declared.Op.{Op}
use Rattle.ops.specs.declared.Op.TheVariants.{Barrier}
use Rattle.ops.specs.Ops.{targets}
use Rattle.dynamics.specs.Turn.{Stage, refused, going, bind, State, Outcome, finish, UnlessRefused}
use Rattle.dynamics.specs.Runs.{runs, begin}
use Rattle.ops.specs.Binary.{Binary64Values}
use Rattle.ops.specs.Marks.{mark_all, mark_cone}
use Rattle.ops.specs.SameOps.{SameOp, chosen}
use Rattle.ops.specs.declared.Run.{Run}
use Rattle.ops.specs.declared.Run.TheVariants.{Full, Cone}
use Rattle.ops.specs.Task.{Task, width, passes}
use Rattle.dynamics.specs.Outcome.{start_of, observed, outcome_of}

-- "equal as numbers, either zero alike": IEEE 754's =
abbrev pub Equal : Float → Float → Type 0
Equal x y = eq x y ≡ true

-- ---- "Demand 3 takes each of its sheets as `run=full` and as `run=cone`, the other lines as they are"
pub data Which : Type 0 where
  one another : Which

pub data Way : Type 0 where
  as_full as_cone : Way

abbrev pub pick : Which → Task → Task → Task
pick one t u = t
pick another t u = u

abbrev pub run_as : Way → Run
run_as as_full = Full
run_as as_cone = Cone

-- "and the sheet passes both ways": every question put before the run. Question 3 says of a task that passes as `full` that it is
-- channel-free, and of one that passes as `cone` that it has one observable, of weight 1.
abbrev pub Passes : Task → Type 0
Passes t = (v : Way) → passes (run_as v) t ≡ true

-- ---- "agreeing in qubits, observable, epsilon, max_terms, limit and marked gates in order"
-- "The observable is the one `term` line, read as words x and z."
abbrev pub words_of : Task → List Key
words_of t = map (λ l. l.key) t.lines

-- "an op is marked if a target is in the set, starting from the observable's qubits": the cone's marks, and the ops that they set.
-- "Gates here are all ops, barriers included."
abbrev pub cone_marks : Task → List Bool
cone_marks t = mark_cone (observed t) t.ops

abbrev pub marked_ops : Task → List Op
marked_ops t = chosen (cone_marks t) t.ops

-- "Marked gates agree in name, targets and reals; reals and epsilon agree as numbers, either zero alike."
pub record Agree (t u : Task) : Type 0 where
  pub qubits : t.qubits ≡ u.qubits
  pub observable : words_of t ≡ words_of u
  pub epsilon : Equal t.limits.epsilon u.limits.epsilon
  pub max_terms : t.limits.max_terms ≡ u.limits.max_terms
  pub limit : t.limits.limit ≡ u.limits.limit
  pub marked : Each (SameOp Equal) (marked_ops t) (marked_ops u)

-- ---- "end in the same refusal, number and line, or all succeed with numerically equal means and discarded weights and equal peaks"
-- (the line of a refusal during a run is 0); "Full and cone runs must agree in it too": `touched`
pub data SameEnd : Stage Outcome → Stage Outcome → Type 0 where
  same_refusal : (n : ℕ) → SameEnd (refused n) (refused n)
  both_succeed : {o p : Outcome} → Equal o.mean p.mean → Equal o.discarded p.discarded → o.peak ≡ p.peak
      → o.touched ≡ p.touched → SameEnd (going o) (going p)

abbrev pub end_as : Way → Task → Stage Outcome
end_as v t = outcome_of (run_as v) t

-- ---- "every gate that 01 leaves unmarked, whenever its turn comes, meets identities only"
abbrev pub marks_as : Way → List ℕ → List Op → List Bool
marks_as as_full qs ops = mark_all ops
marks_as as_cone qs ops = mark_cone qs ops

-- "Each run starts from the observable alone"; "Ops are taken last to first"; "A skipped op's turn is its place in the list":
-- what the run has come to when all ops from the k-th on have had their turns
abbrev pub reached : Way → Task → ℕ → Stage State
reached v t k = runs (width t) t.limits (drop k (marks_as v (observed t) t.ops)) (drop k t.ops) (begin (start_of (width t) t.lines))

-- "no term that demand 2's definition gives that run there has x or z set at any of its targets"
abbrev pub MeetsIdentities : ℕ → Op → State → Type 0
MeetsIdentities w op s = All (λ q. All (λ u. has_letter w u.key q ≡ false) s.terms) (targets op)

-- ---- both conclusions, of the four runs
pub record Demand (t u : Task) : Type 0 where
  pub same_end : (i j : Which) (v w : Way) → SameEnd (end_as v (pick i t u)) (end_as w (pick j t u))
  -- the turns are those of the runs that end so, from the start: with one term there is no fold
  pub same_run : (i : Which) (v : Way) → let x = pick i t u in end_as v x ≡ bind (reached v x 0) (finish (width x) x.limits)
  -- "in all four, the refused ones up to where they stop": at the turn of an unmarked op the ops behind it have had theirs
  pub identities : (i : Which) (v : Way) (k : ℕ) → let x = pick i t u in
      k < length x.ops → get_or (cone_marks x) k true ≡ false → UnlessRefused (MeetsIdentities (width x) (get_or x.ops k Barrier)) (reached v x (suc k))

-- "All this is one claim about two whole op lists, not one for each op."
abbrev pub Demand3 : Type 0
Demand3 = (t u : Task) → Binary64Values t → Binary64Values u → Passes t → Passes u → Agree t u → Demand t u
