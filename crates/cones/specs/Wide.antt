-- 2026-10, sentence by sentence, over the values of a sheet; proofs/WideAgrees.antt proves it.
--   "`run=wide` takes a `path` sheet"                                              WideAgrees: every task that passes as `path`; AgreesWithPath.taken
--   "counts as `path` in every rule so far, the noise table's too"                 question3, t_count_of: the same words for both; channels stand in it
--   "and skips every op with no target in the cone grown from all its terms' qubits" wide_marks
--   "folded lines use the same marks"                                              sum_run, which hands its marks to the fold
--   "It agrees with `path` in refusal, mean, discarded weight, peak and touched"   AgreesWithPath.same_end
--   "every skipped channel meets identities"                                       AgreesWithPath.identities, of every skipped op, without the proviso
--   "provided max_terms is 0 or at least the number of merged starting terms"      Provided, which same_end alone takes
--   "The existing cone keeps its one-term form"                                    LightCone.antt, as it was
use Rattle.std.specs.Prelude.{ℕ, suc, ◌≤◌, ◌<◌, ◌≡◌, Bool, true, false, ◌⊎◌, List, [], ◌∷◌, length, drop, get_or}
use Rattle.numbers.specs.Constants.{zero64, one64}
use Rattle.terms.specs.Start.{term_of}
use Rattle.ops.specs.declared.Op.TheVariants.{Barrier}
use Rattle.dynamics.specs.Turn.{UnlessRefused, Stage, bind, State, Outcome, finish}
use Rattle.ops.specs.declared.Run.TheVariants.{Path, Wide}
use Rattle.ops.specs.Task.{Line, Task, width, passes}
use Rattle.dynamics.specs.Runs.{runs, begin}
use Rattle.ops.specs.Marks.{mark_path}
use Rattle.dynamics.specs.Outcome.{start_of, alone, or_fold, wide_marks, outcome_of}
use Rattle.cones.specs.LightCone.{SameEnd, MeetsIdentities}

-- ---- both runs of a sheet
pub data Way : Type 0 where
  as_path as_wide : Way

abbrev pub marks_as : Way → Task → List Bool
marks_as as_path t = mark_path t.ops
marks_as as_wide t = wide_marks t

abbrev pub end_as : Way → Task → Stage Outcome
end_as as_path t = outcome_of Path t
end_as as_wide t = outcome_of Wide t

-- what they start from: the merged terms, and for a fold each line alone at weight 1
abbrev pub together : Task → State
together t = begin (start_of (width t) t.lines)

abbrev pub task_line : Task → ℕ → Line
task_line t i = get_or t.lines i (record { key = []; weight = zero64 })

abbrev pub by_itself : Task → ℕ → State
by_itself t i = begin (term_of (width t) (task_line t i).key one64 ∷ [])

pub data StartOf (t : Task) : State → Type 0 where
  merged : StartOf t (together t)
  line : (i : ℕ) → i < length t.lines → StartOf t (by_itself t i)

-- "A skipped op's turn is its place in the list": what a run from s has come to when all ops from the k-th on have had their turns
abbrev pub reached : Way → Task → State → ℕ → Stage State
reached v t s k = runs (width t) t.limits (drop k (marks_as v t)) (drop k t.ops) s

-- "provided max_terms is 0 or at least the number of merged starting terms"
abbrev pub Provided : Task → Type 0
Provided t = (t.limits.max_terms ≡ 0) ⊎ (length (start_of (width t) t.lines) ≤ t.limits.max_terms)

-- ---- the claim
pub record AgreesWithPath (t : Task) : Type 0 where
  -- "`run=wide` takes a `path` sheet"
  pub taken : passes Wide t ≡ true
  -- "It agrees with `path` in refusal, mean, discarded weight, peak and touched, .. provided ..": the line of a refusal during a run is 0
  pub same_end : Provided t → SameEnd (end_as as_path t) (end_as as_wide t)
  -- "every skipped channel meets identities": every op that `wide` skips, in both runs of the sum and, for a fold, of every line; without the proviso
  pub identities : (v : Way) (s : State) → StartOf t s → (k : ℕ) → k < length t.ops → get_or (wide_marks t) k true ≡ false
      → UnlessRefused (MeetsIdentities (width t) (get_or t.ops k Barrier)) (reached v t s (suc k))
  -- the turns are those of the runs that end so: of the sum, and of each line of a fold
  pub same_run : (v : Way) → end_as v t ≡ or_fold t (marks_as v t) (bind (reached v t (together t) 0) (finish (width t) t.limits))
  pub same_lines : (v : Way) (i : ℕ) → alone t (marks_as v t) (task_line t i) ≡ bind (reached v t (by_itself t i) 0) (finish (width t) t.limits)

-- of every task that passes as `path`
abbrev pub WideAgrees : Type 0
WideAgrees = (t : Task) → passes Path t ≡ true → AgreesWithPath t
