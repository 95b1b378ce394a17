-- The runs of a task that the questions before a run passed.
use Rattle.std.specs.Prelude.{ℕ, zero, suc, ◌+◌, max, Bool, cond, ◌&&◌, List, [], ◌∷◌, ◌++◌, ltb, eqb, length, Float}
use Rattle.std.specs.Float.{binary64}
use Rattle.std.specs.Float.Ieee.{add, mul}
use Rattle.numbers.specs.Constants.{zero64, one64}
use Rattle.numbers.specs.Tests.{is_finite, abs_of}
use Rattle.words.specs.Keys.{Key, flip_at, z_at, no_letters}
use Rattle.terms.specs.Term.{Term}
use Rattle.terms.specs.Start.{term_of, merged}
use Rattle.ops.specs.declared.Op.{Op}
use Rattle.ops.specs.Ops.{t_count}
use Rattle.ops.specs.declared.Limits.{Limits}
use Rattle.dynamics.specs.Turn.{Stage, refused, going, bind, ask, State, state, Outcome, outcome}
use Rattle.ops.specs.Marks.{mark_all, mark_path, mark_cone}
use Rattle.dynamics.specs.Runs.{marked_run, begin}
use Rattle.ops.specs.declared.Run.{Run}
use Rattle.ops.specs.declared.Run.TheVariants.{Full, Cone, All, Path, Wide}
use Rattle.ops.specs.Task.{Line, Task, width, qubits_of}

-- the terms of the lines, and the terms that a run starts from
unfoldable pub terms_of : ℕ → List Line → List Term
terms_of w [] = []
terms_of w (l ∷ ls) = term_of w l.key l.weight ∷ terms_of w ls

abbrev pub start_of : ℕ → List Line → List Term
start_of w ls = merged (terms_of w ls)

-- the totals before the first line of a fold, and before the first qubit of `all`
abbrev pub nothing_yet : Outcome
nothing_yet = outcome [] zero64 [] 0 zero64 0

-- ---- "Fold: if a sum from two or more `term` lines meets 9, each line runs alone at weight 1, in order, its first refusal ending the run"
abbrev pub alone : Task → List Bool → Line → Stage Outcome
alone t ms l = marked_run (width t) t.limits ms t.ops (begin (term_of (width t) l.key one64 ∷ []))

-- "mean adds weight × mean, discarded adds |weight| × discarded, peak is the greatest"; "In a fold it is summed over the lines"; "after .. a
-- fold every row is zero"
abbrev pub add_line : Outcome → Float → Outcome → Outcome
add_line a weight o =
    let m = add binary64 a.mean (mul binary64 weight o.mean) in
    let d = add binary64 a.discarded (mul binary64 (abs_of weight) o.discarded) in
    outcome [] m [] (max a.peak o.peak) d (a.touched + o.touched)

-- the totals with the next line
abbrev pub add_next : Task → List Bool → Line → Outcome → Stage Outcome
add_next t ms l a = bind (alone t ms l) (λ o. going (add_line a l.weight o))

unfoldable pub fold_lines : Task → List Bool → List Line → Outcome → Stage Outcome
fold_lines t ms [] a = going a
fold_lines t ms (l ∷ ls) a = bind (add_next t ms l a) (fold_lines t ms ls)

-- 8 is put "last on a fold's totals"
abbrev pub ask_totals : Outcome → Stage Outcome
ask_totals a = ask 8 (is_finite a.mean && is_finite a.discarded) (going a)

abbrev pub folded : Task → List Bool → Stage Outcome
folded t ms = bind (fold_lines t ms t.lines nothing_yet) ask_totals

-- "9 only if one line alone meets it"; any other refusal of the sum stands
abbrev pub or_fold : Task → List Bool → Stage Outcome → Stage Outcome
or_fold t ms (going o) = going o
or_fold t ms (refused n) = cond (eqb n 9 && ltb 1 (length t.lines)) (folded t ms) (refused n)

-- full, cone and path: the sum of the `term` lines, under the run's marks
abbrev pub sum_run : Task → List Bool → Stage Outcome
sum_run t ms = or_fold t ms (marked_run (width t) t.limits ms t.ops (begin (start_of (width t) t.lines)))

-- ---- "`all`: .. one Z mean per qubit"
-- Z at one qubit
abbrev pub z_key : ℕ → ℕ → Key
z_key w q = flip_at (no_letters w) (z_at w q)

-- qubit q's start, with the tally so far: "`all` has one running discarded weight and the greatest peak", "the start count (0 in its place)"
abbrev pub z_state : ℕ → ℕ → Outcome → State
z_state w q a = state (term_of w (z_key w q) one64 ∷ []) a.peak a.discarded 0

-- "For `all`, mean and shown are 0"; "in `all` over the qubits"; "after `all` .. every row is zero"
abbrev pub add_z : Outcome → Outcome → Outcome
add_z a o = outcome [] zero64 (a.means ++ (o.mean ∷ [])) o.peak o.discarded (a.touched + o.touched)

-- qubit q's run, under marks
abbrev pub z_step : ℕ → Limits → List Bool → List Op → ℕ → Outcome → Stage Outcome
z_step w l marks ops q a = bind (marked_run w l marks ops (z_state w q a)) (λ o. going (add_z a o))

-- the first k qubits' runs, "each qubit's run before the next begins"
unfoldable pub all_runs : Task → ℕ → Stage Outcome
all_runs t zero = going nothing_yet
all_runs t (suc k) = bind (all_runs t k) (z_step (width t) t.limits (mark_all t.ops) t.ops k)

-- ---- the four bars
-- "starting from the observable's qubits"
abbrev pub first_letters : ℕ → List Line → List ℕ
first_letters w [] = []
first_letters w (l ∷ ls) = qubits_of w l.key

abbrev pub observed : Task → List ℕ
observed t = first_letters (width t) t.lines

-- "grown from all its terms' qubits": of every `term` line, those that cancel in merging too
unfoldable pub all_letters : ℕ → List Line → List ℕ
all_letters w [] = []
all_letters w (l ∷ ls) = qubits_of w l.key ++ all_letters w ls

-- `wide`: "skips every op with no target in the cone"
abbrev pub wide_marks : Task → List Bool
wide_marks t = mark_cone (all_letters (width t) t.lines) t.ops

-- `full`, `cone`, `path`, `wide` and `all`. "folded lines use the same marks"
abbrev pub outcome_of : Run → Task → Stage Outcome
outcome_of Full t = sum_run t (mark_all t.ops)
outcome_of Cone t = sum_run t (mark_cone (observed t) t.ops)
outcome_of Path t = sum_run t (mark_path t.ops)
outcome_of Wide t = sum_run t (wide_marks t)
outcome_of All t = all_runs t t.qubits

-- "t_count: t, tdg, rz, p, rzz in the whole list; 0 for `path`"; `wide` "counts as `path` in every rule"
abbrev pub t_count_of : Run → List Op → ℕ
t_count_of Full ops = t_count ops
t_count_of Cone ops = t_count ops
t_count_of All ops = t_count ops
t_count_of Path ops = 0
t_count_of Wide ops = 0
