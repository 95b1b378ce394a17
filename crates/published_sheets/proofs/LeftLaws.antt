-- A run of the stored form that starts from at most limit terms leaves at most limit terms. Assumes nothing.
use Prim.Native.Nat.{ℕ, ◌+◌, ◌*◌, ◌≤◌, zero-le}
use native.Mathlib.Nat.{le_refl, le_trans}
use native.Mathlib.Omega.{arith}
use mathlib.Core.Bool.{Bool, ◌&&◌}
use mathlib.Core.List.{List, [], ◌∷◌}
use lib.Dec.{ltb, eqb}
use lib.ListN.{length}
use lib.Ieee.{lt}
use Rattle.numbers.specs.Constants.{zero64}
use Rattle.numbers.specs.Tests.{is_finite}
use Rattle.terms.specs.Mean.{mean_of}
use Rattle.terms.proofs.CountLaws.{kept_count, merged_count}
use Rattle.terms.proofs.CaseLaws.{cond_holds}
use Rattle.ops.specs.declared.Limits.{Limits}
use Rattle.ops.specs.declared.Op.{Op}
use Rattle.dynamics.specs.Turn.{Stage, refused, going, bind, State, fine, last_drop, ended, finish, Outcome, outcome, UnlessRefused}
use Rattle.dynamics.specs.Runs.{runs, marked_run, begin}
use Rattle.turns.specs.SumRuns.{left_by}
use Rattle.dynamics.proofs.Alike.{bind_holds, ask_holds}
use Rattle.dynamics.proofs.CountedRuns.{Counted, runs_counted}
use Rattle.ops.specs.declared.Run.{Run}
use Rattle.ops.specs.declared.Run.TheVariants.{Full, Cone, All, Path, Wide}
use Rattle.ops.specs.Task.{Line, Task, width}
use Rattle.dynamics.specs.Outcome.{terms_of, start_of, nothing_yet, alone, add_line, add_next, fold_lines, ask_totals, folded, or_fold, sum_run, outcome_of}
use Rattle.cones.proofs.WideAgrees.{terms_long}
use Rattle.sheet.proofs.OutcomeLaws.{all_left}

abbrev Few : Limits → Outcome → Type 0
Few l o = length o.terms ≤ l.limit

-- ---- a run under marks
module _ (w : ℕ) (l : Limits) where
  finish_few : (s : State) → length s.terms ≤ l.limit → UnlessRefused (Few l) (finish w l s)
  unfolding finish ended
  finish_few s h =
      let u = last_drop l s in
      let m = mean_of w u.terms in
      ask_holds (Few l) 8 (fine u && is_finite m) (going (outcome u.terms m [] u.peak u.discarded u.touched))
      (λ e. cond_holds (λ (s : State). length s.terms ≤ l.limit) (lt zero64 l.epsilon) (le_trans (kept_count l.epsilon s.terms) h) h)

  run_few : (ms : List Bool) (ops : List Op) (s : State) → length s.terms ≤ l.limit → UnlessRefused (Few l) (marked_run w l ms ops s)
  unfolding marked_run
  run_few ms ops s h =
      bind_holds (Counted l (length ops * l.limit + s.touched)) (Few l) (runs w l ms ops s) (finish w l)
      (runs_counted w l ms ops s s.touched (record { few = h; met = le_refl s.touched })) (λ u c. finish_few u c.few)

-- ---- the runs of a task; the totals of a fold have no terms
module _ (t : Task) (ms : List Bool) where
  abbrev FewEnd : Outcome → Type 0
  FewEnd = Few t.limits

  lines_few : (ls : List Line) (a : Outcome) → FewEnd a → UnlessRefused FewEnd (fold_lines t ms ls a)
  unfolding fold_lines
  lines_few [] a h = h
  lines_few (l ∷ ls) a h = bind_holds FewEnd FewEnd (add_next t ms l a) (fold_lines t ms ls) (go (alone t ms l)) (λ b. lines_few ls b)
    where
      go : (x : Stage Outcome) → UnlessRefused FewEnd (bind x (λ o. going (add_line a l.weight o)))
      go (refused n) = tt
      go (going o) = zero-le

  folded_few : UnlessRefused FewEnd (folded t ms)
  folded_few =
      bind_holds FewEnd FewEnd (fold_lines t ms t.lines nothing_yet) ask_totals (lines_few t.lines nothing_yet zero-le)
      (λ a h. ask_holds FewEnd 8 (is_finite a.mean && is_finite a.discarded) (going a) (λ e. h))

  sum_few : length (start_of (width t) t.lines) ≤ t.limits.limit → UnlessRefused FewEnd (sum_run t ms)
  sum_few h = let s = begin (start_of (width t) t.lines) in go (marked_run (width t) t.limits ms t.ops s) (run_few (width t) t.limits ms t.ops s h)
    where
      go : (x : Stage Outcome) → UnlessRefused FewEnd x → UnlessRefused FewEnd (or_fold t ms x)
      go (going o) k = k
      go (refused n) k = cond_holds (UnlessRefused FewEnd) (eqb n 9 && ltb 1 (length t.lines)) folded_few tt

sum_left : (t : Task) (ms : List Bool) → length t.lines ≤ t.limits.limit → length (left_by (sum_run t ms)) ≤ t.limits.limit
sum_left t ms h = go (sum_run t ms) (sum_few t ms (omega (arith, h, merged_count (terms_of (width t) t.lines), terms_long (width t) t.lines)))
  where
    go : (x : Stage Outcome) → UnlessRefused (Few t.limits) x → length (left_by x) ≤ t.limits.limit
    go (refused n) k = zero-le
    go (going o) k = k

pub left_few : (r : Run) (t : Task) → length t.lines ≤ t.limits.limit → length (left_by (outcome_of r t)) ≤ t.limits.limit
left_few Full t h = sum_left t _ h
left_few Cone t h = sum_left t _ h
left_few All t h = rw (all_left t t.qubits) zero-le
left_few Path t h = sum_left t _ h
left_few Wide t h = sum_left t _ h
