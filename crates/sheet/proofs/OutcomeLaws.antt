-- What an outcome has of means and of terms: `all` has one mean for each qubit and no terms, the other runs no means. Assumes nothing.
use mathlib.Core.Path.{◌≡◌, refl, ap, ◌∙◌}
use Prim.Native.Nat.{ℕ, zero, suc}
use native.Mathlib.Numerals.{add-one}
use mathlib.Core.Bool.{Bool, true, false, cond, ◌&&◌}
use mathlib.Core.List.{List, [], ◌∷◌}
use lib.Dec.{ltb, eqb}
use lib.ListN.{length, length-append}
use Rattle.numbers.specs.Tests.{is_finite}
use Rattle.ops.specs.declared.Limits.{Limits}
use Rattle.ops.specs.declared.Op.{Op}
use Rattle.dynamics.specs.Turn.{Stage, refused, going, bind, ask, State, Outcome, fine, last_drop, ended, finish}
use Rattle.dynamics.specs.Runs.{runs, marked_run, begin}
use Rattle.ops.specs.Marks.{mark_all}
use Rattle.std.specs.Prelude.{Result, Ok, Err}
use Rattle.numbers.specs.Shown.{shown_of}
use Rattle.ops.specs.declared.Refusal.{Refusal}
use Rattle.turns.specs.declared.Finished.{Finished}
use Rattle.turns.specs.SumRuns.{left_by, Results, told_by, results_of}
use Rattle.replies.specs.declared.Reply.{Reply}
use Rattle.terms.specs.Mean.{mean_of}
use Rattle.ops.specs.declared.Run.{Run}
use Rattle.ops.specs.declared.Run.TheVariants.{Full, Cone, All, Path, Wide}
use Rattle.ops.specs.Task.{Line, Task, width}
use Rattle.dynamics.specs.Outcome.{start_of, nothing_yet, add_line, alone, fold_lines, folded, ask_totals, or_fold, sum_run, z_state, add_z, z_step, all_runs, outcome_of, t_count_of}
use Rattle.sheet.specs.Answer.{reply, refusal, reply_run}
use Rattle.sheet.specs.Running.{means_count, reply_end}

-- so many means, if the run succeeds
abbrev pub HasMeans : ℕ → Stage Outcome → Type 0
HasMeans n (refused k) = Unit {0}
HasMeans n (going o) = length o.means ≡ n

abbrev NoTerms : Stage Outcome → Type 0
NoTerms (refused k) = Unit {0}
NoTerms (going o) = o.terms ≡ []

-- ---- a run under marks
asked_means : (n : ℕ) (b : Bool) (s : Stage Outcome) (k : ℕ) → HasMeans n s → HasMeans n (ask k b s)
asked_means n true s k h = h
asked_means n false s k h = tt

marked_means : (w : ℕ) (l : Limits) (ms : List Bool) (ops : List Op) (s : State) → HasMeans 0 (marked_run w l ms ops s)
unfolding marked_run finish ended
marked_means w l ms ops s = go (runs w l ms ops s)
  where
    go : (r : Stage State) → HasMeans 0 (bind r (finish w l))
    go (refused n) = tt
    go (going u) = let v = last_drop l u in asked_means 0 (fine v && is_finite (mean_of w v.terms)) _ 8 refl

-- ---- the fold
fold_means : (t : Task) (ms : List Bool) (ls : List Line) (a : Outcome) → length a.means ≡ 0 → HasMeans 0 (fold_lines t ms ls a)
unfolding fold_lines
fold_means t ms [] a h = h
fold_means t ms (l ∷ ls) a h = go (λ b. fold_means t ms ls b) (alone t ms l)
  where
    go : ((b : Outcome) → length b.means ≡ 0 → HasMeans 0 (fold_lines t ms ls b)) → (r : Stage Outcome) → HasMeans 0 (bind (bind r (λ o. going (add_line a l.weight o))) (fold_lines t ms ls))
    go ih (refused n) = tt
    go ih (going o) = ih (add_line a l.weight o) refl

folded_means : (t : Task) (ms : List Bool) → HasMeans 0 (folded t ms)
folded_means t ms = go (fold_lines t ms t.lines nothing_yet) (fold_means t ms t.lines nothing_yet refl)
  where
    go : (r : Stage Outcome) → HasMeans 0 r → HasMeans 0 (bind r ask_totals)
    go (refused n) h = tt
    go (going o) h = asked_means 0 (is_finite o.mean && is_finite o.discarded) (going o) 8 h

sum_means : (t : Task) (ms : List Bool) → HasMeans 0 (sum_run t ms)
sum_means t ms = let s = begin (start_of (width t) t.lines) in go (marked_run (width t) t.limits ms t.ops s) (marked_means (width t) t.limits ms t.ops s)
  where
    pick : (b : Bool) (n : ℕ) → HasMeans 0 (cond b (folded t ms) (refused n))
    pick true n = folded_means t ms
    pick false n = tt

    go : (r : Stage Outcome) → HasMeans 0 r → HasMeans 0 (or_fold t ms r)
    go (going o) h = h
    go (refused n) h = pick (eqb n 9 && ltb 1 (length t.lines)) n

-- ---- `all`
all_means : (t : Task) (k : ℕ) → HasMeans k (all_runs t k)
unfolding all_runs
all_means t zero = refl
all_means t (suc k) = go (all_runs t k) (all_means t k)
  where
    last : (a : Outcome) → length a.means ≡ k → (r : Stage Outcome) → HasMeans (suc k) (bind r (λ o. going (add_z a o)))
    last a h (refused n) = tt
    last a h (going o) = length-append a.means (o.mean ∷ []) ∙ add-one (length a.means) ∙ ap suc h

    go : (r : Stage Outcome) → HasMeans k r → HasMeans (suc k) (bind r (z_step (width t) t.limits (mark_all t.ops) t.ops k))
    go (refused n) h = tt
    go (going a) h = last a h (marked_run (width t) t.limits (mark_all t.ops) t.ops (z_state (width t) k a))

all_terms : (t : Task) (k : ℕ) → NoTerms (all_runs t k)
unfolding all_runs
all_terms t zero = refl
all_terms t (suc k) = go (all_runs t k)
  where
    last : (a : Outcome) (r : Stage Outcome) → NoTerms (bind r (λ o. going (add_z a o)))
    last a (refused n) = tt
    last a (going o) = refl

    go : (r : Stage Outcome) → NoTerms (bind r (z_step (width t) t.limits (mark_all t.ops) t.ops k))
    go (refused n) = tt
    go (going a) = last a (marked_run (width t) t.limits (mark_all t.ops) t.ops (z_state (width t) k a))

pub all_left : (t : Task) (k : ℕ) → left_by (all_runs t k) ≡ []
all_left t k = go (all_runs t k) (all_terms t k)
  where
    go : (r : Stage Outcome) → NoTerms r → left_by r ≡ []
    go (refused n) h = refl
    go (going o) h = h

-- ---- the reply that the end of a run stands for
of_results : Run → ℕ → ℕ → Stage Results → Reply
of_results r q t (refused n) = refusal n 0
of_results r q t (going f) = reply 0 0 f.mean (shown_of f.mean) t f.peak f.touched f.discarded (means_count r q)

reply_told : (r : Run) (q t : ℕ) (end : Result Finished Refusal) → reply_end r q t end ≡ of_results r q t (told_by end)
unfolding of_results
reply_told r q t (Err e) = refl
reply_told r q t (Ok f) = refl

pub outcome_means : (r : Run) (t : Task) → HasMeans (means_count r t.qubits) (outcome_of r t)
outcome_means Full t = sum_means t _
outcome_means Cone t = sum_means t _
outcome_means All t = all_means t t.qubits
outcome_means Path t = sum_means t _
outcome_means Wide t = sum_means t _

pub reply_of_end : (r : Run) (t : Task) (ops : List Op) (end : Result Finished Refusal) → told_by end ≡ results_of (outcome_of r t)
    → reply_end r t.qubits (t_count_of r ops) end ≡ reply_run r ops (outcome_of r t)
unfolding of_results
reply_of_end r t ops end e = reply_told r t.qubits (t_count_of r ops) end ∙ ap (of_results r t.qubits (t_count_of r ops)) e ∙ go (outcome_of r t) (outcome_means r t)
  where
    go : (s : Stage Outcome) → HasMeans (means_count r t.qubits) s → of_results r t.qubits (t_count_of r ops) (results_of s) ≡ reply_run r ops s
    go (refused n) h = refl
    go (going o) h = rw h
