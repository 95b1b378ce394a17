-- How many terms the lines of a fold and the qubits of `all` meet: at most 2^32 each, so that the sums fit 64 bits. Assumes nothing.
use mathlib.Core.Path.{◌≡◌, refl, subst, subst⁻¹}
use Prim.Native.Nat.{ℕ, zero, suc, ◌+◌, ◌*◌, ◌≤◌}
use native.Mathlib.Nat.{le_refl, le_trans}
use native.Mathlib.Omega.{arith}
use mathlib.Core.Bool.{Bool}
use mathlib.Core.List.{List, [], ◌∷◌}
use lib.ListN.{length}
use Rattle.std.specs.Prelude.{Ok}
use Rattle.ops.specs.declared.Limits.{Limits}
use Rattle.ops.specs.declared.Op.{Op}
use Rattle.turns.specs.declared.Finished.{Finished}
use Rattle.turns.specs.declared.fold.Totals.{Totals}
use Rattle.dynamics.specs.Turn.{UnlessRefused, Stage, refused, going, State, Outcome}
use Rattle.dynamics.specs.Runs.{marked_run}
use Rattle.dynamics.proofs.Alike.{holds_imp, bind_holds}
use Rattle.dynamics.proofs.CountedRuns.{Met, run_met, run_fits}
use Rattle.ops.specs.Task.{Line, Task, width}
use Rattle.dynamics.specs.Outcome.{nothing_yet, alone, add_line, add_next, fold_lines, z_state, add_z, z_step}
use Rattle.turns.specs.SumRuns.{told_by, results_of}
use Rattle.turns.specs.Means.{all_to}
use Rattle.turns.specs.Folding.{held}
use Rattle.turns.proofs.RunLaws.{ends_going}

-- ---- what an answer tells of it

pub ending_met : (n : ℕ) (s : Stage Outcome) {f : Finished} → told_by (Ok f) ≡ results_of s → UnlessRefused (Met n) s → f.tally.touched ≤ n
ending_met n s {f} e h =
    let v = ends_going f s e in
    subst⁻¹ (λ (k : ℕ). k ≤ n) v.2.touched (subst (UnlessRefused (Met n)) v.1 h)

-- ---- one run, of at most 4,096 ops and at most 1,048,576 terms

module _ (w : ℕ) (l : Limits) (ms : List Bool) (ops : List Op) (short : length ops ≤ 4096) (low : l.limit ≤ 1048576) where
  pub one_met : (s : State) → length s.terms ≤ l.limit → s.touched ≡ 0 → UnlessRefused (Met 4294967296) (marked_run w l ms ops s)
  one_met s few none = holds_imp (Met (length ops * l.limit)) (Met 4294967296) (marked_run w l ms ops s) (λ o h. le_trans h (run_fits (length ops) l.limit short low)) (run_met w l ms ops s few none)

  -- ---- the qubits of `all`
  pub all_met : 1 ≤ l.limit → (k : ℕ) → UnlessRefused (Met (k * 4294967296)) (all_to w l ms ops k)
  unfolding all_to
  all_met some zero = omega arith
  all_met some (suc k) = bind_holds (Met (k * 4294967296)) (Met (suc k * 4294967296)) (all_to w l ms ops k) (z_step w l ms ops k) (all_met some k) one
    where
      one : (a : Outcome) → Met (k * 4294967296) a → UnlessRefused (Met (suc k * 4294967296)) (z_step w l ms ops k a)
      one a h = bind_holds (Met 4294967296) (Met (suc k * 4294967296)) (marked_run w l ms ops (z_state w k a)) (λ o. going (add_z a o)) (one_met (z_state w k a) some refl) (λ o j. omega (arith, h, j))

-- ---- the lines of a fold
module _ (t : Task) (ms : List Bool) (short : length t.ops ≤ 4096) (low : t.limits.limit ≤ 1048576) (some : 1 ≤ t.limits.limit) where
  lines_met : (ls : List Line) (a : Outcome) (n : ℕ) → a.touched ≤ n → UnlessRefused (Met (length ls * 4294967296 + n)) (fold_lines t ms ls a)
  unfolding fold_lines
  lines_met [] a n h = omega (arith, h)
  lines_met (l ∷ ls) a n h =
      bind_holds (Met (4294967296 + n)) (Met (suc (length ls) * 4294967296 + n)) (add_next t ms l a) (fold_lines t ms ls) one (λ b k. widen (fold_lines t ms ls b) (lines_met ls b (4294967296 + n) k))
    where
      one : UnlessRefused (Met (4294967296 + n)) (add_next t ms l a)
      one = bind_holds (Met 4294967296) (Met (4294967296 + n)) (alone t ms l) (λ o. going (add_line a l.weight o)) (one_met (width t) t.limits ms t.ops short low _ some refl) (λ o k. omega (arith, h, k))

      widen : (x : Stage Outcome) → UnlessRefused (Met (length ls * 4294967296 + (4294967296 + n))) x → UnlessRefused (Met (suc (length ls) * 4294967296 + n)) x
      widen (refused q) k = tt
      widen (going o) k = omega (arith, k)

  pub fold_met : (ls : List Line) (a : Totals) → going (held a) ≡ fold_lines t ms ls nothing_yet → a.tally.touched ≤ length ls * 4294967296
  fold_met ls a e =
      let P : Stage Outcome → Type 0 = UnlessRefused (Met (length ls * 4294967296)) in
      subst⁻¹ P e (holds_imp (Met (length ls * 4294967296 + 0)) (Met (length ls * 4294967296)) (fold_lines t ms ls nothing_yet) (λ o h. omega (arith, h)) (lines_met ls nothing_yet 0 (le_refl 0)))
