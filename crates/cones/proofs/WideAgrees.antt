-- 2026-10, as specs/Wide.antt states it: from the same two laws as demand 3, `covered_sum` and `skipped_meets`. Assumes nothing.
use mathlib.Core.Path.{◌≡◌, refl, ap, ◌∙◌}
use Prim.Native.Nat.{ℕ, suc, ◌≤◌, ◌<◌}
use native.Mathlib.Omega.{arith}
use mathlib.Core.Bool.{Bool, true, false, ◌&&◌, ◌||◌}
use mathlib.Core.Logic.{◌⊎◌, inl, inr}
use mathlib.Core.List.{List, [], ◌∷◌, ◌++◌}
use lib.Dec.{eqb, ltb}
use borrow.Author.Tests.{le-leb, le-ltb}
use lib.ListN.{length, get_or}
use Rattle.words.proofs.LetterLaws.{letter}
use Rattle.terms.specs.Lists.{All}
use Rattle.terms.specs.Term.{Term}
use Rattle.terms.specs.Start.{term_of}
use Rattle.terms.specs.Truncation.{crowded}
use Rattle.terms.proofs.CaseLaws.{and_true, and-false}
use Rattle.terms.proofs.AllLaws.{all_at}
use Rattle.terms.proofs.CountLaws.{merged_count}
use Rattle.terms.proofs.LetterSteps.{Within, Clear}
use Rattle.ops.specs.declared.Op.TheVariants.{Barrier}
use Rattle.ops.specs.Ops.{targets}
use Rattle.dynamics.specs.Turn.{UnlessRefused, bind, State, finish}
use Rattle.ops.specs.declared.Run.TheVariants.{Path}
use Rattle.ops.proofs.SizeLaws.{Counts, sizes_say}
use Rattle.ops.specs.Task.{Line, Task, width, qubits_of, passes, sizes_fit, run_fits, reals_in_range, angles_hold, qubits_below, targets_differ}
use Rattle.dynamics.specs.Runs.{marked_run}
use Rattle.ops.specs.Marks.{member, mark_path}
use Rattle.dynamics.specs.Outcome.{terms_of, start_of, or_fold, all_letters, wide_marks}
use Rattle.cones.specs.LightCone.{MeetsIdentities}
use Rattle.dynamics.proofs.Alike.{Like, NearEnd}
use Rattle.dynamics.proofs.Cone.{or_false, Covers, covers_path, covers_cone}
use Rattle.cones.proofs.Covered.{word_clear, start_clear, Spread, covered_sum, sum_finite, skipped_meets}
use Rattle.cones.proofs.Demand.{same_end_lem, targets_within}
use Rattle.cones.specs.Wide.{Way, as_path, as_wide, marks_as, end_as, together, StartOf, merged, line, reached, Provided, AgreesWithPath, WideAgrees}

-- ---- the qubits of all lines

apart_append : (q : ℕ) (xs ys : List ℕ) → member q (xs ++ ys) ≡ false → (member q xs ≡ false) × (member q ys ≡ false)
unfolding member
apart_append q [] ys h = (refl, h)
apart_append q (x ∷ xs) ys h =
    let p = or_false (eqb q x) (member q (xs ++ ys)) h in
    let r = apart_append q xs ys p.1 in
    (ap (λ (b : Bool). b || member q xs) p.0 ∙ r.0, r.1)

lines_clear : (w q : ℕ) (ls : List Line) → member q (all_letters w ls) ≡ false → All (λ l. letter w l.key q ≡ false) ls
unfolding all_letters
lines_clear w q [] h = tt
lines_clear w q (l ∷ ls) h =
    let p = apart_append q (qubits_of w l.key) (all_letters w ls) h in
    (word_clear w q l.key p.0, lines_clear w q ls p.1)

-- ---- what the questions before a run say of a task

pub terms_long : (w : ℕ) (ls : List Line) → length (terms_of w ls) ≡ length ls
unfolding terms_of
terms_long w [] = refl
terms_long w (l ∷ ls) = ap suc (terms_long w ls)

not_crowded : (m : ℕ) (ts : List Term) → (m ≡ 0) ⊎ (length ts ≤ m) → crowded m ts ≡ false
not_crowded m ts (inl e) = ap (λ (k : ℕ). ltb 0 k && ltb k (length ts)) e
not_crowded m ts (inr h) = ap (λ (b : Bool). ltb 0 m && b) (le-ltb m (length ts) h) ∙ and-false (ltb 0 m)

module _ (t : Task) (h : passes Path t ≡ true) where
  early : (sizes_fit t && run_fits Path t ≡ true) × (reals_in_range t && (angles_hold t && (qubits_below t && targets_differ t)) ≡ true)
  early = and_true (sizes_fit t && run_fits Path t) (reals_in_range t && (angles_hold t && (qubits_below t && targets_differ t))) h

  limit : Counts t.qubits t.limits.limit (length t.lines) (length t.ops)
  limit = sizes_say t (and_true (sizes_fit t) (run_fits Path t) early.0).0

  within : All (λ op. Within (width t) (targets op)) t.ops
  within = targets_within t (and_true (qubits_below t) (targets_differ t) (and_true (angles_hold t) (qubits_below t && targets_differ t) (and_true (reals_in_range t) (angles_hold t && (qubits_below t && targets_differ t)) early.1).1).1).0

  spread : Provided t → Spread t (all_letters (width t) t.lines)
  spread p = record {
    clear = λ q e. lines_clear (width t) q t.lines e;
    few = le-leb (length (start_of (width t) t.lines)) t.limits.limit (omega (arith, limit.few, merged_count (terms_of (width t) t.lines), terms_long (width t) t.lines));
    some = le-leb 1 t.limits.limit limit.some_limit;
    uncrowded = not_crowded t.limits.max_terms (start_of (width t) t.lines) p;
  }

  covers : (v : Way) → Covers (all_letters (width t) t.lines) (marks_as v t) t.ops
  covers as_path = covers_path (all_letters (width t) t.lines) t.ops
  covers as_wide = covers_cone (all_letters (width t) t.lines) t.ops

  -- every start has letters at the qubits of the lines only
  starts_clear : (s : State) → StartOf t s → (q : ℕ) → member q (all_letters (width t) t.lines) ≡ false → Clear (width t) q s.terms
  unfolding term_of
  starts_clear s merged q e = start_clear (width t) q t.lines (lines_clear (width t) q t.lines e)
  starts_clear s (line i b) q e = (all_at (λ l. letter (width t) l.key q ≡ false) t.lines i _ b (lines_clear (width t) q t.lines e), tt)

  -- without the proviso
  pub skipped_identities : (v : Way) (s : State) → StartOf t s → (k : ℕ) → k < length t.ops → get_or (wide_marks t) k true ≡ false
      → UnlessRefused (MeetsIdentities (width t) (get_or t.ops k Barrier)) (reached v t s (suc k))
  skipped_identities v s a k b m = skipped_meets (width t) t.limits s (all_letters (width t) t.lines) (starts_clear s a) (marks_as v t) t.ops (covers v) within k b m

  same_run_lem : (v : Way) → end_as v t ≡ or_fold t (marks_as v t) (bind (reached v t (together t) 0) (finish (width t) t.limits))
  unfolding marked_run
  same_run_lem as_path = refl
  same_run_lem as_wide = refl

  -- with it
  pub near_wide : Provided t → Like NearEnd (end_as as_path t) (end_as as_wide t)
  near_wide p = covered_sum t (all_letters (width t) t.lines) (spread p) (mark_path t.ops) (covers as_path)

  both : AgreesWithPath t
  unfolding marked_run run_fits
  both = record {
    taken = h;
    same_end = λ p. same_end_lem (near_wide p) (sum_finite t (mark_path t.ops));
    identities = skipped_identities;
    same_run = same_run_lem;
    same_lines = λ v i. refl;
  }

pub wide_agrees : WideAgrees
wide_agrees = both
