-- What the proofs of the end of a run use of its definition. Assumes nothing.
use mathlib.Core.Path.{◌≡◌, refl, sym, ap, ◌∙◌, subst, subst⁻¹}
use mathlib.Core.Bool.{Bool, true, false, cond, ◌&&◌}
use mathlib.Core.List.{List, []}
use Prim.Native.Nat.{ℕ, ◌*◌, ◌≤◌, zero-le}
use native.Mathlib.Nat.{le_trans}
use native.Mathlib.Omega.{arith}
use lib.Dec.{leb}
use lib.ListN.{length}
use lib.Ieee.{Float, lt}
use borrow.Author.Tests.{le-leb}
use Rattle.std.specs.Prelude.{Result, Ok, Err}
use Rattle.numbers.specs.Constants.{zero64}
use Rattle.numbers.specs.Tests.{is_finite}
use Rattle.terms.specs.Term.{all_finite}
use Rattle.terms.specs.Mean.{mean_of}
use Rattle.terms.proofs.CountLaws.{kept_count}
use Rattle.rows.specs.Rows.{terms_in, rows_in, Holds}
use Rattle.rows.proofs.HoldLaws.{hold_wide}
use Rattle.rows.proofs.StepLaws.{held_rows}
use Rattle.sums.proofs.MeanLaws.{finite_terms}
use Rattle.ops.specs.declared.Limits.{Limits}
use Rattle.ops.specs.declared.Refusal.{Refusal}
use Rattle.ops.specs.declared.Refusal.TheVariants.{NotFinite}
use Rattle.turns.specs.declared.Progress.{Progress}
use Rattle.turns.specs.declared.Finished.{Finished}
use Rattle.dynamics.specs.Turn.{going, ask, State, fine, drop_small, Outcome, outcome, last_drop, finish}
use Rattle.turns.specs.SumRuns.{told_by, results_of, left_by}
use Rattle.turns.specs.Told.{state_in, fine_in, Ready, Ends, AfterDrop}
use Rattle.turns.proofs.TurnLaws.{long, left_same, emptied}

-- ---- the last drop

module _ (w : ℕ) (l : Limits) (p : Progress) where
  pub swept : {r : Progress} {ws ws' : List ℕ} {cs cs' : List Float} → lt zero64 l.epsilon ≡ true → AfterDrop w p.count r ws ws' cs cs' (drop_small l.epsilon (state_in w p ws cs))
      → AfterDrop w p.count r ws ws' cs cs' (last_drop l (state_in w p ws cs))
  swept {r} {ws} {ws'} {cs} {cs'} e L = subst⁻¹ (λ (b : Bool). AfterDrop w p.count r ws ws' cs cs' (cond b (drop_small l.epsilon (state_in w p ws cs)) (state_in w p ws cs))) e L

  pub not_swept : (ws : List ℕ) (cs : List Float) → lt zero64 l.epsilon ≡ false → AfterDrop w p.count p ws ws cs cs (last_drop l (state_in w p ws cs))
  not_swept ws cs e =
      subst⁻¹ (λ (b : Bool). AfterDrop w p.count p ws ws cs cs (cond b (drop_small l.epsilon (state_in w p ws cs)) (state_in w p ws cs))) e (left_same w p ws cs)

last_few : (l : Limits) (s : State) (b : Bool) → length (cond b (drop_small l.epsilon s) s).terms ≤ length s.terms
last_few l s true = kept_count l.epsilon s.terms
last_few l s false = omega arith

-- ---- the end

left_held : (w R : ℕ) (b : Bool) (o : Outcome) {ws₀ ws : List ℕ} {cs₀ cs : List Float} → Holds (2 * w) R (length o.terms) o.terms ws₀ ws cs₀ cs
    → Holds (2 * w) R (length (left_by (ask 8 b (going o)))) (left_by (ask 8 b (going o))) ws₀ ws cs₀ cs
left_held w R true o H = H
left_held w R false o H = emptied H

left_few : (b : Bool) (o : Outcome) (m : ℕ) → length o.terms ≤ m → length (left_by (ask 8 b (going o))) ≤ m
left_few true o m h = h
left_few false o m h = zero-le

module _ (w : ℕ) (l : Limits) (p : Progress) {left : Progress} {ws ws' : List ℕ} {cs cs' : List Float} (R : Ready w l p.count ws cs)
    (L : AfterDrop w p.count left ws ws' cs cs' (last_drop l (state_in w p ws cs))) {m : Float} (em : m ≡ cond (leb left.count (rows_in w ws' cs')) (mean_of w (terms_in (2 * w) left.count ws' cs')) zero64) where
  abbrev s : State
  s = last_drop l (state_in w p ws cs)

  few : length s.terms ≤ p.count
  few = subst (λ (m : ℕ). length s.terms ≤ m) (long w p.count ws cs) (last_few l (state_in w p ws cs) (lt zero64 l.epsilon))

  count : left.count ≡ length s.terms
  count = ap (λ (x : Progress). x.count) L.answer

  mean : m ≡ mean_of w s.terms
  mean =
      let lim = R.few in
      let big = R.room in
      let room : leb left.count (rows_in w ws' cs') ≡ true = le-leb left.count (rows_in w ws' cs') (rw (held_rows w L.rows, count) (omega (arith, few))) in
      em ∙ ap (λ (b : Bool). cond b (mean_of w (terms_in (2 * w) left.count ws' cs')) zero64) room ∙ ap (mean_of w) L.rows.terms

  fine_told : fine_in left cs' ≡ fine s
  fine_told = λ k. (sym (finite_terms (2 * w) left.count ws' cs') ∙ ap all_finite L.rows.terms) k && is_finite (L.answer k).tally.discarded

  -- question 8 at the end, of the coefficients, the discarded weight and the mean
  abbrev asked : Bool
  asked = fine s && is_finite (mean_of w s.terms)

  abbrev o : Outcome
  o = outcome s.terms (mean_of w s.terms) [] s.peak s.discarded s.touched

  ends : (b : Bool) → asked ≡ b → (r : Result Finished Refusal) → told_by r ≡ results_of (ask 8 b (going o)) → Ends w l r ws ws' cs cs' (finish w l (state_in w p ws cs))
  unfolding finish
  ends b e r h =
      let lim = R.few in
      subst⁻¹ (λ (c : Bool). Ends w l r ws ws' cs cs' (ask 8 c (going o))) e
      (record {
        answer = h;
        rows = left_held w (2 * l.limit) b o (hold_wide (omega arith) (subst (λ (c : ℕ). Holds (2 * w) p.count c s.terms ws ws' cs cs') count L.rows));
        few = left_few b o l.limit (le_trans few R.few);
      })

  pub finished : {x y : Bool} → x ≡ fine_in left cs' → y ≡ is_finite m → x ≡ true → y ≡ true
      → Ends w l (Ok (record { mean = m; count = left.count; tally = left.tally })) ws ws' cs cs' (finish w l (state_in w p ws cs))
  finished ex ey hx hy =
      ends true (λ k. (sym fine_told ∙ sym ex ∙ hx) k && (ap is_finite (sym mean) ∙ sym ey ∙ hy) k) (Ok (record { mean = m; count = left.count; tally = left.tally }))
      (λ k. told_by (Ok (record { mean = mean k; count = (L.answer k).count; tally = (L.answer k).tally })))

  pub finished_8 : {x : Bool} → x ≡ fine_in left cs' → x ≡ false → Ends w l (Err NotFinite) ws ws' cs cs' (finish w l (state_in w p ws cs))
  finished_8 ex hx = ends false (λ k. (sym fine_told ∙ sym ex ∙ hx) k && is_finite (mean_of w s.terms)) (Err NotFinite) refl

  pub finished_mean : {x y : Bool} → x ≡ fine_in left cs' → x ≡ true → y ≡ is_finite m → y ≡ false → Ends w l (Err NotFinite) ws ws' cs cs' (finish w l (state_in w p ws cs))
  finished_mean ex hx ey hy = ends false (λ k. (sym fine_told ∙ sym ex ∙ hx) k && (ap is_finite (sym mean) ∙ sym ey ∙ hy) k) (Err NotFinite) refl
