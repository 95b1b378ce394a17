-- The run of a sheet, from the contracts of the public runs. Assumes nothing.
use mathlib.Core.Path.{◌≡◌, refl, sym, ap, ap₂, ◌∙◌, subst}
use Prim.Native.Nat.{ℕ, ◌*◌}
use mathlib.Core.Bool.{Bool, true, cond, ◌&&◌}
use mathlib.Core.List.{List, [], ◌++◌}
use lib.Dec.{leb, eqb}
use lib.ListN.{length, drop, replicate}
use lib.Ieee.{Float}
use borrow.Author.Tests.{eqb-true, leb-true}
use Rattle.std.specs.Prelude.{Result}
use Rattle.words.specs.Keys.{width_of}
use Rattle.terms.specs.Lists.{tab}
use Rattle.terms.specs.Term.{Term}
use Rattle.terms.proofs.CaseLaws.{and_true}
use Rattle.terms.proofs.ListLaws.{length_tab}
use Rattle.rows.specs.Rows.{rows_in, words_with, coeffs_with}
use Rattle.ops.specs.declared.Limits.{Limits}
use Rattle.ops.specs.declared.Op.{Op}
use Rattle.ops.specs.declared.Refusal.{Refusal}
use Rattle.ops.specs.declared.Run.{Run}
use Rattle.ops.specs.declared.Run.TheVariants.{Cone, All, Wide}
use Rattle.ops.specs.Task.{Task, passes, sizes_fit, run_fits, channel_free, counts_fit}
use Rattle.ops.specs.LineTable.{table_line, has_lines}
use Rattle.dynamics.specs.Turn.{Stage, Outcome, ask}
use Rattle.dynamics.specs.Outcome.{outcome_of, sum_run, all_runs}
use Rattle.turns.specs.declared.Finished.{Finished}
use Rattle.turns.specs.SumRuns.{left_by, results_of, sum_fits, has_rows, sum_asked, SumRan}
use Rattle.turns.specs.AllRuns.{all_task, fits_all, room_all, all_held, all_asked, means_of, AllRan}
use Rattle.runs.specs.ConeRuns.{ConeRan, WideRan}
use Rattle.layout.specs.declared.Head.{Head}
use Rattle.questions.specs.Questions.{places_fit}
use Rattle.sheet.specs.Answer.{limits_of, means_after}
use Rattle.sheet.specs.Running.{table_task, table_run, Runnable, Ended}

-- what a run promises of its circuit and limits, it promises of the sheet's
pub as_sheet : (h : Head) (P : ℕ → Limits → List Op → Type 0) {q : ℕ} {l : Limits} {o os : List Op} → q ≡ h.qubits → l ≡ limits_of h → o ≡ os → P q l o → P h.qubits (limits_of h) os
as_sheet h P {q} {l} {o} {os} eq el eo p =
    subst (λ (x : ℕ). P x (limits_of h) os) eq (subst (λ (x : Limits). P q x os) el (subst (λ (x : List Op). P q l x) eo p))

-- ---- a run that is held is the run that was asked for
module _ (h : Head) (keys : List ℕ) (weights : List Float) (os : List Op) (ws : List ℕ) (cs m : List Float) (ix : List ℕ) (ok : Runnable h keys weights os ws cs m) where
  abbrev w : ℕ
  w = width_of h.qubits

  abbrev R : ℕ
  R = rows_in w ws cs

  abbrev t : Task
  t = table_task h keys weights os

  rows_fit : leb (2 * h.limit) R ≡ true
  rows_fit = (and_true (leb (2 * h.limit) R) _ ok.room).0

  module _ (ms : List Bool) {r : Result Finished Refusal} {ws' : List ℕ} {cs' : List Float} {ix' : List ℕ} (ran : SumRan h.qubits (limits_of h) keys weights os ms r ws ws' cs cs' ix ix') where
    is_held : sum_fits h.qubits (limits_of h) keys weights os && has_rows (limits_of h) R ≡ true
    is_held = ap₂ ◌&&◌ ok.given rows_fit

    is_run : sum_asked h.qubits (limits_of h) keys weights os ms R ≡ sum_run t ms
    is_run = ap (λ (b : Bool). ask 2 b (ask 7 (leb (2 * h.limit) R) (sum_run t ms))) ok.given ∙ ap (λ (b : Bool). ask 7 b (sum_run t ms)) rows_fit

    sum_ended : table_run h keys weights os ≡ sum_run t ms → means_after h.run h.qubits (table_run h keys weights os) m ≡ m → Ended h (table_run h keys weights os) r ws ws' cs cs' m m ix ix'
    sum_ended e f =
        let g = is_run ∙ sym e in
        record {
          answer = ran.answer ∙ ap results_of g;
          memory = record {
            words = ran.words ∙ ap₂ (λ (b : Bool) (s : Stage Outcome). cond b (words_with w R (left_by s) ws) ws) is_held g;
            coeffs = ran.coeffs ∙ ap₂ (λ (b : Bool) (s : Stage Outcome). cond b (coeffs_with R (left_by s) cs) cs) is_held g;
            means = sym f;
            index = ran.index ∙ ap (λ (b : Bool). cond b (replicate (length ix) 0) ix) is_held;
          };
        }

    -- full, path and cone differ in their marks
    pub marked_ended : (x : Run) → h.run ≡ x → outcome_of x t ≡ sum_run t ms → means_after x h.qubits (table_run h keys weights os) m ≡ m → Ended h (table_run h keys weights os) r ws ws' cs cs' m m ix ix'
    marked_ended x e k f = sum_ended (ap (λ (y : Run). outcome_of y t) e ∙ k) (ap (λ (y : Run). means_after y h.qubits (table_run h keys weights os) m) e ∙ f)

  pub cone_ended : {r : Result Finished Refusal} {ws' : List ℕ} {cs' : List Float} {ix' : List ℕ} → ConeRan h.qubits (limits_of h) keys weights os r ws ws' cs cs' ix ix'
      → h.run ≡ Cone → Ended h (table_run h keys weights os) r ws ws' cs cs' m m ix ix'
  cone_ended {r} {ws'} {cs'} {ix'} ran e = marked_ended _ (ran.cone (sym (ap (λ (x : Run). passes x t) e) ∙ ok.pass)) Cone e refl refl

  pub wide_ended : {r : Result Finished Refusal} {ws' : List ℕ} {cs' : List Float} {ix' : List ℕ} → WideRan h.qubits (limits_of h) keys weights os r ws ws' cs cs' ix ix'
      → h.run ≡ Wide → Ended h (table_run h keys weights os) r ws ws' cs cs' m m ix ix'
  wide_ended {r} {ws'} {cs'} {ix'} ran e =
      let there = (and_true (counts_fit h.qubits h.limit (length weights) (length os)) (has_lines w keys weights) ok.given).1 in
      marked_ended _ (ran.wide (sym (ap (λ (x : Run). passes x t) e) ∙ ok.pass) (leb-true _ _ there)) Wide e refl refl

  -- ---- `all`, which has no terms
  module _ (e : h.run ≡ All) where
    all_passes : passes All t ≡ true
    all_passes = sym (ap (λ (x : Run). passes x t) e) ∙ ok.pass

    no_lines : length weights ≡ 0
    unfolding run_fits
    no_lines =
        let p = (and_true (sizes_fit t && run_fits All t) _ all_passes).0 in
        let q = (and_true (sizes_fit t) (run_fits All t) p).1 in
        sym (length_tab (length weights) (table_line w keys weights)) ∙ eqb-true _ 0 (and_true (eqb (length t.lines) 0) (channel_free t) q).0

    all_task_lem : all_task h.qubits (limits_of h) os ≡ t
    unfolding tab
    all_task_lem = ap (λ (k : ℕ). record { qubits = h.qubits; limits = limits_of h; lines = tab k (table_line w keys weights); ops = os }) (sym no_lines)

    few : fits_all h.qubits (limits_of h) os ≡ true
    few =
        let p = and_true (counts_fit h.qubits h.limit (length weights) (length os)) (has_lines w keys weights) ok.given in
        subst (λ (k : ℕ). counts_fit h.qubits h.limit k (length os) ≡ true) no_lines p.0

    room : room_all h.qubits (limits_of h) R (length m) ≡ true
    room = sym (ap (λ (x : Run). leb (2 * h.limit) R && places_fit x h.qubits (length m)) e) ∙ ok.room

    all_run : all_asked h.qubits (limits_of h) os R (length m) ≡ table_run h keys weights os
    all_run =
        ap (λ (b : Bool). ask 2 b (ask 7 (room_all h.qubits (limits_of h) R (length m)) (all_runs (all_task h.qubits (limits_of h) os) h.qubits))) few
        ∙ ap (λ (b : Bool). ask 7 b (all_runs (all_task h.qubits (limits_of h) os) h.qubits)) room
        ∙ ap (λ (x : Task). all_runs x h.qubits) all_task_lem ∙ sym (ap (λ (x : Run). outcome_of x t) e)

    pub all_ended : {r : Result Finished Refusal} {ws' : List ℕ} {cs' m' : List Float} {ix' : List ℕ}
        → AllRan h.qubits (all_held h.qubits (limits_of h) os R (length m)) (all_asked h.qubits (limits_of h) os R (length m)) r ws ws' cs cs' m m' ix ix'
        → left_by (table_run h keys weights os) ≡ [] → Ended h (table_run h keys weights os) r ws ws' cs cs' m m' ix ix'
    all_ended {r} {ws'} {cs'} {m'} {ix'} ran none =
        let held : all_held h.qubits (limits_of h) os R (length m) ≡ true = ap₂ ◌&&◌ few room in
        record {
          answer = ran.answer ∙ ap results_of all_run;
          memory = record {
            words = ran.words ∙ ap (λ (b : Bool). cond b (words_with w R [] ws) ws) held ∙ sym (ap (λ (l : List Term). words_with w R l ws) none);
            coeffs = ran.coeffs ∙ ap (λ (b : Bool). cond b (coeffs_with R [] cs) cs) held ∙ sym (ap (λ (l : List Term). coeffs_with R l cs) none);
            means = ran.means ∙ ap₂ (λ (b : Bool) (s : Stage Outcome). cond b (means_of h.qubits s ++ drop h.qubits m) m) held all_run
                ∙ sym (ap (λ (x : Run). means_after x h.qubits (table_run h keys weights os) m) e);
            index = ran.index ∙ ap (λ (b : Bool). cond b (replicate (length ix) 0) ix) held;
          };
        }
