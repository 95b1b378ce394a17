-- What the proof of the run of a sum uses: the lines of the table, and when the sum stands or is folded. Assumes nothing.
use mathlib.Core.Path.{◌≡◌, refl, sym, ap, ◌∙◌, subst, subst⁻¹}
use mathlib.Core.Bool.{Bool, true, false, cond, ◌&&◌, false≢true}
use mathlib.Core.List.{List, [], ◌∷◌}
use Prim.Native.Nat.{ℕ, zero, suc, ◌*◌, ◌/◌, ◌≤◌, ◌<◌}
use native.Mathlib.Omega.{arith}
use lib.Dec.{ltb, eqb}
use lib.ListN.{length, replicate, length-map, length-replicate}
use lib.Ieee.{Float}
use borrow.Author.Tests.{leb-true}
use Rattle.std.specs.Prelude.{Result, Ok, Err}
use Rattle.numbers.specs.Constants.{one64}
use Rattle.words.specs.Keys.{width_of}
use Rattle.terms.specs.Lists.{tab}
use Rattle.terms.specs.Term.{Term}
use Rattle.terms.specs.Start.{term_of, merged}
use Rattle.terms.proofs.CaseLaws.{and_true}
use Rattle.terms.proofs.ListLaws.{length_tab}
use Rattle.rows.specs.Rows.{rows_in, Holds}
use Rattle.rows.specs.Cleared.{Cleared}
use Rattle.ops.specs.declared.Refusal.TheVariants.{Counts, Room}
use Rattle.rows.proofs.HoldLaws.{hold_trans}
use Rattle.rows.proofs.StepLaws.{held_rows}
use Rattle.branches.specs.Started.{lines_of}
use Rattle.ops.specs.declared.Limits.{Limits}
use Rattle.ops.specs.declared.Op.{Op}
use Rattle.ops.specs.declared.Refusal.{Refusal}
use Rattle.ops.specs.Refusals.{number_of}
use Rattle.ops.specs.Sets.{overlay}
use Rattle.ops.specs.Marks.{mark_all}
use Rattle.ops.specs.Task.{Line, Task, width, counts_fit}
use Rattle.ops.specs.LineTable.{table_line, task_of, has_lines}
use Rattle.ops.proofs.SizeLaws.{counts_say}
use Rattle.dynamics.specs.Turn.{Stage, refused, going, bind, ask, State, Outcome}
use Rattle.dynamics.specs.Runs.{marked_run, begin}
use Rattle.dynamics.specs.Outcome.{nothing_yet, terms_of, start_of, add_line, add_next, fold_lines, ask_totals, folded, or_fold, sum_run}
use Rattle.dynamics.proofs.StageLaws.{bind_same}
use Rattle.turns.specs.declared.Progress.{Progress}
use Rattle.turns.specs.declared.Finished.{Finished}
use Rattle.turns.specs.SumRuns.{told_by, results_of, sum_fits, has_rows, Ran, SumRan}
use Rattle.turns.specs.Told.{state_in, Tells, Ends}
use Rattle.turns.specs.Folding.{meets_nine, SumReady}
use Rattle.turns.proofs.MarkRuns.{marked_overlay}
use Rattle.turns.proofs.TurnLaws.{emptied}
use Rattle.turns.proofs.RunLaws.{ends_refused, ends_going, count_of, rows_for, ran_2, ran_7, ran_on}

-- ---- the lines of the table

lines_terms : (w k : ℕ) (f : ℕ → Line) → terms_of w (tab k f) ≡ tab k (λ l. term_of w (f l).key (f l).weight)
unfolding terms_of tab
lines_terms w zero f = refl
lines_terms w (suc k) f = ap (λ (ts : List Term). term_of w (f zero).key (f zero).weight ∷ ts) (lines_terms w k (λ l. f (suc l)))

-- ---- whether the sum is folded

module _ (k : ℕ) (t : Task) (ms : List Bool) (long : length t.lines ≡ k) where
  -- a refusal, folded or not
  refusal : (n : ℕ) (b : Bool) → (eqb n 9 && ltb 1 k) ≡ b → or_fold t ms (refused n) ≡ cond b (folded t ms) (refused n)
  refusal n b e = ap (λ (b : Bool). cond b (folded t ms) (refused n)) (ap (λ (m : ℕ). eqb n 9 && ltb 1 m) long ∙ e)

  stands : (end : Result Finished Refusal) (s : Stage Outcome) → told_by end ≡ results_of s → meets_nine k end ≡ false → or_fold t ms s ≡ s
  stands (Err e) s a f = let r = ends_refused e s a in
      ap (or_fold t ms) (sym r) ∙ refusal (number_of e) false f ∙ r
  stands (Ok v) s a f = let g = ends_going v s a in
      ap (or_fold t ms) g.1 ∙ sym g.1

  folds : (end : Result Finished Refusal) (s : Stage Outcome) → told_by end ≡ results_of s → meets_nine k end ≡ true → or_fold t ms s ≡ folded t ms
  folds (Err e) s a f = ap (or_fold t ms) (sym (ends_refused e s a)) ∙ refusal (number_of e) true f
  folds (Ok v) s a f = absurd (false≢true f)

-- ---- the run of a sum

module _ (qubits : ℕ) (l : Limits) (keys : List ℕ) (weights : List Float) (ops : List Op) (ms : List Bool) {w : ℕ} (wide : w ≡ width_of qubits) {start : Progress} {end : Result Finished Refusal}
    {ws ws' ws'' : List ℕ} {cs cs' cs'' : List Float} (S : Tells w l (Ok start) ws ws' cs cs' (going (begin (merged (lines_of w keys weights (length weights))))))
    (E : Ends w l end ws' ws'' cs' cs'' (marked_run w l ms ops (state_in w start ws' cs'))) where
  abbrev task : Task
  task = task_of qubits l keys weights ops

  abbrev first : Stage Outcome
  first = marked_run (width_of qubits) l ms ops (begin (start_of (width_of qubits) task.lines))

  task_long : length task.lines ≡ length weights
  task_long = length_tab (length weights) (table_line (width_of qubits) keys weights)

  first_is : marked_run w l ms ops (state_in w start ws' cs') ≡ first
  first_is =
      ap (λ (s : Stage State). bind s (marked_run w l ms ops)) S.told
      ∙ (λ z. marked_run (wide z) l ms ops (begin (merged (lines_of (wide z) keys weights (length weights)))))
      ∙ ap (λ (ts : List Term). marked_run (width_of qubits) l ms ops (begin (merged ts))) (sym (lines_terms (width_of qubits) (length weights) (table_line (width_of qubits) keys weights)))

  answer : told_by end ≡ results_of first
  answer = E.answer ∙ ap results_of first_is

  pub sum_stands : {b : Bool} → b ≡ meets_nine (length weights) end → b ≡ false → Ends (width_of qubits) l end ws ws'' cs cs'' (sum_run task ms)
  sum_stands {b} p f =
      subst (λ (v : ℕ). Ends v l end ws ws'' cs cs'' (sum_run task ms)) wide
      (subst (Ends w l end ws ws'' cs cs'') (first_is ∙ sym (stands (length weights) task ms task_long end first answer (sym p ∙ f)))
      (record { answer = E.answer; rows = hold_trans S.rows E.rows; few = E.few }))

  -- what the fold takes
  pub fold_ready : SumReady qubits l keys weights ops ws cs → SumReady qubits l keys weights ops ws'' cs''
  fold_ready R = record {
    few = R.few;
    there = R.there;
    room = subst (λ (v : ℕ). 2 * l.limit ≤ rows_in v ws'' cs'') wide
        (subst⁻¹ (λ (x : ℕ). 2 * l.limit ≤ x) (held_rows w (hold_trans S.rows E.rows)) (subst⁻¹ (λ (v : ℕ). 2 * l.limit ≤ rows_in v ws cs) wide R.room));
    some = R.some;
    low = R.low;
    short = R.short;
  }

  pub sum_folded : {b : Bool} {r : Result Finished Refusal} {ws₃ : List ℕ} {cs₃ : List Float} → b ≡ meets_nine (length weights) end → b ≡ true
      → Ends (width_of qubits) l r ws'' ws₃ cs'' cs₃ (folded task ms) → Ends (width_of qubits) l r ws ws₃ cs cs₃ (sum_run task ms)
  sum_folded {b} {r} {ws₃} {cs₃} p f F =
      subst (Ends (width_of qubits) l r ws ws₃ cs cs₃) (sym (folds (length weights) task ms task_long end first answer (sym p ∙ f)))
      (record {
        answer = F.answer;
        rows = hold_trans (subst (λ (v : ℕ). Holds (2 * v) (2 * l.limit) 0 [] ws ws'' cs cs'') wide (hold_trans S.rows (emptied E.rows))) F.rows;
        few = F.few;
      })

-- ---- what is asked before it

module _ (qubits : ℕ) (l : Limits) (keys : List ℕ) (weights : List Float) (ops : List Op) where
  -- what the steps of a run take, of a sum that questions 2 and 7 pass
  pub sum_ready : {b : Bool} {ws : List ℕ} {cs : List Float} → b ≡ sum_fits qubits l keys weights ops → b ≡ true → 2 * l.limit ≤ rows_in (width_of qubits) ws cs → SumReady qubits l keys weights ops ws cs
  sum_ready {b} e h room =
      let p = and_true (counts_fit qubits l.limit (length weights) (length ops)) (has_lines (width_of qubits) keys weights) (sym e ∙ h) in
      let c = counts_say qubits l.limit (length weights) (length ops) p.0 in
      record {
        few = c.few;
        there = leb-true (length weights) (length keys / (2 * width_of qubits)) p.1;
        room = room;
        some = c.some_limit;
        low = c.limit;
        short = c.ops;
      }

  -- what is refused before a run begins, and what a run leaves
  module _ (ms : List Bool) (ws : List ℕ) (cs : List Float) (ix : List ℕ) {w r : ℕ} {b : Bool} (ew : w ≡ width_of qubits) (eb : b ≡ sum_fits qubits l keys weights ops) (er : r ≡ rows_in w ws cs) where
    rows_are : r ≡ rows_in (width_of qubits) ws cs
    rows_are = er ∙ ap (λ (v : ℕ). rows_in v ws cs) ew

    pub sum_room : l.limit ≤ r / 2 → 2 * l.limit ≤ rows_in (width_of qubits) ws cs
    sum_room h = rows_for (width_of qubits) l.limit ws cs rows_are h

    pub sum_7 : b ≡ true → r / 2 < l.limit → SumRan qubits l keys weights ops ms (Err Room) ws ws cs cs ix ix
    sum_7 h k = ran_7 (width_of qubits) (sum_fits qubits l keys weights ops) l (sum_run (task_of qubits l keys weights ops) ms) ws cs ix (sym eb ∙ h) rows_are k

    pub sum_left : {end : Result Finished Refusal} {left : ℕ} {ws' ws'' : List ℕ} {cs' cs'' : List Float} {ix' : List ℕ} → b ≡ true → l.limit ≤ r / 2
        → Ends (width_of qubits) l end ws ws' cs cs' (sum_run (task_of qubits l keys weights ops) ms) → left ≡ count_of end → Cleared w left r ws' ws'' cs' cs'' → ix' ≡ replicate (length ix) 0
        → SumRan qubits l keys weights ops ms end ws ws'' cs cs'' ix ix'
    sum_left {end} {left} {ws'} {ws''} {cs'} {cs''} {ix'} h k E n C z =
        ran_on (width_of qubits) (sum_fits qubits l keys weights ops) l (sum_run (task_of qubits l keys weights ops) ms) ws cs ix (sym eb ∙ h) rows_are k E n
        (subst (λ (v : ℕ). Cleared v left r ws' ws'' cs' cs'') ew C) z

  pub sum_2 : (ms : List Bool) (ws : List ℕ) (cs : List Float) (ix : List ℕ) {b : Bool} → b ≡ sum_fits qubits l keys weights ops → b ≡ false → SumRan qubits l keys weights ops ms (Err Counts) ws ws cs cs ix ix
  sum_2 ms ws cs ix eb h = ran_2 (width_of qubits) (sum_fits qubits l keys weights ops) l (sum_run (task_of qubits l keys weights ops) ms) ws cs ix (sym eb ∙ h)

-- ---- marks that give the same runs

module _ (t : Task) (ms ns : List Bool) (same : (s : State) → marked_run (width t) t.limits ms t.ops s ≡ marked_run (width t) t.limits ns t.ops s) where
  next_same : (l : Line) (a : Outcome) → add_next t ms l a ≡ add_next t ns l a
  next_same l a = ap (λ (s : Stage Outcome). bind s (λ o. going (add_line a l.weight o))) (same (begin (term_of (width t) l.key one64 ∷ [])))

  lines_same : (ls : List Line) (a : Outcome) → fold_lines t ms ls a ≡ fold_lines t ns ls a
  unfolding fold_lines
  lines_same [] a = refl
  lines_same (l ∷ ls) a =
      bind_same (add_next t ms l a) (fold_lines t ms ls) (fold_lines t ns ls) (λ b. lines_same ls b) ∙ ap (λ (s : Stage Outcome). bind s (fold_lines t ns ls)) (next_same l a)

  fold_same : (s : Stage Outcome) → or_fold t ms s ≡ or_fold t ns s
  fold_same (going o) = refl
  fold_same (refused n) = ap (λ (x : Stage Outcome). cond (eqb n 9 && ltb 1 (length t.lines)) (bind x ask_totals) (refused n)) (lines_same t.lines nothing_yet)

  sum_same : sum_run t ms ≡ sum_run t ns
  sum_same = fold_same (marked_run (width t) t.limits ms t.ops (begin (start_of (width t) t.lines))) ∙ ap (or_fold t ns) (same (begin (start_of (width t) t.lines)))

-- marks laid over others that are no fewer than the ops: as many as a run has room for, where question 2 passes
pub sum_marked : (qubits : ℕ) (l : Limits) (keys : List ℕ) (weights : List Float) (ops : List Op) (ms over : List Bool) {made : List Bool} {r : Result Finished Refusal} {ws ws' : List ℕ} {cs cs' : List Float} {ix ix' : List ℕ}
    → length ms ≡ length ops → 4096 ≤ length over → made ≡ overlay ms over
    → SumRan qubits l keys weights ops made r ws ws' cs cs' ix ix' → SumRan qubits l keys weights ops ms r ws ws' cs cs' ix ix'
sum_marked qubits l keys weights ops ms over {made} {r} {ws} {ws'} {cs} {cs'} {ix} {ix'} e h m R =
    subst (λ (s : Stage Outcome). Ran w (sum_fits qubits l keys weights ops && g) s r ws ws' cs cs' ix ix') (asked (sum_fits qubits l keys weights ops) refl) R
  where
    w : ℕ
    w = width_of qubits

    g : Bool
    g = has_rows l (rows_in w ws cs)

    asked : (f : Bool) → sum_fits qubits l keys weights ops ≡ f → ask 2 f (ask 7 g (sum_run (task_of qubits l keys weights ops) made)) ≡ ask 2 f (ask 7 g (sum_run (task_of qubits l keys weights ops) ms))
    asked false q = refl
    asked true q =
        let p = and_true (counts_fit qubits l.limit (length weights) (length ops)) (has_lines (width_of qubits) keys weights) q in
        let c = counts_say qubits l.limit (length weights) (length ops) p.0 in
        let few = c.ops in
        ap (ask 7 g) (ap (sum_run (task_of qubits l keys weights ops)) m ∙ sum_same (task_of qubits l keys weights ops) (overlay ms over) ms (λ s. marked_overlay w l ms over ops s e (omega arith)))

pub all_long : (ops : List Op) → length (mark_all ops) ≡ length ops
all_long ops = length-map ops (λ op. true)

pub few_ops : 4096 ≤ length (replicate 4096 false)
few_ops = omega (arith, length-replicate 4096 false)
