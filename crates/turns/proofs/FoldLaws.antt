-- What the proofs of the fold use of its definition. Assumes nothing.
use mathlib.Core.Path.{◌≡◌, refl, sym, ap, ◌∙◌, subst, subst⁻¹}
use mathlib.Core.Bool.{Bool}
use mathlib.Core.List.{List, [], ◌∷◌, ◌++◌}
use Prim.Native.Nat.{ℕ, zero, suc, ◌+◌, ◌*◌, ◌/◌, ◌^◌, ◌≤◌, ◌<◌}
use native.Mathlib.Numerals.{add-one}
use native.Mathlib.Omega.{arith}
use lib.ListN.{length, get_or, take, length-take}
use lib.Seq.{take_all}
use lib.Ieee.{Float, nan}
use Rattle.std.specs.Prelude.{Result, Ok, Err}
use Rattle.numbers.specs.Constants.{one64}
use Rattle.words.specs.Keys.{width_of}
use Rattle.words.specs.Rows.{key_at}
use Rattle.terms.specs.Start.{term_of}
use Rattle.terms.proofs.ListLaws.{length_tab, get_d_tab}
use Rattle.rows.specs.Rows.{rows_in, Holds}
use Rattle.rows.proofs.HoldLaws.{hold_trans}
use Rattle.rows.proofs.StepLaws.{held_rows}
use Rattle.ops.specs.declared.Limits.{Limits}
use Rattle.ops.specs.declared.Op.{Op}
use Rattle.ops.specs.declared.Refusal.{Refusal}
use Rattle.ops.specs.Refusals.{number_of}
use Rattle.ops.specs.Task.{Line, Task}
use Rattle.ops.specs.LineTable.{table_line, task_of}
use Rattle.dynamics.specs.Turn.{Stage, refused, going, bind, State, Outcome}
use Rattle.dynamics.specs.Runs.{marked_run, begin}
use Rattle.dynamics.specs.Outcome.{nothing_yet, alone, add_line, add_next, fold_lines}
use Rattle.dynamics.proofs.StageLaws.{bind_same, bind_bind, bind_going}
use Rattle.turns.specs.declared.Progress.{Progress}
use Rattle.turns.specs.declared.Finished.{Finished}
use Rattle.turns.specs.declared.fold.Totals.{Totals}
use Rattle.turns.specs.SumRuns.{told_by, results_of}
use Rattle.turns.specs.Told.{state_in, Tells, Ends}
use Rattle.turns.specs.Folding.{held, added, SumReady, Folds}
use Rattle.turns.proofs.TurnLaws.{emptied, untouched}
use Rattle.turns.proofs.RunLaws.{ends_refused, ends_going}
use Rattle.turns.proofs.SumCounts.{ending_met, one_met, fold_met}

-- ---- the first lines

take_next : {A : Type 0} (l : List A) (i : ℕ) (d : A) → i < length l → take (suc i) l ≡ take i l ++ (get_or l i d ∷ [])
take_next [] i d h = absurd (omega arith)
take_next (x ∷ l) zero d h = refl
take_next (x ∷ l) (suc i) d h = ap (λ (r : List _). x ∷ r) (take_next l i d (omega arith))

module _ (t : Task) (ms : List Bool) where
  fold_snoc : (ls : List Line) (l : Line) (a : Outcome) → fold_lines t ms (ls ++ (l ∷ [])) a ≡ bind (fold_lines t ms ls a) (add_next t ms l)
  unfolding fold_lines
  fold_snoc [] l a = bind_going (add_next t ms l a)
  fold_snoc (x ∷ ls) l a =
      bind_same (add_next t ms x a) (fold_lines t ms (ls ++ (l ∷ []))) (λ b. bind (fold_lines t ms ls b) (add_next t ms l)) (λ b. fold_snoc ls l b)
      ∙ sym (bind_bind (add_next t ms x a) (fold_lines t ms ls) (add_next t ms l))

  -- a refusal of the first lines is one of all
  fold_refused : (ls : List Line) (i n : ℕ) (a : Outcome) → fold_lines t ms (take i ls) a ≡ refused n → fold_lines t ms ls a ≡ refused n
  unfolding fold_lines
  fold_refused [] zero n a e = e
  fold_refused [] (suc i) n a e = e
  fold_refused (l ∷ ls) zero n a e = absurd (none e)
    where
      none : going a ≡ refused n → ⊥
      none e = cc
  fold_refused (l ∷ ls) (suc i) n a e = go (λ b. fold_refused ls i n b) (add_next t ms l a) e
    where
      go : ((b : Outcome) → fold_lines t ms (take i ls) b ≡ refused n → fold_lines t ms ls b ≡ refused n) → (s : Stage Outcome) → bind s (fold_lines t ms (take i ls)) ≡ refused n
          → bind s (fold_lines t ms ls) ≡ refused n
      go f (refused m) e = e
      go f (going b) e = f b e

-- ---- the loop, when the first i lines are folded

module _ (qubits : ℕ) (l : Limits) (keys : List ℕ) (weights : List Float) (ops : List Op) (ms : List Bool) (ws₀ : List ℕ) (cs₀ : List Float) where
  abbrev task : Task
  task = task_of qubits l keys weights ops

  abbrev W : ℕ
  W = width_of qubits

  abbrev line : ℕ → Line
  line i = table_line W keys weights i

  abbrev pub Folded : ℕ → Result Totals Refusal → List ℕ → List Float → Type 0
  Folded i r ws cs = Folds W l r ws₀ ws cs₀ cs (fold_lines task ms (take i task.lines) nothing_yet)

  lines_long : length task.lines ≡ length weights
  lines_long = length_tab (length weights) line

  pub folded_none : {a : Totals} → held a ≡ nothing_yet → Folded 0 (Ok a) ws₀ cs₀
  unfolding fold_lines
  folded_none e = record { totals = ap going e; rows = untouched (2 * W) (2 * l.limit) ws₀ cs₀ }

  pub folded_all : {i : ℕ} {r : Result Totals Refusal} {ws : List ℕ} {cs : List Float} → length weights ≤ i → Folded i r ws cs → Folds W l r ws₀ ws cs₀ cs (fold_lines task ms task.lines nothing_yet)
  folded_all {i} {r} {ws} {cs} h F =
      subst (λ (ls : List Line). Folds W l r ws₀ ws cs₀ cs (fold_lines task ms ls nothing_yet)) (take_all i task.lines (omega (arith, lines_long))) F

  pub folded_refused : (i : ℕ) {e : Refusal} {ws : List ℕ} {cs : List Float} → Folded i (Err e) ws cs → Folds W l (Err e) ws₀ ws cs₀ cs (fold_lines task ms task.lines nothing_yet)
  folded_refused i {e} F = record { totals = sym (fold_refused task ms task.lines i (number_of e) nothing_yet (sym F.totals)); rows = F.rows }

  module _ (ready : SumReady qubits l keys weights ops ws₀ cs₀) {i : ℕ} {a : Totals} {ws : List ℕ} {cs : List Float} (inside : i < length weights) (F : Folded i (Ok a) ws cs) {w : ℕ} (wide : w ≡ W) where
    pub line_there : i < length keys / (2 * w)
    line_there = let t = ready.there in subst⁻¹ (λ (v : ℕ). i < length keys / (2 * v)) wide (omega arith)

    pub line_room : 2 * l.limit ≤ rows_in w ws cs
    line_room = subst⁻¹ (λ (v : ℕ). 2 * l.limit ≤ rows_in v ws cs) wide (subst⁻¹ (λ (x : ℕ). 2 * l.limit ≤ x) (held_rows W F.rows) ready.room)

    module _ {start : Progress} {end : Result Finished Refusal} {ws' ws'' : List ℕ} {cs' cs'' : List Float}
        (S : Tells w l (Ok start) ws ws' cs cs' (going (begin (term_of w (key_at (2 * w) keys i) one64 ∷ []))))
        (E : Ends w l end ws' ws'' cs' cs'' (marked_run w l ms ops (state_in w start ws' cs'))) where
      -- the run of this line
      run : Stage Outcome
      run = marked_run w l ms ops (state_in w start ws' cs')

      run_is : marked_run w l ms ops (state_in w start ws' cs') ≡ alone task ms (line i)
      run_is =
          ap (λ (s : Stage State). bind s (marked_run w l ms ops)) S.told
          ∙ (λ z. marked_run (wide z) l ms ops (begin (term_of (wide z) (key_at (2 * wide z) keys i) one64 ∷ [])))

      line_answer : told_by end ≡ results_of (alone task ms (line i))
      line_answer = E.answer ∙ ap results_of run_is

      next_rows : Holds (2 * W) (2 * l.limit) 0 [] ws₀ ws'' cs₀ cs''
      next_rows = subst (λ (v : ℕ). Holds (2 * v) (2 * l.limit) 0 [] ws ws'' cs cs'' → Holds (2 * W) (2 * l.limit) 0 [] ws₀ ws'' cs₀ cs'') (sym wide) (hold_trans F.rows) (hold_trans S.rows (emptied E.rows))

      next_is : fold_lines task ms (take (i + 1) task.lines) nothing_yet ≡ bind (alone task ms (line i)) (λ o. going (add_line (held a) (get_or weights i nan) o))
      next_is =
          let d : Line = line 0 in
          ap (λ (n : ℕ). fold_lines task ms (take n task.lines) nothing_yet) (add-one i)
          ∙ ap (λ (ls : List Line). fold_lines task ms ls nothing_yet) (take_next task.lines i d (omega (arith, lines_long)))
          ∙ fold_snoc task ms (take i task.lines) (get_or task.lines i d) nothing_yet
          ∙ ap (λ (x : Line). bind (fold_lines task ms (take i task.lines) nothing_yet) (add_next task ms x)) (get_d_tab (length weights) line i d inside)
          ∙ ap (λ (s : Stage Outcome). bind s (add_next task ms (line i))) (sym F.totals)

    -- what this line's ops meet, after the lines before it, fits 64 bits
    pub line_slack : {f : Finished} {start : Progress} {ws' ws'' : List ℕ} {cs' cs'' : List Float}
        → Tells w l (Ok start) ws ws' cs cs' (going (begin (term_of w (key_at (2 * w) keys i) one64 ∷ []))) → Ends w l (Ok f) ws' ws'' cs' cs'' (marked_run w l ms ops (state_in w start ws' cs'))
        → a.tally.touched + f.tally.touched < 2 ^ 64
    line_slack {f} S E =
        let one = ending_met 4294967296 (alone task ms (line i)) (line_answer S E) (one_met W l ms ops ready.short ready.low (begin (term_of W (line i).key one64 ∷ [])) ready.some refl) in
        let before = fold_met task ms ready.short ready.low ready.some (take i task.lines) a F.totals in
        let n = length-take i task.lines in
        let k₁ = ready.few in
        let k₂ = ready.low in
        omega (arith, one, before, n, k₁, k₂, lines_long)

    pub line_added : {f : Finished} {start : Progress} {ws' ws'' : List ℕ} {cs' cs'' : List Float} {r : Totals}
        → Tells w l (Ok start) ws ws' cs cs' (going (begin (term_of w (key_at (2 * w) keys i) one64 ∷ []))) → Ends w l (Ok f) ws' ws'' cs' cs'' (marked_run w l ms ops (state_in w start ws' cs'))
        → r ≡ added a (get_or weights i nan) f → Folded (i + 1) (Ok r) ws'' cs''
    line_added {f} {r = r} S E er =
        let v = ends_going f (alone task ms (line i)) (line_answer S E) in
        let o : Outcome = v.0 in
        record {
          totals = ap (λ (x : Totals). going (held x)) er
              ∙ (λ z. going (add_line (held a) (get_or weights i nan) (record { terms = o.terms; mean = v.2.mean z; means = o.means; peak = v.2.peak z; discarded = v.2.discarded z; touched = v.2.touched z })))
              ∙ ap (λ (s : Stage Outcome). bind s (λ o. going (add_line (held a) (get_or weights i nan) o))) (sym v.1)
              ∙ sym (next_is S E);
          rows = next_rows S E;
        }

    pub line_refused : {e : Refusal} {start : Progress} {ws' ws'' : List ℕ} {cs' cs'' : List Float}
        → Tells w l (Ok start) ws ws' cs cs' (going (begin (term_of w (key_at (2 * w) keys i) one64 ∷ []))) → Ends w l (Err e) ws' ws'' cs' cs'' (marked_run w l ms ops (state_in w start ws' cs'))
        → Folded (i + 1) (Err e) ws'' cs''
    line_refused {e} S E = record {
      totals = ap (λ (s : Stage Outcome). bind s (λ o. going (add_line (held a) (get_or weights i nan) o))) (ends_refused e (alone task ms (line i)) (line_answer S E)) ∙ sym (next_is S E);
      rows = next_rows S E;
    }
