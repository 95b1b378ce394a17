-- The answer to a sheet, from its verdict, its table and its run. Assumes nothing.
use mathlib.Core.Path.{◌≡◌, refl, sym, ap, ap₂, ◌∙◌, subst}
use Prim.Native.Nat.{ℕ, zero, suc, ◌*◌, ◌/◌, ◌≤◌}
use native.Mathlib.Omega.{arith}
use mathlib.Core.Bool.{true, ◌&&◌}
use mathlib.Core.List.{List, map}
use lib.Dec.{leb}
use lib.ListN.{length, take, replicate, length-take}
use lib.Seq.{get_or-take}
use lib.Ieee.{Float, nan}
use borrow.Author.Tests.{le-leb, leb-true}
use Rattle.std.specs.Prelude.{None, Result}
use Rattle.words.specs.Keys.{width_of}
use Rattle.words.specs.Rows.{key_at}
use Rattle.terms.specs.Lists.{tab}
use Rattle.terms.proofs.CaseLaws.{and_true}
use Rattle.terms.proofs.ListLaws.{tab_ext}
use Rattle.rows.specs.Rows.{rows_in}
use Rattle.text.specs.Bytes.{parts, newline}
use Rattle.ops.specs.declared.Op.{Op}
use Rattle.ops.specs.declared.Refusal.{Refusal}
use Rattle.ops.specs.Task.{Line, passes, counts_fit}
use Rattle.ops.specs.LineTable.{table_line}
use Rattle.dynamics.specs.Turn.{Stage, Outcome}
use Rattle.dynamics.specs.Outcome.{outcome_of, t_count_of}
use Rattle.turns.specs.declared.Finished.{Finished}
use Rattle.turns.specs.SumRuns.{results_of}
use Rattle.lines.specs.TermLines.{word_line}
use Rattle.layout.specs.declared.Head.{Head}
use Rattle.layout.specs.Layout.{head_of, question1, term_lines, sheet_ops}
use Rattle.layout.specs.Loaded.{with_ops, LinesLoaded}
use Rattle.layout.proofs.LaidLaws.{op_list_length}
use Rattle.layout.proofs.LoadLaws.{rows_hold, ops_loaded, lines_loaded, lines_keys_long, lines_weights_long}
use Rattle.replies.specs.declared.Reply.{Reply}
use Rattle.questions.specs.Verdict.{Verdict, RefusedAt, Passed}
use Rattle.questions.specs.Questions.{question2, verdict, early_verdict, later_verdict}
use Rattle.rows.specs.declared.Rows.{Rows}
use Rattle.questions.proofs.VerdictLaws.{early_laid, early_passed, early_refused}
use Rattle.sheet.specs.Answer.{limits_of, refusal, task_of, run_of, reply_to, reply_of, LeavesBy, Leaves, Answered}
use Rattle.sheet.specs.Running.{LinesRoom, Sound, reply_end, table_task, table_run, Runnable, Ended, Replied}
use Rattle.sheet.proofs.PassLaws.{Yes, answers_of, yes_of, passed_passes}
use Rattle.sheet.proofs.OutcomeLaws.{reply_of_end}

-- what a sheet that passed 1 and 2 has, and the table with its ops
pub laid_sound : (h : Head) (ls : List (List ℕ)) (os : List Op) → h.ops ≤ length os → early_verdict h ls ≡ Passed → Sound h ls (take h.ops (with_ops h ls os))
laid_sound h ls os room e =
    let s = early_laid h ls e in
    let y = yes_of (question2 h) h.terms (term_lines h ls) (sheet_ops h ls) s.1 in
    record {
      laid = s.0;
      qubits = leb-true h.qubits 256 (and_true (leb 1 h.qubits) (leb h.qubits 256) y.qubits).1;
      limit = leb-true h.limit 1048576 (and_true (leb 1 h.limit) (leb h.limit 1048576) y.limit).1;
      terms = leb-true h.terms 1024 (and_true (leb h.terms 1024) (leb h.terms h.limit) y.terms).0;
      ops = leb-true h.ops 4096 y.ops;
      table = ops_loaded h ls os (leb-true h.ops 4096 y.ops) room s.0;
    }

-- ---- room for a sheet of at most 256 qubits
wide_room : (w t n : ℕ) → w ≤ 4 → t ≤ n → t * (2 * w) ≤ 8 * n
wide_room zero t n b c = omega arith
wide_room (suc zero) t n b c = omega arith
wide_room (suc (suc zero)) t n b c = omega arith
wide_room (suc (suc (suc zero))) t n b c = omega arith
wide_room (suc (suc (suc (suc zero)))) t n b c = omega arith
wide_room (suc (suc (suc (suc (suc w))))) t n b c = absurd (omega arith)

module _ (h : Head) (ls : List (List ℕ)) (e : early_verdict h ls ≡ Passed) where
  second : Yes (question2 h) (term_lines h ls) (sheet_ops h ls)
  second = yes_of (question2 h) h.terms (term_lines h ls) (sheet_ops h ls) (early_laid h ls e).1

  pub few_ops : h.ops ≤ 4096
  few_ops = leb-true h.ops 4096 second.ops

  pub few_terms : h.terms ≤ 1024
  few_terms = leb-true h.terms 1024 (and_true (leb h.terms 1024) (leb h.terms h.limit) second.terms).0

  -- a table for n lines that is zeros
  pub lines_room : (n : ℕ) (t : Rows) → t.w ≡ width_of h.qubits → h.terms ≤ n → length t.words.now ≡ 8 * n → t.words.now ≡ replicate (8 * n) 0 → length t.coeffs.now ≡ n
      → LinesRoom h t
  lines_room n t wide few lk blank lw =
      let q = leb-true h.qubits 256 (and_true (leb 1 h.qubits) (leb h.qubits 256) second.qubits).1 in
      let r = wide_room (width_of h.qubits) h.terms n (omega (arith, q)) few in
      record {
        width = wide;
        long = omega (arith, r, lk);
        blank = blank ∙ ap (λ (x : ℕ). replicate x 0) (sym lk);
        long' = omega (arith, few, lw);
      }

-- ---- the run of a sheet that passed, from its table
module _ (h : Head) (ls : List (List ℕ)) (os : List Op) (ws : List ℕ) (cs ms : List Float) (ix : List ℕ) (laid : question1 h ls ≡ None) (table : os ≡ sheet_ops h ls)
    (passed : verdict h ls (rows_in (width_of h.qubits) ws cs) (length ms) ≡ Passed)
    (t : Rows) (room : LinesRoom h t) {keys : List ℕ} {weights : List Float} (given : LinesLoaded t.w h ls t.words.now keys t.coeffs.now weights) where
  loaded : LinesLoaded (width_of h.qubits) h ls t.words.now keys t.coeffs.now weights
  loaded = subst (λ (x : ℕ). LinesLoaded x h ls t.words.now keys t.coeffs.now weights) room.width given

  answers : Yes (question2 h) (term_lines h ls) (sheet_ops h ls)
  answers = yes_of (question2 h) h.terms (term_lines h ls) (sheet_ops h ls) (answers_of h ls _ _ passed).two

  some_words : width_of h.qubits ≡ 0 → ⊥
  some_words z = let q = leb-true 1 h.qubits (and_true (leb 1 h.qubits) (leb h.qubits 256) answers.qubits).0 in omega arith

  -- the weights of the lines
  abbrev front : List Float
  front = take h.terms weights

  pub front_long : length front ≡ h.terms
  front_long = length-take h.terms weights ∙ let e = lines_weights_long _ h ls _ keys _ weights loaded in let l = room.long' in omega arith

  same_lines : tab (length front) (table_line (width_of h.qubits) keys front) ≡ map (word_line (width_of h.qubits)) (term_lines h ls)
  same_lines =
      ap (λ (n : ℕ). tab n (table_line (width_of h.qubits) keys front)) front_long
      ∙ tab_ext h.terms (table_line (width_of h.qubits) keys front) (table_line (width_of h.qubits) keys weights)
      (λ j l k. record { key = key_at (2 * width_of h.qubits) keys j; weight = get_or-take h.terms weights j nan l k })
      ∙ lines_loaded (width_of h.qubits) h ls t.words.now keys t.coeffs.now weights loaded room.long room.long' room.blank laid

  same_task_lem : table_task h keys front os ≡ task_of h ls
  same_task_lem =
      ap₂ (λ (l : List Line) (o : List Op). record { qubits = h.qubits; limits = limits_of h; lines = l; ops = o }) same_lines table

  pub runnable : Runnable h keys front os ws cs ms
  runnable = record {
    pass = ap (passes h.run) same_task_lem ∙ passed_passes h ls _ _ passed;
    given = ap₂ ◌&&◌ counts_are keys_fit;
    room = (answers_of h ls _ _ passed).room;
  }
    where
      ops_long : length os ≡ h.ops
      ops_long = ap length table ∙ op_list_length h ls laid

      counts_are : counts_fit h.qubits h.limit (length front) (length os) ≡ true
      counts_are =
          ap₂ (counts_fit h.qubits h.limit) front_long ops_long
          ∙ ap₂ ◌&&◌ (ap₂ ◌&&◌ answers.qubits answers.limit) (ap₂ ◌&&◌ answers.terms answers.ops)

      keys_fit : leb (length front) (length keys / (2 * width_of h.qubits)) ≡ true
      keys_fit =
          ap (λ (n : ℕ). leb n (length keys / (2 * width_of h.qubits))) front_long
          ∙ rows_hold h.terms (width_of h.qubits) (length keys) _ some_words refl
          ∙ ap (leb (h.terms * (2 * width_of h.qubits))) (lines_keys_long _ h ls _ keys _ weights loaded) ∙ le-leb _ _ room.long

  pub replied : {ws' : List ℕ} {cs' ms' : List Float} {ix' : List ℕ} (end : Result Finished Refusal) (t : ℕ) (r : Reply) → Ended h (table_run h keys front os) end ws ws' cs cs' ms ms' ix ix'
      → t ≡ t_count_of h.run os → r ≡ reply_end h.run h.qubits t end → Replied h ls Passed r ws ws' cs cs' ms ms' ix ix'
  replied {ws'} {cs'} {ms'} {ix'} end t r ended et er =
      let same : table_run h keys front os ≡ run_of h ls = ap (outcome_of h.run) same_task_lem in
      record {
        reply =
            er ∙ ap (λ (n : ℕ). reply_end h.run h.qubits n end) (et ∙ ap (t_count_of h.run) table)
            ∙ reply_of_end h.run (task_of h ls) (sheet_ops h ls) end (ended.answer ∙ ap results_of same);
        memory = subst (λ (x : Stage Outcome). Leaves h x ws ws' cs cs' ms ms' ix ix') same ended.memory;
      }

-- ---- the steps of `answer`
-- the verdict on the rows that there are
module _ (h : Head) (ls : List (List ℕ)) (ws : List ℕ) (cs ms : List Float) (w rows : ℕ) (v : Verdict) (ew : w ≡ width_of h.qubits) (er : rows ≡ rows_in w ws cs) (ev : v ≡ later_verdict h ls rows (length ms)) where
  pub later_is : v ≡ later_verdict h ls (rows_in (width_of h.qubits) ws cs) (length ms)
  later_is = ev ∙ ap (λ (x : ℕ). later_verdict h ls x (length ms)) (er ∙ ap (λ (x : ℕ). rows_in x ws cs) ew)

pub refused_reply : (h : Head) (ls : List (List ℕ)) (ws : List ℕ) (cs ms : List Float) (ix : List ℕ) {n k : ℕ} {v : Verdict} {r : Reply} → RefusedAt n k ≡ v → r ≡ refusal n k
    → Replied h ls v r ws ws cs cs ms ms ix ix
refused_reply h ls ws cs ms ix {n} {k} {v} {r} e g =
    subst (λ (x : Verdict). Replied h ls x r ws ws cs cs ms ms ix ix) e (record { reply = g; memory = record { words = refl; coeffs = refl; means = refl; index = refl } })

pub passed_reply : (h : Head) (ls : List (List ℕ)) {ws ws' : List ℕ} {cs cs' ms ms' : List Float} {ix ix' : List ℕ} {v : Verdict} {r : Reply} → Passed ≡ v
    → Replied h ls Passed r ws ws' cs cs' ms ms' ix ix' → Replied h ls v r ws ws' cs cs' ms ms' ix ix'
passed_reply h ls {ws} {ws'} {cs} {cs'} {ms} {ms'} {ix} {ix'} {v} {r} e g = subst (λ (x : Verdict). Replied h ls x r ws ws' cs cs' ms ms' ix ix') e g

module _ (s : List ℕ) (ws ws' : List ℕ) (cs cs' ms ms' : List Float) (ix ix' : List ℕ) (r : Reply) where
  abbrev ls : List (List ℕ)
  ls = parts newline s

  -- by the verdict on the sheet, the answer
  answered_by : (v : Verdict) → verdict (head_of ls) ls (rows_in (width_of (head_of ls).qubits) ws cs) (length ms) ≡ v → Replied (head_of ls) ls v r ws ws' cs cs' ms ms' ix ix' → Answered s r ws ws' cs cs' ms ms' ix ix'
  unfolding reply_of
  answered_by v e g = record {
    reply = g.reply ∙ ap (reply_to (head_of ls) ls) (sym e);
    memory = subst (λ (x : Verdict). LeavesBy (head_of ls) ls x ws ws' cs cs' ms ms' ix ix') (sym e) g.memory;
  }

  pub answered_laid : (h : Head) → h ≡ head_of ls → Passed ≡ early_verdict h ls
      → Replied h ls (later_verdict h ls (rows_in (width_of h.qubits) ws cs) (length ms)) r ws ws' cs cs' ms ms' ix ix' → Answered s r ws ws' cs cs' ms ms' ix ix'
  answered_laid h eh ev g =
      let e = subst (λ (x : Head). early_verdict x ls ≡ Passed) eh (sym ev) in
      answered_by _ (early_passed (head_of ls) ls _ _ e) (subst (λ (x : Head). Replied x ls (later_verdict x ls (rows_in (width_of x.qubits) ws cs) (length ms)) r ws ws' cs cs' ms ms' ix ix') eh g)

pub answered_refused : (s : List ℕ) (ws : List ℕ) (cs ms : List Float) (ix : List ℕ) (r : Reply) (h : Head) (n k : ℕ) → h ≡ head_of (parts newline s)
    → RefusedAt n k ≡ early_verdict h (parts newline s) → r ≡ refusal n k → Answered s r ws ws cs cs ms ms ix ix
answered_refused s ws cs ms ix r h n k eh ev g =
    let e = subst (λ (x : Head). early_verdict x (parts newline s) ≡ RefusedAt n k) eh (sym ev) in
    answered_by s ws ws cs cs ms ms ix ix r (RefusedAt n k) (early_refused (head_of (parts newline s)) (parts newline s) _ _ n k e)
    (record { reply = g; memory = record { words = refl; coeffs = refl; means = refl; index = refl } })

-- what is known of the lists that the slices hold in the end
pub answered_left : {s : List ℕ} {r : Reply} {ws ws' ws'' : List ℕ} {cs cs' cs'' ms ms' : List Float} {ix ix' ix'' : List ℕ} → Answered s r ws ws' cs cs' ms ms' ix ix'
    → ws'' ≡ ws' → cs'' ≡ cs' → ix'' ≡ ix' → Answered s r ws ws'' cs cs'' ms ms' ix ix''
answered_left A ew ec ex = rw (ew, ec, ex) A
