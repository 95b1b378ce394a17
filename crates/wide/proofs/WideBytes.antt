-- 2026-10 of byte strings, as specs/SheetWide.antt states it, from the statement over values (crate runs). Assumes nothing.
use mathlib.Core.Path.{◌≡◌, refl, sym, ap, ap₂, ◌∙◌, subst}
use Prim.Native.Nat.{ℕ, suc, ◌+◌, ◌*◌}
use native.Mathlib.Omega.{arith}
use mathlib.Core.Bool.{Bool, true, cond, ◌&&◌}
use mathlib.Core.List.{List, [], ◌∷◌, ◌++◌, map}
use lib.Dec.{leb, ltb}
use lib.ListN.{length, take, drop, get_or, set, length-append}
use lib.Ieee.{eq, of_bits}
use lib.Seq.{get_or-set_other, drop-set-lt}
use Rattle.std.specs.Prelude.{Option}
use Rattle.numbers.proofs.CloseLaws.{shown_≈, printed_bits_≈}
use Rattle.text.specs.Bytes.{bytes, parts, newline, begins}
use Rattle.ops.specs.declared.Op.{Op}
use Rattle.dynamics.specs.Turn.{Stage, Outcome}
use Rattle.dynamics.proofs.Alike.{Like, stops, goes, NearEnd}
use Rattle.ops.specs.declared.Run.{Run}
use Rattle.ops.specs.declared.Run.TheVariants.{Path, Wide}
use Rattle.ops.specs.Task.{Task, passes}
use Rattle.dynamics.specs.Outcome.{outcome_of}
use Rattle.cones.specs.Wide.{Way, as_path, as_wide, Provided, AgreesWithPath}
use Rattle.cones.proofs.WideAgrees.{wide_agrees, near_wide}
use Rattle.lines.specs.Fields.{count, run_field, or_zero}
use Rattle.lines.specs.TermLines.{TermLine}
use Rattle.lines.specs.OpLines.{op_on}
use Rattle.layout.specs.declared.Head.{Head}
use Rattle.layout.specs.Layout.{kind, head_kind, is_laid_out, bad_line, head_of, question1, term_lines, sheet_ops}
use Rattle.replies.specs.Printed.{printed}
use Rattle.questions.specs.Verdict.{Verdict, RefusedAt, Passed}
use Rattle.questions.specs.Questions.{question2, question3, question4, question11, question7, first_no, refused_or, term_fault, op_fault, first_fault, verdict}
use Rattle.sheet.specs.Answer.{task_of, refusal, reply_run, reply_to, reply_of, means_run, means_to, printed_of}
use Rattle.sheet.specs.SheetCone.{rejoined, task_of_bytes, SameReply}
use Rattle.sheet.specs.Screen.{bench}
use Rattle.sheet.proofs.PassLaws.{passed_passes}
use Rattle.sheet.proofs.SheetDemand.{Clean, lines_with, same_task_lem, same_reply_lem}
use Rattle.wide.specs.SheetWide.{run_line, bytes_as, verdict_of, SameRoom, SameAnswer, WideAsPath, WideOfBytes}

abbrev run_as : Way → Run
run_as as_path = Path
run_as as_wide = Wide

-- ---- the lines of a sheet with the run's line for its second
clean_run : (v : Way) → Clean (run_line v)
clean_run as_path = (refl, (refl, (refl, (refl, (refl, (refl, (refl, (refl, tt))))))))
clean_run as_wide = (refl, (refl, (refl, (refl, (refl, (refl, (refl, (refl, tt))))))))

lines_as : (v : Way) (s : List ℕ) → parts newline (bytes_as v s) ≡ set (parts newline s) 1 (run_line v)
lines_as v s = lines_with (run_line v) (clean_run v) s

task_as : (v : Way) (s : List ℕ) → task_of_bytes (bytes_as v s) ≡ task_of_bytes s
task_as v s = ap (λ (ls : List (List ℕ)). task_of (head_of ls) ls) (lines_as v s) ∙ same_task_lem (parts newline s) (run_line v)

-- ---- the questions before the run, by what they read: the first line that is not laid out, the `term` lines, the ops, and whether there is room
judged : Head → Option ℕ → List TermLine → List Op → Bool → Verdict
judged h bad ts os room =
    refused_or 1 bad
    (refused_or 2 (first_no (question2 h) h.terms ts os)
    (refused_or 3 (first_no (question3 h) h.terms ts os)
    (refused_or 4 (first_no (question4 h) h.terms ts os)
    (refused_or 11 (first_no question11 h.terms ts os)
    (first_fault (term_fault h) 7 ts (first_fault (op_fault h) (8 + h.terms) os (cond room Passed (RefusedAt 7 0))))))))

verdict_is : (h : Head) (ls : List (List ℕ)) (rows places : ℕ) → verdict h ls rows places ≡ judged h (question1 h ls) (term_lines h ls) (sheet_ops h ls) (question7 h rows places)
unfolding verdict judged
verdict_is h ls rows places = refl

-- the head with another run
ran : Run → Head → Head
ran r h = record { qubits = h.qubits; run = r; epsilon = h.epsilon; max_terms = h.max_terms; limit = h.limit; terms = h.terms; ops = h.ops }

-- "counts as `path` in every rule so far"
judged_alike : (h : Head) (bad : Option ℕ) (ts : List TermLine) (os : List Op) (room : Bool) → judged (ran Path h) bad ts os room ≡ judged (ran Wide h) bad ts os room
unfolding judged ran
judged_alike h bad ts os room = refl

-- ---- sheets of two lines and more; with fewer there is no second line to replace, and question 1 refuses the sheet
module _ (p q : List ℕ) (ps : List (List ℕ)) where
  abbrev whole : List (List ℕ)
  whole = p ∷ q ∷ ps

  abbrev named : Way → List (List ℕ)
  named v = p ∷ run_line v ∷ ps

  -- the run's line says which run, and nothing else of the head
  abbrev counting : Run → List ℕ → Head
  counting r l =
      let h = head_of whole in
      record { qubits = h.qubits; run = r; epsilon = h.epsilon; max_terms = h.max_terms; limit = h.limit; terms = h.terms; ops = or_zero (count (bytes "ops=") l) }

  ops_line : (v : Way) → get_or (named v) (6 + (head_of whole).terms) [] ≡ get_or whole (6 + (head_of whole).terms) []
  ops_line v = get_or-set_other whole 1 (6 + (head_of whole).terms) (run_line v) [] (λ e. omega arith)

  head_as : (v : Way) → head_of (named v) ≡ ran (run_as v) (head_of whole)
  unfolding head_of ran run_field begins
  head_as as_path = ap (counting Path) (ops_line as_path)
  head_as as_wide = ap (counting Wide) (ops_line as_wide)

  -- each run's line is one
  laid_alike : (t o : ℕ) → bad_line t o (named as_path) 1 ≡ bad_line t o (named as_wide) 1
  laid_alike t o = go ps
    where
      go : (rs : List (List ℕ)) → bad_line t o (p ∷ run_line as_path ∷ rs) 1 ≡ bad_line t o (p ∷ run_line as_wide ∷ rs) 1
      go [] = unfold bad_line kind head_kind in refl
      go (r ∷ rs) = unfold bad_line kind head_kind is_laid_out run_field begins in refl

  ops_as : (v : Way) (n : ℕ) → drop (7 + n) (named v) ≡ drop (7 + n) whole
  ops_as v n = drop-set-lt (7 + n) whole 1 (run_line v) (omega arith)

  abbrev judged_as : Way → List (List ℕ) → ℕ → Verdict
  judged_as v ops rows =
      let h = head_of whole in
      judged (ran (run_as v) h) (bad_line h.terms h.ops (named v) 1) (term_lines h whole) (map op_on (take h.ops ops)) (leb (2 * h.limit) rows && true)

  verdict_as : (v : Way) (rows places : ℕ) → verdict (head_of (named v)) (named v) rows places ≡ judged_as v (drop (7 + (head_of whole).terms) whole) rows
  unfolding ran
  verdict_as v rows places = ap (λ (h : Head). verdict h (named v) rows places) (head_as v) ∙ go v ∙ ap (λ (ops : List (List ℕ)). judged_as v ops rows) (ops_as v (head_of whole).terms)
    where
      go : (v : Way) → verdict (ran (run_as v) (head_of whole)) (named v) rows places ≡ judged_as v (drop (7 + (head_of whole).terms) (named v)) rows
      go as_path = verdict_is (ran Path (head_of whole)) (named as_path) rows places
      go as_wide = verdict_is (ran Wide (head_of whole)) (named as_wide) rows places

  alike : (rows places : Way → ℕ) → leb (2 * (head_of whole).limit) (rows as_path) ≡ leb (2 * (head_of whole).limit) (rows as_wide)
      → verdict (head_of (named as_path)) (named as_path) (rows as_path) (places as_path) ≡ verdict (head_of (named as_wide)) (named as_wide) (rows as_wide) (places as_wide)
  alike rows places e =
      let h = head_of whole in
      verdict_as as_path (rows as_path) (places as_path)
      ∙ judged_alike h _ (term_lines h whole) (sheet_ops h whole) (leb (2 * h.limit) (rows as_path) && true)
      ∙ ap₂ (λ (bad : Option ℕ) (room : Bool). judged (ran Wide h) bad (term_lines h whole) (sheet_ops h whole) (room && true)) (laid_alike h.terms h.ops) e
      ∙ sym (verdict_as as_wide (rows as_wide) (places as_wide))

-- ---- the refusal before the run, of lines
abbrev judged_lines : List (List ℕ) → ℕ → ℕ → Verdict
judged_lines ls rows places = verdict (head_of ls) ls rows places

lines_alike : (ls : List (List ℕ)) (rows places : Way → ℕ) → let n = 2 * (head_of ls).limit in leb n (rows as_path) ≡ leb n (rows as_wide)
    → judged_lines (set ls 1 (run_line as_path)) (rows as_path) (places as_path) ≡ judged_lines (set ls 1 (run_line as_wide)) (rows as_wide) (places as_wide)
unfolding verdict bad_line kind head_kind
lines_alike [] rows places e = refl
lines_alike (p ∷ []) rows places e = refl
lines_alike (p ∷ q ∷ ps) rows places e = alike p q ps rows places e

abbrev Refused : Verdict → Type 0
Refused (RefusedAt n k) = Unit {0}
Refused Passed = ⊥

no_line : (k : ℕ) → RefusedAt 1 k ≡ Passed → ⊥
no_line k e = subst Refused e tt

-- a sheet that passes is of the run that its second line names
run_as_lem : (v : Way) (ls : List (List ℕ)) (rows places : ℕ) → judged_lines (set ls 1 (run_line v)) rows places ≡ Passed → (head_of (set ls 1 (run_line v))).run ≡ run_as v
unfolding verdict bad_line kind head_kind ran
run_as_lem v [] rows places e = absurd (no_line 1 e)
run_as_lem v (p ∷ []) rows places e = absurd (no_line 1 e)
run_as_lem v (p ∷ q ∷ ps) rows places e = ap (λ (h : Head). h.run) (head_as p q ps v)

-- ---- runs that end alike are answered alike
same_answer_lem : (os : List Op) {x y : Stage Outcome} → Like NearEnd x y → SameReply (reply_run Path os x) (reply_run Wide os y) → SameAnswer (reply_run Path os x) (reply_run Wide os y)
same_answer_lem os (stops n) r = record { reply = r; shown = refl; t_count = refl; means = refl }
same_answer_lem os (goes e) r = record { reply = r; shown = shown_≈ e.mean; t_count = refl; means = ap length e.means }

same_text : (os : List Op) {x y : Stage Outcome} → Like NearEnd x y → printed (reply_run Path os x) (means_run x) ≡ printed (reply_run Wide os y) (means_run y)
unfolding printed
same_text os (stops n) = refl
same_text os (goes e) = rw (printed_bits_≈ e.mean, shown_≈ e.mean, printed_bits_≈ e.discarded, e.peak, e.touched, e.means)

-- ---- the theorem, of one sheet
module _ (s : List ℕ) (rows places : Way → ℕ) (room : SameRoom s rows) where
  abbrev lines : List (List ℕ)
  lines = parts newline s

  abbrev task : Task
  task = task_of_bytes s

  verdict_of_lem : (v : Way) → verdict_of (bytes_as v s) (rows v) (places v) ≡ judged_lines (set lines 1 (run_line v)) (rows v) (places v)
  verdict_of_lem v = ap (λ (ls : List (List ℕ)). judged_lines ls (rows v) (places v)) (lines_as v s)

  same_verdict_lem : verdict_of (bytes_as as_path s) (rows as_path) (places as_path) ≡ verdict_of (bytes_as as_wide s) (rows as_wide) (places as_wide)
  same_verdict_lem = verdict_of_lem as_path ∙ lines_alike lines rows places room ∙ sym (verdict_of_lem as_wide)

  -- each way has the verdict of the other
  each_verdict : {x : Verdict} → verdict_of (bytes_as as_path s) (rows as_path) (places as_path) ≡ x → (v : Way) → verdict_of (bytes_as v s) (rows v) (places v) ≡ x
  each_verdict e as_path = e
  each_verdict e as_wide = sym same_verdict_lem ∙ e

  refused_alike_lem : (n k : ℕ) → verdict_of (bytes_as as_path s) (rows as_path) (places as_path) ≡ RefusedAt n k → (v : Way) → reply_of (bytes_as v s) (rows v) (places v) ≡ refusal n k
  unfolding reply_of
  refused_alike_lem n k e v = let ls = parts newline (bytes_as v s) in ap (reply_to (head_of ls) ls) (each_verdict e v)

  refused_text : (n k : ℕ) → verdict_of (bytes_as as_path s) (rows as_path) (places as_path) ≡ RefusedAt n k → (v : Way) → printed_of (bytes_as v s) (rows v) (places v) ≡ printed (refusal n k) []
  unfolding printed_of
  refused_text n k e v = let ls = parts newline (bytes_as v s) in ap (λ (x : Verdict). printed (reply_to (head_of ls) ls x) (means_to (head_of ls) ls x)) (each_verdict e v)

  module _ (e : verdict_of (bytes_as as_path s) (rows as_path) (places as_path) ≡ Passed) where
    run_of : (v : Way) → (head_of (parts newline (bytes_as v s))).run ≡ run_as v
    run_of v = ap (λ (ls : List (List ℕ)). (head_of ls).run) (lines_as v s) ∙ run_as_lem v lines (rows v) (places v) (sym (verdict_of_lem v) ∙ each_verdict e v)

    passes_path : passes Path task ≡ true
    passes_path = let ls = parts newline (bytes_as as_path s) in
        ap₂ passes (sym (run_of as_path)) (sym (task_as as_path s)) ∙ passed_passes (head_of ls) ls (rows as_path) (places as_path) e

    reply_as : (v : Way) → reply_of (bytes_as v s) (rows v) (places v) ≡ reply_run (run_as v) task.ops (outcome_of (run_as v) task)
    unfolding reply_of
    reply_as v = let ls = parts newline (bytes_as v s) in
        ap (reply_to (head_of ls) ls) (each_verdict e v) ∙ ap₂ (λ (r : Run) (t : Task). reply_run r t.ops (outcome_of r t)) (run_of v) (task_as v s)

    text_as : (v : Way) → printed_of (bytes_as v s) (rows v) (places v) ≡ printed (reply_run (run_as v) task.ops (outcome_of (run_as v) task)) (means_run (outcome_of (run_as v) task))
    unfolding printed_of
    text_as v = let ls = parts newline (bytes_as v s) in
        ap (λ (x : Verdict). printed (reply_to (head_of ls) ls x) (means_to (head_of ls) ls x)) (each_verdict e v)
        ∙ ap₂ (λ (r : Run) (t : Task). printed (reply_run r t.ops (outcome_of r t)) (means_run (outcome_of r t))) (run_of v) (task_as v s)

    of_values : AgreesWithPath task
    of_values = wide_agrees task passes_path

    passed_answer : Provided task → SameAnswer (reply_of (bytes_as as_path s) (rows as_path) (places as_path)) (reply_of (bytes_as as_wide s) (rows as_wide) (places as_wide))
    passed_answer p = rw (reply_as as_path, reply_as as_wide)
        (same_answer_lem task.ops (near_wide task passes_path p) (same_reply_lem Path Wide task.ops task.ops (of_values.same_end p)))

    passed_text : Provided task → printed_of (bytes_as as_path s) (rows as_path) (places as_path) ≡ printed_of (bytes_as as_wide s) (rows as_wide) (places as_wide)
    passed_text p = text_as as_path ∙ same_text task.ops (near_wide task passes_path p) ∙ sym (text_as as_wide)

  refused_answer : (n k : ℕ) → SameAnswer (refusal n k) (refusal n k)
  unfolding eq of_bits
  refused_answer n k = record {
    reply = record { status = refl; line = refl; mean = refl; discarded = refl; peak_terms = refl; touched = refl };
    shown = refl;
    t_count = refl;
    means = refl;
  }

  answers : (x : Verdict) → verdict_of (bytes_as as_path s) (rows as_path) (places as_path) ≡ x → Provided task
      → SameAnswer (reply_of (bytes_as as_path s) (rows as_path) (places as_path)) (reply_of (bytes_as as_wide s) (rows as_wide) (places as_wide))
  answers (RefusedAt n k) e p = rw (refused_alike_lem n k e as_path, refused_alike_lem n k e as_wide) (refused_answer n k)
  answers Passed e p = passed_answer e p

  texts : (x : Verdict) → verdict_of (bytes_as as_path s) (rows as_path) (places as_path) ≡ x → Provided task
      → printed_of (bytes_as as_path s) (rows as_path) (places as_path) ≡ printed_of (bytes_as as_wide s) (rows as_wide) (places as_wide)
  texts (RefusedAt n k) e p = refused_text n k e as_path ∙ sym (refused_text n k e as_wide)
  texts Passed e p = passed_text e p

  -- the proviso speaks of the values, which the second line has no part in
  given : Provided (task_of_bytes (bytes_as as_path s)) → Provided task
  given p = subst Provided (task_as as_path s) p

  of_sheet : WideAsPath s rows places
  of_sheet = record {
    same_task = task_as as_wide s ∙ sym (task_as as_path s);
    same_verdict = same_verdict_lem;
    refused_alike = refused_alike_lem;
    values = λ e. subst AgreesWithPath (sym (task_as as_path s)) (of_values e);
    same_answer = λ p. answers _ refl (given p);
    same_printed = λ p. texts _ refl (given p);
  }

-- ---- the bench's screen: both sheets are of one length
module _ (a b : List ℕ) (e : length a ≡ length b) where
  joined_length : (p r t : List ℕ) → length r ≡ length t → length (p ++ (newline ∷ r)) ≡ length (p ++ (newline ∷ t))
  joined_length p r t k = length-append p (newline ∷ r) ∙ ap (λ (n : ℕ). length p + suc n) k ∙ sym (length-append p (newline ∷ t))

  second_length : (ls : List (List ℕ)) → length (rejoined (set ls 1 a)) ≡ length (rejoined (set ls 1 b))
  unfolding rejoined
  second_length [] = refl
  second_length (p ∷ []) = refl
  second_length (p ∷ q ∷ []) = joined_length p a b e
  second_length (p ∷ q ∷ r ∷ rs) =
      let rest = newline ∷ rejoined (r ∷ rs) in
      joined_length p (a ++ rest) (b ++ rest) (length-append a rest ∙ ap (λ (n : ℕ). n + length rest) e ∙ sym (length-append b rest))

on_screen : (s : List ℕ) → Provided (task_of_bytes (bytes_as as_path s)) → bench (bytes_as as_path s) ≡ bench (bytes_as as_wide s)
unfolding bench
on_screen s p =
    ap₂ (λ (n : ℕ) (t : List ℕ). cond (ltb 65536 n) (printed (refusal 1 0) []) t)
    (second_length (run_line as_path) (run_line as_wide) refl (parts newline s)) ((of_sheet s (λ v. 512) (λ v. 256) refl).same_printed p)

pub wide_of_bytes : WideOfBytes
wide_of_bytes = record { called = of_sheet; screen = on_screen }
