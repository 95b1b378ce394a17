-- What is printed of an answer that was made with 512 rows and 256 mean places. Assumes nothing.
use mathlib.Core.Path.{◌≡◌, refl, sym, ap, ◌∙◌, subst}
use Prim.Native.Nat.{ℕ, zero, suc, ◌*◌, ◌/◌, ◌≤◌, ◌<◌, min}
use native.Mathlib.Omega.{arith}
use mathlib.Core.Bool.{Bool, cond}
use mathlib.Core.List.{List, []}
use lib.Dec.{leb}
use lib.ListN.{length, take, drop}
use lib.Seq.{take-length, take-append_seam}
use lib.Ieee.{Float}
use borrow.Author.Tests.{leb-true, lt-ltb, le-ltb}
use Rattle.words.specs.Keys.{width_of}
use Rattle.terms.proofs.CaseLaws.{and_true}
use Rattle.rows.specs.Rows.{rows_in}
use Rattle.text.specs.Bytes.{parts, newline}
use Rattle.ops.specs.declared.Op.{Op}
use Rattle.dynamics.specs.Turn.{Stage, refused, going, Outcome}
use Rattle.ops.specs.declared.Run.{Run}
use Rattle.ops.specs.declared.Run.TheVariants.{Full, Cone, All, Path, Wide}
use Rattle.layout.specs.declared.Head.{Head}
use Rattle.layout.specs.Layout.{head_of, term_lines, sheet_ops}
use Rattle.replies.specs.declared.Reply.{Reply}
use Rattle.replies.specs.Printed.{printed}
use Rattle.replies.specs.Written.{Printing}
use Rattle.questions.specs.Verdict.{Verdict, RefusedAt, Passed}
use Rattle.questions.specs.Questions.{question2, verdict, early_verdict}
use Rattle.sheet.specs.Answer.{refusal, run_of, task_of, reply_run, reply_to, reply_of, means_after, means_run, means_to, LeavesBy, Answered, printed_of}
use Rattle.sheet.specs.Running.{means_count}
use Rattle.sheet.specs.Screen.{bench}
use Rattle.sheet.proofs.PassLaws.{yes_of}
use Rattle.questions.proofs.VerdictLaws.{early_laid, early_refused}
use Rattle.sheet.proofs.OutcomeLaws.{HasMeans, outcome_means}

-- ---- 512 rows

-- 4,096 words and 512 numbers are 512 rows, or more, of a key of up to four words x and four words z
rows_by_width : (w : ℕ) → 1 ≤ w → w ≤ 4 → min (4096 / (2 * w)) 512 ≡ 512
rows_by_width zero a b = absurd (omega arith)
rows_by_width (suc zero) a b = refl
rows_by_width (suc (suc zero)) a b = refl
rows_by_width (suc (suc (suc zero))) a b = refl
rows_by_width (suc (suc (suc (suc zero)))) a b = refl
rows_by_width (suc (suc (suc (suc (suc w))))) a b = absurd (omega arith)

rows_are : (q : ℕ) (ws : List ℕ) (cs : List Float) → 1 ≤ q → q ≤ 256 → length ws ≡ 4096 → length cs ≡ 512 → rows_in (width_of q) ws cs ≡ 512
rows_are q ws cs a b ew ec =
    ap (λ (n : ℕ). min (n / (2 * width_of q)) (length cs)) ew ∙ ap (min (4096 / (2 * width_of q))) ec
    ∙ rows_by_width (width_of q) (omega arith) (omega arith)

-- The verdict asks for the number of rows only of a sheet of 1 to 256 qubits: any other is refused before.
verdict_rows : (h : Head) (ls : List (List ℕ)) (ws : List ℕ) (cs : List Float) (places : ℕ) → length ws ≡ 4096 → length cs ≡ 512
    → verdict h ls (rows_in (width_of h.qubits) ws cs) places ≡ verdict h ls 512 places
verdict_rows h ls ws cs places ew ec = go (early_verdict h ls) refl
  where
    go : (v : Verdict) → early_verdict h ls ≡ v → verdict h ls (rows_in (width_of h.qubits) ws cs) places ≡ verdict h ls 512 places
    go (RefusedAt n k) e = early_refused h ls _ places n k e ∙ sym (early_refused h ls 512 places n k e)
    go Passed e =
        let y = yes_of (question2 h) h.terms (term_lines h ls) (sheet_ops h ls) (early_laid h ls e).1 in
        let n = and_true (leb 1 h.qubits) (leb h.qubits 256) y.qubits in
        ap (λ (r : ℕ). verdict h ls r places) (rows_are h.qubits ws cs (leb-true 1 h.qubits n.0) (leb-true h.qubits 256 n.1) ew ec)

-- ---- the Z means that are printed

-- only the first of the mean places are printed, as many as the reply says
printed_places : (r : Reply) (a b : List Float) → take r.means a ≡ take r.means b → printed r a ≡ printed r b
unfolding printed
printed_places r a b e = rw e

pub refusal_places : (n k : ℕ) (a b : List Float) → printed (refusal n k) a ≡ printed (refusal n k) b
refusal_places n k a b = printed_places (refusal n k) a b refl

-- after a run that succeeds the first mean places hold its Z means
none_first : (n : ℕ) (a b : List Float) → n ≡ 0 → take n a ≡ take n b
none_first n a b e = ap (λ (k : ℕ). take k a) e ∙ ap (λ (k : ℕ). take k b) (sym e)

means_first : (r : Run) (q : ℕ) (o : Outcome) (ms ms' : List Float) → HasMeans (means_count r q) (going o) → ms' ≡ means_after r q (going o) ms
    → take (length o.means) ms' ≡ take (length o.means) o.means
means_first Full q o ms ms' n e = none_first (length o.means) ms' o.means n
means_first Cone q o ms ms' n e = none_first (length o.means) ms' o.means n
means_first All q o ms ms' n e =
    ap (take (length o.means)) e ∙ take-append_seam o.means (drop q ms) ∙ sym (take-length o.means)
means_first Path q o ms ms' n e = none_first (length o.means) ms' o.means n
means_first Wide q o ms ms' n e = none_first (length o.means) ms' o.means n

run_printed : (h : Head) (ops : List Op) (run : Stage Outcome) (ms ms' : List Float) → HasMeans (means_count h.run h.qubits) run
    → ms' ≡ means_after h.run h.qubits run ms → printed (reply_run h.run ops run) ms' ≡ printed (reply_run h.run ops run) (means_run run)
run_printed h ops (refused n) ms ms' k e = refusal_places n 0 ms' []
run_printed h ops (going o) ms ms' k e = printed_places (reply_run h.run ops (going o)) ms' o.means (means_first h.run h.qubits o ms ms' k e)

verdict_printed : (h : Head) (ls : List (List ℕ)) (v : Verdict) (ws ws' : List ℕ) (cs cs' ms ms' : List Float) (ix ix' : List ℕ) → LeavesBy h ls v ws ws' cs cs' ms ms' ix ix'
    → printed (reply_to h ls v) ms' ≡ printed (reply_to h ls v) (means_to h ls v)
verdict_printed h ls (RefusedAt n k) ws ws' cs cs' ms ms' ix ix' l = refusal_places n k ms' []
verdict_printed h ls Passed ws ws' cs cs' ms ms' ix ix' l =
    run_printed h (sheet_ops h ls) (run_of h ls) ms ms' (outcome_means h.run (task_of h ls)) l.means

-- ---- the answer, printed
pub answer_text : {ws ws' : List ℕ} {cs cs' ms ms' : List Float} {ix ix' : List ℕ} (s : List ℕ) (r : Reply) → Answered s r ws ws' cs cs' ms ms' ix ix'
    → printed r ms' ≡ printed_of s (rows_in (width_of (head_of (parts newline s)).qubits) ws cs) (length ms)
unfolding reply_of printed_of
answer_text {ws} {ws'} {cs} {cs'} {ms} {ms'} {ix} {ix'} s r a =
    let ls = parts newline s in
    let h = head_of ls in
    ap (λ (x : Reply). printed x ms') a.reply
    ∙ verdict_printed h ls (verdict h ls (rows_in (width_of h.qubits) ws cs) (length ms)) ws ws' cs cs' ms ms' ix ix' a.memory

-- in the buffers of `bench`
pub answer_printed : {ws ws' : List ℕ} {cs cs' ms ms' : List Float} {ix ix' : List ℕ} (s : List ℕ) (r : Reply) → length ws ≡ 4096 → length cs ≡ 512 → length ms ≡ 256
    → Answered s r ws ws' cs cs' ms ms' ix ix' → printed r ms' ≡ printed_of s 512 256
unfolding printed_of
answer_printed {ws} {ws'} {cs} {cs'} {ms} {ms'} {ix} {ix'} s r ew ec em a =
    let ls = parts newline s in
    let h = head_of ls in
    answer_text s r a
    ∙ ap (λ (v : Verdict). printed (reply_to h ls v) (means_to h ls v)) (verdict_rows h ls ws cs (length ms) ew ec ∙ ap (verdict h ls 512) em)

pub same_text : {t u : List ℕ} {r : ℕ} {out out' : List ℕ} → t ≡ u → Printing t r out out' → Printing u r out out'
same_text {t} {u} {r} {out} {out'} e p = subst (λ (x : List ℕ). Printing x r out out') e p

pub refusal_text : {r : ℕ} {out out' : List ℕ} (x : Reply) (places : List Float) → x ≡ refusal 1 0 → Printing (printed x places) r out out'
    → Printing (printed (refusal 1 0) []) r out out'
refusal_text x places e p = same_text (ap (λ (y : Reply). printed y places) e ∙ refusal_places 1 0 places []) p

-- ---- the two cases of `bench`
pub bench_long : (s : List ℕ) → 65536 < length s → printed (refusal 1 0) [] ≡ bench s
unfolding bench
bench_long s h = ap (λ (b : Bool). cond b (printed (refusal 1 0) []) (printed_of s 512 256)) (sym (lt-ltb 65536 (length s) h))

pub bench_short : (s : List ℕ) → length s ≤ 65536 → printed_of s 512 256 ≡ bench s
unfolding bench
bench_short s h = ap (λ (b : Bool). cond b (printed (refusal 1 0) []) (printed_of s 512 256)) (sym (le-ltb 65536 (length s) h))
