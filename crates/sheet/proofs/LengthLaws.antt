-- How long a printed text can be: a buffer of 8,192 bytes takes each text that `bench` prints. Assumes nothing.
use mathlib.Core.Path.{◌≡◌, refl, ap, ◌∙◌}
use Prim.Native.Nat.{ℕ, zero, suc, ◌+◌, ◌*◌, ◌/◌, ◌%◌, ◌≤◌}
use native.Mathlib.Omega.{arith}
use native.Mathlib.Nat.{min-eq_left}
use mathlib.Core.Bool.{Bool, true, false, cond}
use mathlib.Core.List.{List, [], ◌∷◌, ◌++◌}
use lib.Dec.{ltb}
use lib.IntN.{ℤ, pos, negsuc}
use lib.ListN.{length, take, drop, length-append, length-take}
use lib.Seq.{take_all, take-append_seam}
use lib.Ieee.{Float}
use Rattle.numbers.specs.Bits.{printed_bits}
use Rattle.text.specs.Bytes.{parts, newline, bytes}
use Rattle.text.specs.Numerals.{decimal_text, nat_text}
use Rattle.text.proofs.SpellLaws.{length_hex_text}
use Rattle.dynamics.specs.Turn.{Stage, refused, going, Outcome}
use Rattle.ops.specs.declared.Run.{Run}
use Rattle.ops.specs.declared.Run.TheVariants.{Full, Cone, All, Path, Wide}
use Rattle.layout.specs.declared.Head.{Head}
use Rattle.layout.specs.Layout.{head_of}
use Rattle.replies.specs.declared.Reply.{Reply}
use Rattle.replies.specs.Printed.{int_text, real_text, field, z_lines, printed}
use Rattle.replies.specs.Written.{Printing}
use Rattle.questions.specs.Verdict.{Verdict, RefusedAt, Passed}
use Rattle.questions.specs.Questions.{verdict}
use Rattle.sheet.specs.Answer.{refusal, run_of, task_of, reply_to, means_run, means_to, printed_of}
use Rattle.sheet.specs.Running.{means_count}
use Rattle.sheet.specs.Screen.{bench}
use Rattle.sheet.proofs.PassLaws.{passed_bounds}
use Rattle.sheet.proofs.OutcomeLaws.{HasMeans, outcome_means}

-- ---- the pieces
-- at most so many bytes
record Short (n : ℕ) (s : List ℕ) : Type 0 where
  bound : length s ≤ n

after : {m n : ℕ} {a b : List ℕ} → Short m a → Short n b → Short (m + n) (a ++ b)
after {m} {n} {a} {b} h k = let e = length-append a b in record { bound = omega (arith, h.bound, k.bound, e) }

decimal_short : (d n : ℕ) → Short d (decimal_text d n)
unfolding decimal_text
decimal_short zero n = record { bound = omega arith }
decimal_short (suc d) n = go (ltb n 10) (decimal_short d (n / 10))
  where
    go : (b : Bool) → Short d (decimal_text d (n / 10)) → Short (suc d) (cond b ((48 + n) ∷ []) (decimal_text d (n / 10) ++ ((48 + n % 10) ∷ [])))
    go true h = record { bound = omega arith }
    go false h = let e = length-append (decimal_text d (n / 10)) ((48 + n % 10) ∷ []) in record { bound = omega (arith, h.bound, e) }

signed_short : (z : ℤ) → Short 21 (int_text z)
signed_short (pos n) = record { bound = omega (arith, (decimal_short 20 n).bound) }
signed_short (negsuc n) = record { bound = omega (arith, (decimal_short 20 (suc n)).bound) }

real_short : (x : Float) → Short 16 (real_text x)
real_short x = record { bound = omega (arith, length_hex_text 16 (printed_bits x)) }

-- a line: its key, its value and the byte 10
line_short : (k n : ℕ) (key value : List ℕ) → length key ≤ k → Short n value → Short (k + (n + 1)) (field key value)
line_short k n key value h i = after {a = key} (record { bound = h }) (after {a = value} i (record { bound = omega arith }))

means_short : (zs : List Float) → Short (19 * length zs) (z_lines zs)
unfolding z_lines
means_short [] = record { bound = omega arith }
means_short (z ∷ zs) = record { bound = omega (arith, (after (line_short 2 16 (bytes "z=") (real_text z) (omega arith) (real_short z)) (means_short zs)).bound) }

-- ---- a text: eight lines and the Z means
printed_short : (r : Reply) (places : List Float) → length places ≤ 256 → length (printed r places) ≤ 8192
unfolding printed
printed_short r places h =
    let few = length-take r.means places in
    let status = line_short 7 20 (bytes "status=") (nat_text r.status) (omega arith) (decimal_short 20 r.status) in
    let line = line_short 5 20 (bytes "line=") (nat_text r.line) (omega arith) (decimal_short 20 r.line) in
    let mean = line_short 5 16 (bytes "mean=") (real_text r.mean) (omega arith) (real_short r.mean) in
    let shown = line_short 6 21 (bytes "shown=") (int_text r.shown) (omega arith) (signed_short r.shown) in
    let count = line_short 8 20 (bytes "t_count=") (nat_text r.t_count) (omega arith) (decimal_short 20 r.t_count) in
    let peak = line_short 11 20 (bytes "peak_terms=") (nat_text r.peak_terms) (omega arith) (decimal_short 20 r.peak_terms) in
    let met = line_short 8 20 (bytes "touched=") (nat_text r.touched) (omega arith) (decimal_short 20 r.touched) in
    let gone = line_short 10 16 (bytes "discarded=") (real_text r.discarded) (omega arith) (real_short r.discarded) in
    let text = after status (after line (after mean (after shown (after count (after peak (after met (after gone (means_short (take r.means places))))))))) in
    omega (arith, text.bound, few, h)

-- ---- the texts of `bench`
-- at most 256 Z means
means_few : (r : Run) (q : ℕ) (run : Stage Outcome) → HasMeans (means_count r q) run → q ≤ 256 → length (means_run run) ≤ 256
means_few r q (refused n) e h = omega arith
means_few Full q (going o) e h = omega (arith, e)
means_few Cone q (going o) e h = omega (arith, e)
means_few All q (going o) e h = omega (arith, e, h)
means_few Path q (going o) e h = omega (arith, e)
means_few Wide q (going o) e h = omega (arith, e)

means_held : (h : Head) (ls : List (List ℕ)) (v : Verdict) → verdict h ls 512 256 ≡ v → length (means_to h ls v) ≤ 256
means_held h ls (RefusedAt n k) e = omega arith
means_held h ls Passed e = means_few h.run h.qubits (run_of h ls) (outcome_means h.run (task_of h ls)) (passed_bounds h ls 512 256 e).qubits_most

sheet_short : (s : List ℕ) → length (printed_of s 512 256) ≤ 8192
unfolding printed_of
sheet_short s =
    let ls = parts newline s in
    let h = head_of ls in
    let v = verdict h ls 512 256 in
    printed_short (reply_to h ls v) (means_to h ls v) (means_held h ls v refl)

pub bench_fits : (s : List ℕ) → length (bench s) ≤ 8192
unfolding bench
bench_fits s = go (ltb 65536 (length s))
  where
    go : (b : Bool) → length (cond b (printed (refusal 1 0) []) (printed_of s 512 256)) ≤ 8192
    go true = printed_short (refusal 1 0) [] (omega arith)
    go false = sheet_short s

-- ---- a text that was printed into a buffer that takes it whole
module _ (t : List ℕ) (r : ℕ) (out out' : List ℕ) (p : Printing t r out out') (room : length t ≤ length out) where
  all_counted : r ≡ length t
  all_counted = p.count ∙ min-eq_left room

  pub whole_text : take r out' ≡ t
  whole_text = ap (take r) (p.bytes ∙ ap (λ (x : List ℕ). x ++ drop (length t) out) (take_all (length out) t room)) ∙ ap (λ (n : ℕ). take n (t ++ drop (length t) out)) all_counted ∙ take-append_seam t (drop (length t) out)
