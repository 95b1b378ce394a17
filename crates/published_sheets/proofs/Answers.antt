-- What `answer` replies, leaves and prints is what the published form does: from its contract, and the runs of the two forms that end alike
-- (`one_real_sheets`). Assumes nothing.
use mathlib.Core.Path.{◌≡◌, refl, sym, ap, ◌∙◌, subst}
use Prim.Native.Nat.{ℕ, zero, suc, ◌-◌, ◌*◌, ◌≤◌}
use native.Mathlib.Omega.{arith}
use mathlib.Core.Bool.{Bool, true, false, cond, ◌&&◌}
use mathlib.Core.List.{List, [], ◌++◌, map}
use lib.Dec.{ltb}
use lib.ListN.{length, take, drop, replicate}
use lib.Ieee.{Float}
use Rattle.numbers.specs.Constants.{zero64}
use Rattle.numbers.specs.Close.{◌≈◌, same}
use Rattle.numbers.proofs.CloseLaws.{≈_refl, shown_≈, printed_bits_≈}
use Rattle.words.specs.Keys.{width_of}
use Rattle.terms.specs.Lists.{Each, none, more}
use Rattle.terms.specs.Term.{Term, OnWidth, odd_y}
use Rattle.terms.proofs.AllLaws.{all_imp}
use Rattle.terms.proofs.CaseLaws.{and_true}
use Rattle.terms.proofs.NearLaws.{each_refl, each_append, each_length}
use Rattle.rows.specs.Rows.{rows_in, words_with, coeffs_with}
use Rattle.rows.proofs.ReadLaws.{Keyed}
use Rattle.ops.specs.declared.Op.{Op}
use Rattle.dynamics.specs.Turn.{Stage, Outcome}
use Rattle.turns.specs.SumRuns.{left_by}
use Rattle.ops.specs.declared.Run.{Run}
use Rattle.ops.specs.declared.Run.TheVariants.{Full, Cone, All, Path, Wide}
use Rattle.ops.specs.Task.{sizes_fit, run_fits}
use Rattle.turns.specs.AllRuns.{means_of}
use Rattle.ops.proofs.SizeLaws.{sizes_say}
use Rattle.published.specs.Complex.{coeff_of}
use Rattle.published.specs.Term as CT
use Rattle.published.specs.Turn as CU
use Rattle.published.specs.OneReal.{Stands, TermBy, Both, SameEnd, Like, stops, goes}
use Rattle.text.specs.Bytes.{parts, newline}
use Rattle.layout.specs.declared.Head.{Head}
use Rattle.layout.specs.Layout.{head_of, sheet_ops}
use Rattle.replies.specs.declared.Reply.{Reply}
use Rattle.replies.specs.Printed.{z_lines, printed}
use Rattle.questions.specs.Verdict.{Verdict, RefusedAt, Passed}
use Rattle.questions.specs.Questions.{verdict}
use Rattle.sheet.specs.Answer.{task_of, refusal, reply_run, means_run, means_after, Answered}
use Rattle.sheet.specs.Answer as A
use Rattle.sheet.specs.Screen as B
use Rattle.sheet.proofs.PassLaws.{passed_passes, passed_bounds}
use Rattle.sheet.proofs.ScreenLaws.{answer_text}
use Rattle.published_sheets.specs.Answer as P
use Rattle.published_sheets.specs.Answer.{told_of, SameReply, Named, rows_read, zero_row, rows_with, AsPublished, AnswersAsPublished}
use Rattle.published_sheets.proofs.LeftLaws.{left_few}
use Rattle.published_sheets.proofs.RowsRead.{blank, rows_back}
use Rattle.published_sheets.proofs.Sheets.{one_real_sheets}

-- ---- runs that end alike: the reply, and the text
refusal_same : (n k : ℕ) → SameReply (refusal n k) (refusal n k)
refusal_same n k = record { status = refl; line = refl; mean = same; shown = refl; t_count = refl; peak_terms = refl; touched = refl; discarded = same; means = refl }

run_reply : (w : ℕ) (r : Run) (os : List Op) {x : Stage Outcome} {y : Stage CU.Outcome} → Like (SameEnd w) x y → SameReply (reply_run r os x) (reply_run r os (told_of y))
run_reply w r os (stops n) = refusal_same n 0
run_reply w r os (goes e) = record {
  status = refl;
  line = refl;
  mean = e.mean;
  shown = shown_≈ e.mean;
  t_count = refl;
  peak_terms = e.peak;
  touched = e.touched;
  discarded = e.discarded;
  means = each_length e.means;
}

z_lines_lem : {a b : List Float} (n : ℕ) → Each ◌≈◌ a b → z_lines (take n a) ≡ z_lines (take n b)
unfolding z_lines
z_lines_lem zero e = refl
z_lines_lem (suc n) none = refl
z_lines_lem (suc n) (more p e) = rw (printed_bits_≈ p, z_lines_lem n e)

run_text : (w : ℕ) (r : Run) (os : List Op) {x : Stage Outcome} {y : Stage CU.Outcome} → Like (SameEnd w) x y
    → printed (reply_run r os x) (means_run x) ≡ printed (reply_run r os (told_of y)) (means_run (told_of y))
unfolding printed
run_text w r os (stops n) = refl
run_text w r os (goes {s = o} {t = p} e) =
    rw (printed_bits_≈ e.mean, shown_≈ e.mean, printed_bits_≈ e.discarded, e.peak, e.touched, each_length e.means, z_lines_lem (length p.means) e.means)

-- ---- the rows
left_both : (w : ℕ) {x : Stage Outcome} {y : Stage CU.Outcome} → Like (SameEnd w) x y → Both w (left_by x) (P.left_by y)
left_both w (stops n) = record { same = none; wide = tt }
left_both w (goes e) = e.terms

-- zero, of a word of either parity
blank_named : (w : ℕ) → Named (CT.complex_of w (blank w)) (zero_row w)
blank_named w = record { key = refl; re = (go (odd_y w (blank w).key)).0; im = (go (odd_y w (blank w).key)).1 }
  where
    go : (odd : Bool) → ((coeff_of odd zero64).re ≈ zero64) × ((coeff_of odd zero64).im ≈ zero64)
    go true = (same, same)
    go false = (same, same)

blanks_named : (w n : ℕ) → Each Named (map (CT.complex_of w) (replicate n (blank w))) (replicate n (zero_row w))
blanks_named w zero = none
blanks_named w (suc n) = more (blank_named w) (blanks_named w n)

terms_named : (w n : ℕ) {ts : List Term} {us : List CT.Term} → Each (TermBy Stands w) ts us
    → Each Named (map (CT.complex_of w) (ts ++ replicate n (blank w))) (us ++ replicate n (zero_row w))
terms_named w n none = blanks_named w n
terms_named w n (more p ps) = more (record { key = p.key; re = p.coeff.re; im = p.coeff.im }) (terms_named w n ps)

rows_named : (w n : ℕ) {ts : List Term} {us : List CT.Term} → Both w ts us → length ts ≤ n → (ws : List ℕ) (cs : List Float)
    → Each Named (rows_read w n (words_with w n ts ws) (coeffs_with n ts cs)) (rows_with w n us)
rows_named w n {ts} {us} b few ws cs =
    let back = rows_back w n ts few (all_imp (OnWidth w) (Keyed (2 * w)) ts (λ t h. h.long) b.wide) ws cs in
    subst (λ (l : List Term). Each Named (map (CT.complex_of w) l) (rows_with w n us)) (sym back)
    (subst (λ (k : ℕ). Each Named (map (CT.complex_of w) (ts ++ replicate (n - length ts) (blank w))) (us ++ replicate (n - k) (zero_row w))) (each_length b.same)
    (terms_named w (n - length ts) b.same))

-- ---- the mean places
means_same : (w q : ℕ) {x : Stage Outcome} {y : Stage CU.Outcome} → Like (SameEnd w) x y → Each ◌≈◌ (means_of q x) (means_of q (told_of y))
means_same w q (stops n) = each_refl ≈_refl (replicate q zero64)
means_same w q (goes e) = e.means

places_same : (w q : ℕ) (r : Run) {x : Stage Outcome} {y : Stage CU.Outcome} → Like (SameEnd w) x y → (ms : List Float) → Each ◌≈◌ (means_after r q x ms) (means_after r q (told_of y) ms)
places_same w q Full e ms = each_refl ≈_refl ms
places_same w q Cone e ms = each_refl ≈_refl ms
places_same w q All e ms = each_append (means_same w q e) (each_refl ≈_refl (drop q ms))
places_same w q Path e ms = each_refl ≈_refl ms
places_same w q Wide e ms = each_refl ≈_refl ms

-- ---- a sheet
module _ (h : Head) (ls : List (List ℕ)) where
  abbrev w : ℕ
  w = width_of h.qubits

  alike : Like (SameEnd w) (A.run_of h ls) (P.run_of h ls)
  alike = (one_real_sheets h ls).ends h.run

  reply_same : (v : Verdict) → SameReply (A.reply_to h ls v) (P.reply_to h ls v)
  reply_same (RefusedAt n k) = refusal_same n k
  reply_same Passed = run_reply w h.run (sheet_ops h ls) alike

  text_same : (v : Verdict) → printed (A.reply_to h ls v) (A.means_to h ls v) ≡ printed (P.reply_to h ls v) (P.means_to h ls v)
  text_same (RefusedAt n k) = refl
  text_same Passed = run_text w h.run (sheet_ops h ls) alike

  -- a sheet that passes has rows for its final terms
  few : (rows places : ℕ) → verdict h ls rows places ≡ Passed → length (left_by (A.run_of h ls)) ≤ rows
  few rows places e =
      let t = task_of h ls in
      let two = (and_true (sizes_fit t) (run_fits h.run t) (and_true (sizes_fit t && run_fits h.run t) _ (passed_passes h ls rows places e)).0).0 in
      omega (arith, left_few h.run t (sizes_say t two).few, (passed_bounds h ls rows places e).rows_enough)

  memory_same : (ws ws' : List ℕ) (cs cs' ms ms' : List Float) (ix ix' : List ℕ) (v : Verdict) → verdict h ls (rows_in w ws cs) (length ms) ≡ v
      → A.LeavesBy h ls v ws ws' cs cs' ms ms' ix ix' → P.LeavesBy h ls v ws ws' cs cs' ms ms' ix ix'
  memory_same ws ws' cs cs' ms ms' ix ix' (RefusedAt n k) e l = l
  memory_same ws ws' cs cs' ms ms' ix ix' Passed e l =
      let n = rows_in w ws cs in
      record {
        rows = rw (l.words, l.coeffs) (rows_named w n (left_both w alike) (few n (length ms) e) ws cs);
        means = rw l.means (places_same w h.qubits h.run alike ms);
      }

text_of : (s : List ℕ) (rows places : ℕ) → A.printed_of s rows places ≡ P.printed_of s rows places
unfolding A.printed_of P.printed_of
text_of s rows places = let ls = parts newline s in let h = head_of ls in text_same h ls (verdict h ls rows places)

answered_as : (s : List ℕ) (r : Reply) (ws ws' : List ℕ) (cs cs' ms ms' : List Float) (ix ix' : List ℕ) → Answered s r ws ws' cs cs' ms ms' ix ix' → AsPublished s r ws ws' cs cs' ms ms' ix ix'
unfolding A.reply_of P.reply_of
answered_as s r ws ws' cs cs' ms ms' ix ix' a =
    let ls = parts newline s in
    let h = head_of ls in
    let rows = rows_in (width_of h.qubits) ws cs in
    record {
      reply = rw a.reply (reply_same h ls (verdict h ls rows (length ms)));
      memory = memory_same h ls ws ws' cs cs' ms ms' ix ix' (verdict h ls rows (length ms)) refl a.memory;
      text = answer_text s r a ∙ text_of s rows (length ms);
    }

pub answers_as_published : AnswersAsPublished
answers_as_published = record { called = answered_as; screen = on_screen }
  where
    on_screen : (s : List ℕ) → B.bench s ≡ P.bench s
    on_screen s = unfold B.bench P.bench in ap (cond (ltb 65536 (length s)) (printed (refusal 1 0) [])) (text_of s 512 256)
