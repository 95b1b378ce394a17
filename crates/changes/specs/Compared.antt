-- The answers now beside the answers before a change request that puts a question before the run anew, or a new one: which answers move to a
-- refusal, and that all others hold, in every reply, in all that is printed and in all lent memory.
use Rattle.std.specs.Prelude.{ℕ, ◌≡◌, Bool, true, false, cond, List, [], ltb, length, Float}
use Rattle.words.specs.Keys.{width_of}
use Rattle.rows.specs.Rows.{rows_in}
use Rattle.text.specs.Bytes.{parts, newline}
use Rattle.layout.specs.declared.Head.{Head}
use Rattle.layout.specs.Layout.{head_of}
use Rattle.replies.specs.declared.Reply.{Reply}
use Rattle.replies.specs.Printed.{printed}
use Rattle.questions.specs.Verdict.{Verdict}
use Rattle.sheet.specs.Answer.{refusal, reply_to, reply_of, means_to, printed_of, LeavesBy, Untouched, Answered}
use Rattle.sheet.specs.Screen.{bench}

-- the verdict before the request; which answers move, by the number and the line that they had; the number and the line to which they move
pub record Change : Type 0 where
  pub before : Head → List (List ℕ) → ℕ → ℕ → Verdict
  pub moves : Head → List (List ℕ) → ℕ → ℕ → Bool
  pub number : ℕ
  pub line : Head → List (List ℕ) → ℕ

-- ---- the answers before: the reply to the bytes of a sheet, the printed text, and what the program `bench` printed
unfoldable pub reply_before : Change → List ℕ → ℕ → ℕ → Reply
reply_before c s rows places =
    let ls = parts newline s in
    let h = head_of ls in
    reply_to h ls (c.before h ls rows places)

unfoldable pub printed_before : Change → List ℕ → ℕ → ℕ → List ℕ
printed_before c s rows places =
    let ls = parts newline s in
    let h = head_of ls in
    let v = c.before h ls rows places in
    printed (reply_to h ls v) (means_to h ls v)

unfoldable pub bench_before : Change → List ℕ → List ℕ
unfolding printed printed_before
bench_before c s = cond (ltb 65536 (length s)) (printed (refusal 1 0) []) (printed_before c s 512 256)

-- ---- whether the answer to a sheet moves, and to what
abbrev pub is_moved : Change → List ℕ → ℕ → ℕ → Bool
is_moved c s rows places =
    let ls = parts newline s in
    let a = reply_before c s rows places in
    c.moves (head_of ls) ls a.status a.line

abbrev pub moved_to : Change → List ℕ → Reply
moved_to c s = let ls = parts newline s in refusal c.number (c.line (head_of ls) ls)

-- ---- what `answer` gives and leaves, in rows and mean places of any number: a sheet whose answer moves leaves all memory untouched, any other as before
pub record Remains (c : Change) (s : List ℕ) (r : Reply) (ws ws' : List ℕ) (cs cs' ms ms' : List Float) (ix ix' : List ℕ) (rows : ℕ) : Type 0 where
  pub reply : r ≡ cond (is_moved c s rows (length ms)) (moved_to c s) (reply_before c s rows (length ms))
  pub moved : is_moved c s rows (length ms) ≡ true → Untouched ws ws' cs cs' ms ms' ix ix'
  pub others : is_moved c s rows (length ms) ≡ false
      → let ls = parts newline s in let h = head_of ls in LeavesBy h ls (c.before h ls rows (length ms)) ws ws' cs cs' ms ms' ix ix'

-- ---- of every sheet, whatever is lent
pub record Compared (c : Change) : Type 0 where
  pub reply : (s : List ℕ) (rows places : ℕ) → reply_of s rows places ≡ cond (is_moved c s rows places) (moved_to c s) (reply_before c s rows places)
  pub text : (s : List ℕ) (rows places : ℕ)
      → printed_of s rows places ≡ cond (is_moved c s rows places) (printed (moved_to c s) []) (printed_before c s rows places)
  pub screen : (s : List ℕ)
      → bench s ≡ cond (ltb 65536 (length s)) (bench_before c s) (cond (is_moved c s 512 256) (printed (moved_to c s) []) (bench_before c s))
  pub memory : (s : List ℕ) (r : Reply) (ws ws' : List ℕ) (cs cs' ms ms' : List Float) (ix ix' : List ℕ)
      → Answered s r ws ws' cs cs' ms ms' ix ix' → Remains c s r ws ws' cs cs' ms ms' ix ix' (rows_in (width_of (head_of (parts newline s)).qubits) ws cs)
