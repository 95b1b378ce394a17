-- 2026-10 of byte strings. The statement over the values of a sheet is in crate runs, specs/Wide.antt; here a sheet is its bytes, the questions are those that
-- `answer` asks, and the ends are its replies and what is printed.
use Rattle.std.specs.Prelude.{ℕ, ◌*◌, ◌≡◌, List, leb, set}
use Rattle.text.specs.Bytes.{bytes, parts, newline}
use Rattle.cones.specs.Wide.{Way, as_path, as_wide, Provided, AgreesWithPath}
use Rattle.layout.specs.Layout.{head_of}
use Rattle.replies.specs.declared.Reply.{Reply}
use Rattle.questions.specs.Verdict.{Verdict, RefusedAt, Passed}
use Rattle.questions.specs.Questions.{verdict}
use Rattle.sheet.specs.Answer.{refusal, reply_of, printed_of}
use Rattle.sheet.specs.SheetCone.{rejoined, task_of_bytes, SameReply}
use Rattle.sheet.specs.Screen.{bench}

-- ---- a sheet as `run=wide` and as `run=path`, the other lines as they are
abbrev pub run_line : Way → List ℕ
run_line as_path = bytes "run=path"
run_line as_wide = bytes "run=wide"

abbrev pub bytes_as : Way → List ℕ → List ℕ
bytes_as v s = rejoined (set (parts newline s) 1 (run_line v))

-- the refusal of the questions before the run, number and line, or none, with so many rows and mean places lent
abbrev pub verdict_of : List ℕ → ℕ → ℕ → Verdict
verdict_of s rows places = let ls = parts newline s in verdict (head_of ls) ls rows places

-- of the rows lent to each run both are enough for question 7, or neither: so with equally many rows
abbrev pub SameRoom : List ℕ → (Way → ℕ) → Type 0
SameRoom s rows = let n = 2 * (task_of_bytes s).limits.limit in leb n (rows as_path) ≡ leb n (rows as_wide)

-- ---- "It agrees with `path` in refusal, mean, discarded weight, peak and touched": mean and discarded weight as numbers, every other field the same
pub record SameAnswer (r q : Reply) : Type 0 where
  pub reply : SameReply r q
  pub shown : r.shown ≡ q.shown
  pub t_count : r.t_count ≡ q.t_count
  pub means : r.means ≡ q.means

-- ---- the claim, of a sheet both ways, with the rows and mean places lent to each of the two runs
pub record WideAsPath (s : List ℕ) (rows places : Way → ℕ) : Type 0 where
  -- without the proviso: "`run=wide` takes a `path` sheet, counts as `path` in every rule so far". The values are the same, and so is every refusal before the run
  pub same_task : task_of_bytes (bytes_as as_wide s) ≡ task_of_bytes (bytes_as as_path s)
  pub same_verdict : verdict_of (bytes_as as_path s) (rows as_path) (places as_path) ≡ verdict_of (bytes_as as_wide s) (rows as_wide) (places as_wide)
  pub refused_alike : (n k : ℕ) → verdict_of (bytes_as as_path s) (rows as_path) (places as_path) ≡ RefusedAt n k
      → (v : Way) → reply_of (bytes_as v s) (rows v) (places v) ≡ refusal n k
  -- of a sheet that passes the questions all holds that crate runs states: "every skipped channel meets identities"
  pub values : verdict_of (bytes_as as_path s) (rows as_path) (places as_path) ≡ Passed → AgreesWithPath (task_of_bytes (bytes_as as_path s))
  -- "provided max_terms is 0 or at least the number of merged starting terms": the reply, and all that is printed, byte for byte
  pub same_answer : Provided (task_of_bytes (bytes_as as_path s))
      → SameAnswer (reply_of (bytes_as as_path s) (rows as_path) (places as_path)) (reply_of (bytes_as as_wide s) (rows as_wide) (places as_wide))
  pub same_printed : Provided (task_of_bytes (bytes_as as_path s))
      → printed_of (bytes_as as_path s) (rows as_path) (places as_path) ≡ printed_of (bytes_as as_wide s) (rows as_wide) (places as_wide)

-- for all bytes, whatever is lent; and so on the bench's screen
pub record WideOfBytes : Type 0 where
  pub called : (s : List ℕ) (rows places : Way → ℕ) → SameRoom s rows → WideAsPath s rows places
  pub screen : (s : List ℕ) → Provided (task_of_bytes (bytes_as as_path s)) → bench (bytes_as as_path s) ≡ bench (bytes_as as_wide s)
