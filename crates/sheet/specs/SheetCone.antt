-- Demand 3 of byte strings. The statement over the values of two sheets is in crate runs, specs/LightCone.antt; here the sheets are their
-- bytes, the questions are those that `answer` asks, and the ends are its replies and what is printed.
use Rattle.std.specs.Prelude.{ℕ, ◌≡◌, List, [], ◌∷◌, ◌++◌, set}
use Rattle.text.specs.Bytes.{bytes, parts, newline}
use Rattle.ops.specs.Task.{Task}
use Rattle.cones.specs.LightCone.{Equal, Which, one, another, Way, as_full, as_cone, pick, Agree, Demand}
use Rattle.layout.specs.Layout.{head_of}
use Rattle.replies.specs.declared.Reply.{Reply}
use Rattle.replies.specs.Printed.{printed}
use Rattle.questions.specs.Verdict.{Passed}
use Rattle.questions.specs.Questions.{verdict}
use Rattle.sheet.specs.Answer.{task_of, reply, reply_of}

-- ---- "Demand 3 takes each of its sheets as `run=full` and as `run=cone`, the other lines as they are"
abbrev pub run_line : Way → List ℕ
run_line as_full = bytes "run=full"
run_line as_cone = bytes "run=cone"

-- lines with byte 10 between them
unfoldable pub rejoined : List (List ℕ) → List ℕ
rejoined [] = []
rejoined (p ∷ []) = p
rejoined (p ∷ q ∷ ps) = p ++ (newline ∷ rejoined (q ∷ ps))

-- the bytes of a sheet with another second line
abbrev pub bytes_as : Way → List ℕ → List ℕ
bytes_as v s = rejoined (set (parts newline s) 1 (run_line v))

abbrev pub these : Which → List ℕ → List ℕ → List ℕ
these one s u = s
these another s u = u

-- "and the sheet passes both ways": questions 1 to 7 and 11, with so many rows and mean places lent
abbrev pub PassesIn : List ℕ → ℕ → ℕ → Type 0
PassesIn s rows places = let ls = parts newline s in verdict (head_of ls) ls rows places ≡ Passed

-- the values of a sheet
abbrev pub task_of_bytes : List ℕ → Task
task_of_bytes s = let ls = parts newline s in task_of (head_of ls) ls

-- ---- "end in the same refusal, number and line, or all succeed with numerically equal means and discarded weights and equal peaks"
-- (the status of success is 0, of a refusal its number, and a refusal's results are zeros); "Full and cone runs must agree in it too": `touched`
pub record SameReply (r s : Reply) : Type 0 where
  pub status : r.status ≡ s.status
  pub line : r.line ≡ s.line
  pub mean : Equal r.mean s.mean
  pub discarded : Equal r.discarded s.discarded
  pub peak_terms : r.peak_terms ≡ s.peak_terms
  pub touched : r.touched ≡ s.touched

-- .. and so on the bench's screen: all that is printed but t_count, which counts "in the whole list"
abbrev pub uncounted : Reply → Reply
uncounted r = reply r.status r.line r.mean r.shown 0 r.peak_terms r.touched r.discarded r.means

-- ---- both conclusions, of two sheets, as `full` and as `cone`, with the rows and mean places lent to each of the four runs
pub record DemandOfBytes (s u : List ℕ) (rows places : Which → Way → ℕ) : Type 0 where
  pub same_reply : (i j : Which) (v w : Way)
      → SameReply (reply_of (bytes_as v (these i s u)) (rows i v) (places i v)) (reply_of (bytes_as w (these j s u)) (rows j w) (places j w))
  pub same_printed : (i j : Which) (v w : Way)
      → printed (uncounted (reply_of (bytes_as v (these i s u)) (rows i v) (places i v))) [] ≡ printed (uncounted (reply_of (bytes_as w (these j s u)) (rows j w) (places j w))) []
  -- the values are the same both ways, and of their runs all holds that crate runs states: the same end, and at every turn of an unmarked op
  -- identities only
  pub same_task : (i : Which) (v : Way) → task_of_bytes (bytes_as v (these i s u)) ≡ pick i (task_of_bytes (bytes_as as_full s)) (task_of_bytes (bytes_as as_full u))
  pub demand : Demand (task_of_bytes (bytes_as as_full s)) (task_of_bytes (bytes_as as_full u))

-- "for every two .. sheets that pass every question put before the run, .. agreeing in .."
abbrev pub Demand3OfBytes : Type 0
Demand3OfBytes = (s u : List ℕ) (rows places : Which → Way → ℕ)
    → ((i : Which) (v : Way) → PassesIn (bytes_as v (these i s u)) (rows i v) (places i v))
    → Agree (task_of_bytes (bytes_as as_full s)) (task_of_bytes (bytes_as as_full u))
    → DemandOfBytes s u rows places
