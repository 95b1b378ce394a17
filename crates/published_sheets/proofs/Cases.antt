-- From the bytes of a sheet: an instance in both forms, and cases A to J of document 01 over the published definitions.
use Prim.Native.Nat.{ℕ}
use mathlib.Core.Path.{◌≡◌, refl}
use mathlib.Core.List.{List, [], ◌∷◌, map}
use lib.ListN.{replicate}
use lib.Ieee.{Float, neg}
use Rattle.numbers.specs.Constants.{zero64, one64}
use Rattle.terms.specs.Lists.{tab}
use Rattle.terms.specs.Term.{term}
use Rattle.rows.specs.Rows.{keys_of, coeffs_of, words_with, coeffs_with}
use Rattle.turns.specs.SumRuns.{left_by}
use Rattle.ops.specs.Task.{Task, width}
use Rattle.dynamics.specs.Outcome as R
use Rattle.cones.proofs.Cases.{real, word}
use Rattle.published.specs.Complex.{complex}
use Rattle.published.specs.Term as CT
use Rattle.published.specs.Outcome as CQ
use Rattle.published.proofs.Cases as C
use Rattle.text.specs.Bytes.{parts, newline}
use Rattle.layout.specs.Layout.{head_of}
use Rattle.sheet.specs.Answer as A
use Rattle.sheet.specs.Answer.{Answered}
use Rattle.sheet.proofs.Cases as T
use Rattle.sheet.proofs.Cases.{text, cases}
use Rattle.published_sheets.specs.Answer as P
use Rattle.published_sheets.specs.Answer.{rows_read, zero_row, AsPublished}
use Rattle.published_sheets.proofs.Answers.{answers_as_published}

-- opens the definitions that the instance computes
unfoldable computed : Unit {0}
unfolding T.computed C.computed neg tab keys_of coeffs_of words_with coeffs_with P.printed_of
computed = tt

-- ---- Y with weight 1 and X with weight a half, through s and then h: s takes Y to X, and X to -Y; h takes X to Z, and -Y to Y
abbrev sheet : List ℕ
sheet = text ("qubits=1" ∷ "run=full" ∷ "epsilon=0000000000000000" ∷ "max_terms=0" ∷ "limit=2" ∷ "terms=2" ∷ "term=3ff0000000000000:Y0" ∷ "term=3fe0000000000000:X0" ∷
    "ops=2" ∷ "op=h:0" ∷ "op=s:0" ∷ [])

abbrev lines : List (List ℕ)
lines = parts newline sheet

abbrev task : Task
task = A.task_of (head_of lines) lines

abbrev half : Float
half = real 0x3fe0_0000_0000_0000

-- the start: Y is i XZ, whose row stores the imaginary part
published_start : CQ.start_of (width task) task.lines ≡ CT.term (word 1 1) (complex zero64 one64) ∷ CT.term (word 1 0) (complex half zero64) ∷ []
unfolding computed
published_start = refl

stored_start : R.start_of (width task) task.lines ≡ term (word 1 1) one64 ∷ term (word 1 0) half ∷ []
unfolding computed
stored_start = refl

-- the end; the published form has a zero with either sign
published_end : P.left_by (P.run_of (head_of lines) lines) ≡ CT.term (word 0 1) (complex one64 (neg zero64)) ∷ CT.term (word 1 1) (complex (neg zero64) half) ∷ []
unfolding computed
published_end = refl

stored_end : left_by (A.run_of (head_of lines) lines) ≡ term (word 0 1) one64 ∷ term (word 1 1) half ∷ []
unfolding computed
stored_end = refl

-- four rows lent, of which each word is 7 and each number 1: what `answer` leaves in them, and what is read there
abbrev words : List ℕ
words = words_with 1 4 (left_by (A.run_of (head_of lines) lines)) (replicate 8 7)

abbrev numbers : List Float
numbers = coeffs_with 4 (left_by (A.run_of (head_of lines) lines)) (replicate 4 one64)

left_words : words ≡ 0 ∷ 1 ∷ 1 ∷ 1 ∷ 0 ∷ 0 ∷ 0 ∷ 0 ∷ []
unfolding computed
left_words = refl

left_numbers : numbers ≡ one64 ∷ half ∷ zero64 ∷ zero64 ∷ []
unfolding computed
left_numbers = refl

read_back : rows_read 1 4 words numbers ≡ CT.term (word 0 1) (complex one64 zero64) ∷ CT.term (word 1 1) (complex zero64 half) ∷ zero_row 1 ∷ zero_row 1 ∷ []
unfolding computed
read_back = refl

-- so the contract of `answer` holds of these rows, and all that follows from it
answered : Answered sheet (A.reply_of sheet 4 0) (replicate 8 7) words (replicate 4 one64) numbers [] [] [] []
unfolding computed A.reply_of
answered = record { reply = refl; memory = record { words = refl; coeffs = refl; means = refl; index = refl } }

as_published : AsPublished sheet (A.reply_of sheet 4 0) (replicate 8 7) words (replicate 4 one64) numbers [] [] [] []
as_published = answers_as_published.called sheet (A.reply_of sheet 4 0) (replicate 8 7) words (replicate 4 one64) numbers [] [] [] [] answered

printed_text : P.printed_of sheet 4 0
    ≡ text ("status=0" ∷ "line=0" ∷ "mean=3ff0000000000000" ∷ "shown=1000" ∷ "t_count=0" ∷ "peak_terms=2" ∷ "touched=4" ∷ "discarded=0000000000000000" ∷ [])
unfolding computed
printed_text = refl

-- ---- "A to J are proved together as one table over the definitions": here over the published ones, with the rows and mean places of `bench`
pub table : map (λ r. P.printed_of r.sheet 512 256) cases ≡ map (λ r. r.printed) cases
unfolding computed
table = refl
