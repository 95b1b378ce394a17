-- The contract of the exported function: the printed text and all lent memory.
use Rattle.std.specs.Prelude.{ℕ, List, length, Float}
use Rattle.words.specs.Keys.{width_of}
use Rattle.rows.specs.Rows.{rows_in}
use Rattle.text.specs.Bytes.{parts, newline}
use Rattle.layout.specs.Layout.{head_of}
use Rattle.replies.specs.Written.{Printing}
use Rattle.questions.specs.Questions.{verdict}
use Rattle.sheet.specs.Answer.{printed_of, LeavesBy}

-- s is the sheet, r the answer; the rows, mean places and index are as after the sheet's own answer (`Answered`)
pub record Embedded (s : List ℕ) (r : ℕ) (ws ws' : List ℕ) (cs cs' ms ms' : List Float) (ix ix' out out' : List ℕ) : Type 0 where
  pub text : Printing (printed_of s (rows_in (width_of (head_of (parts newline s)).qubits) ws cs) (length ms)) r out out'
  pub memory : let ls = parts newline s in let h = head_of ls in LeavesBy h ls (verdict h ls (rows_in (width_of h.qubits) ws cs) (length ms)) ws ws' cs cs' ms ms' ix ix'
