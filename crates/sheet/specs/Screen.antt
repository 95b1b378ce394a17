-- What the program `bench` prints for the bytes of its input. "Program `bench` reads a sheet of at most 65,536 bytes on standard input (longer:
-- status 1, line 0) with 512 rows and 256 mean places."
use Rattle.std.specs.Prelude.{ℕ, cond, List, [], ltb, length}
use Rattle.replies.specs.Printed.{printed}
use Rattle.sheet.specs.Answer.{refusal, printed_of}

unfoldable pub bench : List ℕ → List ℕ
unfolding printed printed_of
bench s = cond (ltb 65536 (length s)) (printed (refusal 1 0) []) (printed_of s 512 256)
