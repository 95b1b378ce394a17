-- Worked sheets of 2026-01: what is printed now, and what was printed before.
use Prim.Native.Nat.{ℕ, zero, suc}
use Prim.Native.String as string
use mathlib.Core.Path.{◌≡◌, refl}
use mathlib.Core.List.{List, [], ◌∷◌}
use Rattle.replies.specs.Printed.{printed}
use Rattle.sheet.specs.Answer.{refusal, printed_of}
use Rattle.sheet.proofs.Cases.{computed, text}
use Rattle.changes.specs.Compared.{printed_before}
use Rattle.changes.specs.TopLine.{one_by_one, top_line}

-- a line, n times
abbrev times : ℕ → string.String → List string.String → List string.String
times zero l ls = ls
times (suc n) l ls = l ∷ times n l ls

-- a sheet of 30 lines with two terms and 21 ops: what stands on its lines 8 and 30
abbrev sheet : string.String → string.String → List ℕ
sheet eighth last =
    text ("qubits=2" ∷ "run=full" ∷ "epsilon=0000000000000000" ∷ "max_terms=0" ∷ "limit=8" ∷ "terms=2" ∷ "term=3ff0000000000000:Z0" ∷ eighth ∷ "ops=21" ∷ times 20 "op=h:1" (last ∷ []))

-- printed before, and printed now, with the rows and mean places of `bench`
abbrev before : List ℕ → ℕ → ℕ → Type 0
before s n k = printed_before top_line s 512 256 ≡ printed (refusal n k) []

abbrev now : List ℕ → ℕ → ℕ → Type 0
now s n k = printed_of s 512 256 ≡ printed (refusal n k) []

-- a repeat on line 8, an outside qubit on line 30
pub changed : before (sheet "term=3ff0000000000000:X0,Y0" "op=h:2") 5 30 × now (sheet "term=3ff0000000000000:X0,Y0" "op=h:2") 6 8
unfolding computed one_by_one printed_before
changed = (refl, refl)

-- a repeat and then an outside qubit on line 8
pub one_line : before (sheet "term=3ff0000000000000:X0,Y0,Z2" "op=h:1") 5 8 × now (sheet "term=3ff0000000000000:X0,Y0,Z2" "op=h:1") 5 8
unfolding computed one_by_one printed_before
one_line = (refl, refl)

-- an outside qubit on line 8, a repeat on line 30
pub outside_first : before (sheet "term=3ff0000000000000:X2" "op=cx:1,1") 5 8 × now (sheet "term=3ff0000000000000:X2" "op=cx:1,1") 5 8
unfolding computed one_by_one printed_before
outside_first = (refl, refl)

-- a repeat alone
pub repeat_alone : before (sheet "term=3ff0000000000000:X0" "op=cx:1,1") 6 30 × now (sheet "term=3ff0000000000000:X0" "op=cx:1,1") 6 30
unfolding computed one_by_one printed_before
repeat_alone = (refl, refl)
