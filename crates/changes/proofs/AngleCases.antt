-- Worked sheets of 2026-06: what is printed now, and what was printed before.
use Prim.Native.Nat.{ℕ}
use Prim.Native.String as string
use mathlib.Core.Path.{◌≡◌, refl}
use mathlib.Core.List.{List, [], ◌∷◌}
use Rattle.replies.specs.Printed.{printed}
use Rattle.sheet.specs.Answer.{refusal, printed_of}
use Rattle.sheet.proofs.Cases.{computed, text}
use Rattle.changes.specs.Compared.{printed_before}
use Rattle.changes.specs.NoAngle.{unasked, no_angle}

-- case A with another weight and a rotation in place of t
abbrev sheet : string.String → string.String → List ℕ
sheet term rotation =
    text ("qubits=1" ∷ "run=full" ∷ "epsilon=0000000000000000" ∷ "max_terms=0" ∷ "limit=8" ∷ "terms=1" ∷ term ∷ "ops=2" ∷ "op=h:0" ∷ rotation ∷ [])

abbrev before : List ℕ → List ℕ → Type 0
before s p = printed_before no_angle s 512 256 ≡ p

abbrev now : List ℕ → List ℕ → Type 0
now s p = printed_of s 512 256 ≡ p

-- "A sheet builder sent sine 1 with cosine 1"
pub changed : before (sheet "term=3ff0000000000000:X0" "op=rz:0:3ff0000000000000,3ff0000000000000")
    (text ("status=0" ∷ "line=0" ∷ "mean=3ff0000000000000" ∷ "shown=1000" ∷ "t_count=1" ∷ "peak_terms=2" ∷ "touched=3" ∷ "discarded=0000000000000000" ∷ []))
    × now (sheet "term=3ff0000000000000:X0" "op=rz:0:3ff0000000000000,3ff0000000000000") (printed (refusal 11 10) [])
unfolding computed unasked printed_before
changed = (refl, refl)

-- a weight that 4 refuses
pub earlier_stays : before (sheet "term=7ff8000000000000:X0" "op=rz:0:3ff0000000000000,3ff0000000000000") (printed (refusal 4 7) [])
    × now (sheet "term=7ff8000000000000:X0" "op=rz:0:3ff0000000000000,3ff0000000000000") (printed (refusal 4 7) [])
unfolding computed unasked printed_before
earlier_stays = (refl, refl)

-- a qubit outside: 11 comes before 5
pub before_five : before (sheet "term=3ff0000000000000:X1" "op=rz:0:3ff0000000000000,3ff0000000000000") (printed (refusal 5 7) [])
    × now (sheet "term=3ff0000000000000:X1" "op=rz:0:3ff0000000000000,3ff0000000000000") (printed (refusal 11 10) [])
unfolding computed unasked printed_before
before_five = (refl, refl)
