-- Worked values of the wide run: channels that are skipped, a line that cancels, a fold, a start that is not finite, and why the proviso is there. Assumes nothing.
use Prim.Native.Nat.{ℕ}
use mathlib.Core.Path.{◌≡◌, refl}
use mathlib.Core.Bool.{true, false}
use mathlib.Core.List.{List, [], ◌∷◌}
use Rattle.numbers.specs.Constants.{one64, minus_one64}
use Rattle.words.specs.declared.Gate.TheVariants.{H, Cx}
use Rattle.ops.specs.declared.Op.TheVariants.{Native, T, Damp, Barrier}
use Rattle.dynamics.specs.Turn.{Stage, refused, going, Outcome}
use Rattle.ops.specs.declared.Run.TheVariants.{Path, Wide}
use Rattle.ops.specs.Task.{Task, passes}
use Rattle.dynamics.specs.Outcome.{all_letters, wide_marks, outcome_of}
use Rattle.cones.proofs.Cases.{computed, real, word, line, limits, task, usual}

-- a refusal's number; or 0, the peak and the terms met
abbrev told : Stage Outcome → List ℕ
told (refused n) = n ∷ []
told (going o) = 0 ∷ o.peak ∷ o.touched ∷ []

-- three qubits, Z0 and Z1, noise on each: the damp on 2 and the barrier are skipped. cx meets both rows and makes Z0,Z1 of Z0, which damp meets; its
-- identity branch is the row Z1
abbrev noisy : Task
noisy = task 3 (usual 8) (line (word 0 1) one64 ∷ line (word 0 2) one64 ∷ []) (Damp 0 one64 ∷ Barrier ∷ Damp 2 one64 ∷ Native Cx 1 0 ∷ [])

pub noisy_marks : wide_marks noisy ≡ true ∷ false ∷ false ∷ true ∷ []
unfolding computed all_letters
noisy_marks = refl

pub noisy_wide : (passes Path noisy ≡ true) × (outcome_of Wide noisy ≡ outcome_of Path noisy) × (told (outcome_of Wide noisy) ≡ 0 ∷ 2 ∷ 3 ∷ [])
unfolding computed all_letters
noisy_wide = (refl, refl, refl)

-- Z0 with weights 1 and -1, and Z1: the lines of Z0 cancel, and qubit 0 is in the cone. Damp meets the row that is left of them, of coefficient 0
abbrev cancelled : Task
cancelled = task 3 (usual 8) (line (word 0 1) one64 ∷ line (word 0 2) one64 ∷ line (word 0 1) minus_one64 ∷ []) (Damp 0 one64 ∷ Damp 2 one64 ∷ [])

pub cancelled_marks : wide_marks cancelled ≡ true ∷ false ∷ []
unfolding computed all_letters
cancelled_marks = refl

pub cancelled_wide : (passes Path cancelled ≡ true) × (outcome_of Wide cancelled ≡ outcome_of Path cancelled) × (told (outcome_of Wide cancelled) ≡ 0 ∷ 3 ∷ 1 ∷ [])
unfolding computed all_letters
cancelled_wide = (refl, refl, refl)

-- the fold of case I, with a channel outside the cone: the lines run under the marks of both, so h on 1 is marked for the line X0 too
abbrev folded : Task
folded = task 3 (usual 2) (line (word 1 0) one64 ∷ line (word 2 0) one64 ∷ []) (T 0 ∷ Damp 2 one64 ∷ Native H 1 0 ∷ [])

pub folded_marks : wide_marks folded ≡ true ∷ false ∷ true ∷ []
unfolding computed all_letters
folded_marks = refl

pub folded_wide : (passes Path folded ≡ true) × (outcome_of Wide folded ≡ outcome_of Path folded) × (told (outcome_of Wide folded) ≡ 0 ∷ 2 ∷ 2 ∷ [])
unfolding computed all_letters
folded_wide = (refl, refl, refl)

-- two lines whose merged weight is not finite, and an op outside the cone: `path` meets 8 after it, `wide` at the end
abbrev huge : Task
huge = task 2 (usual 8) (line (word 1 0) (real 0x7fef_ffff_ffff_ffff) ∷ line (word 1 0) (real 0x7fef_ffff_ffff_ffff) ∷ []) (Native H 1 0 ∷ [])

pub huge_both : (outcome_of Path huge ≡ refused 8) × (outcome_of Wide huge ≡ refused 8)
unfolding computed all_letters
huge_both = (refl, refl)

-- "provided max_terms is 0 or at least the number of merged starting terms": X0 of weight 0.5 and X1, max_terms 1. In `path` the h on 2, which meets nothing,
-- has the smaller term dropped before t meets it; `wide` skips that op
abbrev crowded_start : Task
crowded_start = task 3 (limits (real 0x3fe8_0000_0000_0000) 1 8) (line (word 1 0) (real 0x3fe0_0000_0000_0000) ∷ line (word 2 0) one64 ∷ []) (T 0 ∷ Native H 2 0 ∷ [])

pub proviso_needed : (passes Path crowded_start ≡ true) × (told (outcome_of Path crowded_start) ≡ 0 ∷ 2 ∷ 0 ∷ []) × (told (outcome_of Wide crowded_start) ≡ 0 ∷ 2 ∷ 1 ∷ [])
unfolding computed all_letters
proviso_needed = (refl, refl, refl)
