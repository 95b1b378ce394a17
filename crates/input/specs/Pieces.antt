-- An input that is read piece by piece into a buffer.
use Rattle.std.specs.Prelude.{ℕ, ◌≡◌, ◌+◌, ◌≤◌, List, length, take, drop, ⊤, None, Some, Ok, Err}
use Rattle.std.specs.Io.KnownBytes.{Consumes, IsAtEnd}
use Rattle.std.specs.declared.option.Option.{Option}
use Rattle.std.specs.declared.result.Result.{Result}

-- an input lies in the buffer
abbrev pub Held : {E : Type 0} → List ℕ → Result ℕ E → Type 0
Held xs (Ok n) = n ≤ length xs
Held xs (Err e) = ⊤

-- What one read took of the bytes that the reader had left, where those are known (`old` and `new`): as many as it answered, which lie in the buffer
-- from `at` on; and none only at the end. Of a read that failed nothing is asked.
abbrev pub Took : {E : Type 0} → Option (List ℕ) → Option (List ℕ) → Result ℕ E → ℕ → List ℕ → Type 0
Took old new (Ok k) at xs = (at + k ≤ length xs) × (Consumes old new (take k (drop at xs)) × (k ≡ 0 → IsAtEnd new))
Took old new (Err e) at xs = ⊤

-- The buffer holds what the reader had left, from its first byte on and as far as the buffer takes it, and the reader has the rest. Where a read failed
-- nothing is said.
abbrev pub HoldsFront : {E : Type 0} → Option (List ℕ) → Option (List ℕ) → List ℕ → Result ℕ E → Type 0
HoldsFront None new xs r = ⊤
HoldsFront (Some s) new xs (Ok n) = (take n xs ≡ take (length xs) s) × (new ≡ Some (drop (length xs) s))
HoldsFront (Some s) new xs (Err e) = ⊤
