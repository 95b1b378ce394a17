-- The numbers of the questions that refuse a sheet or a run, as the documents count them.
use Rattle.std.specs.Prelude.{ℕ}
use Rattle.ops.specs.declared.Refusal.{Refusal}
use Rattle.ops.specs.declared.Refusal.TheVariants.{Layout, Counts, RunLines, Reals, Qubits, Repeats, Room, NotFinite, TooMany, Angles}

-- 1. of the layout; 2. "Are qubits 1 to 256, limit 1 to 1,048,576 ..?"; 3. "Does `cone` have one term of weight 1.0 ..?"; 4. "Are epsilon finite and at
-- least 0 ..?"; 5. "Is every qubit below qubits?"; 6. "Are .. the two targets of one op, distinct?"; 7. "Are there at least 2 × limit rows ..?"; 8. of
-- numbers that are not finite; 9. of more terms than limit; 11. "The trade now takes a pair as a rotation only if ..".
abbrev pub number_of : Refusal → ℕ
number_of Layout = 1
number_of Counts = 2
number_of RunLines = 3
number_of Reals = 4
number_of Qubits = 5
number_of Repeats = 6
number_of Room = 7
number_of NotFinite = 8
number_of TooMany = 9
number_of Angles = 11
