-- What a run reads from an input and writes on two outputs, where it is known what the reader had left and what the writers hold, before and after.
use Rattle.std.specs.Prelude.{◌≡◌, ℕ, Bool, true, false, List, length, take, drop, ⊤, None, Some, Ok, Err}
use Rattle.std.specs.Io.KnownBytes.{Appends, Keeps}
use Rattle.std.specs.declared.option.Option.{Option}
use Rattle.std.specs.declared.result.Result.{Result}
use Rattle.text.specs.Bytes.{bytes}
use Rattle.sheet.specs.Screen.{bench}
use Rattle.console.specs.declared.Told.{Told}
use Rattle.console.specs.declared.Undelivered.{Undelivered}
use Rattle.console.specs.declared.Undelivered.TheVariants.{Unread, Unwritten}

-- xs is the whole input, where it is known
abbrev pub IsInput : Option (List ℕ) → List ℕ → Type 0
IsInput None xs = ⊤
IsInput (Some s) xs = xs ≡ s

-- the text for the input is the text for what the buffer holds of it, and the reader has what is left after the buffer
abbrev pub Fed : {E : Type 0} → Option (List ℕ) → Option (List ℕ) → List ℕ → Result Told E → Type 0
Fed None new buf t = ⊤
Fed (Some s) new buf (Ok t) = (bench (take t.read buf) ≡ bench s) × (new ≡ Some (drop (length buf) s))
Fed (Some s) new buf (Err e) = ⊤

-- a front part of the text was written, and nothing else
abbrev pub AppendsFront : Option (List ℕ) → Option (List ℕ) → List ℕ → Type 0
AppendsFront old new text = (n : ℕ) × Appends old new (take n text)

-- the whole text was written, or a front part of it
abbrev pub WritesText : Option (List ℕ) → Option (List ℕ) → List ℕ → Bool → Type 0
WritesText old new text true = Appends old new text
WritesText old new text false = AppendsFront old new text

-- What a run leaves of the input `i`, on the output `o` and on the output `e` for what went wrong.
--   Ok          the whole text of `bench` for the input is written, and nothing else anywhere
--   Unwritten   the output took a front part of that text alone: the other took the line about it, or a front part
--   Unread      the input could not be read: nothing is written on the output, and the other took the line about it, or a front part
abbrev pub Delivers : Option (List ℕ) → Option (List ℕ) → Option (List ℕ) → Option (List ℕ) → Option (List ℕ) → Result Unit Undelivered → Type 0
Delivers i o o' e e' (Ok u) = (xs : List ℕ) × IsInput i xs × Appends o o' (bench xs) × Keeps e e'
Delivers i o o' e e' (Err (Unwritten told)) = (xs : List ℕ) × IsInput i xs × AppendsFront o o' (bench xs) × WritesText e e' (bytes "bench: the answer could not be written\n") told
Delivers i o o' e e' (Err (Unread told)) = Keeps o o' × WritesText e e' (bytes "bench: the input could not be read\n") told

-- the reader has lost what the buffer takes
abbrev pub LosesFront : Option (List ℕ) → Option (List ℕ) → Type 0
LosesFront None i' = ⊤
LosesFront (Some s) i' = i' ≡ Some (drop 65537 s)

-- .. where it could be read
abbrev pub LeavesInput : Option (List ℕ) → Option (List ℕ) → Result Unit Undelivered → Type 0
LeavesInput i i' (Ok u) = LosesFront i i'
LeavesInput i i' (Err (Unwritten told)) = LosesFront i i'
LeavesInput i i' (Err (Unread told)) = ⊤
