-- What is told of an input: the text is that of the bytes that were read, and of no others.
use Rattle.std.specs.Prelude.{◌≡◌, ℕ, ◌≤◌, List, length, take, ⊤, Ok, Err}
use Rattle.sheet.specs.Screen.{bench}
use Rattle.console.specs.declared.Told.{Told}
use Rattle.std.specs.declared.result.Result.{Result}

-- k bytes of the buffer were read, and the first n of the text are what the bench shows for them
pub record Shown (k n : ℕ) (buf text : List ℕ) : Type 0 where
  pub read : k ≤ length buf
  pub whole : n ≤ length text
  pub shown : take n text ≡ bench (take k buf)

abbrev pub Says : {E : Type 0} → List ℕ → List ℕ → Result Told E → Type 0
Says buf text (Ok t) = Shown t.read t.written buf text
Says buf text (Err e) = ⊤
