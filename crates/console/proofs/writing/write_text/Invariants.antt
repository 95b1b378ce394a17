-- What was written so far is the text as far as `at`.
use Rattle.std.proofs.Common.{◌≤◌, length, take}
use Rattle.std.specs.Io.KnownBytes.{Appends}
use Rattle.console.proofs.writing.write_text.Given as goal

abbrev pub invariant-loop : goal.invariant-loop
invariant-loop g l = (l.at ≤ length l.text) × Appends (g.W.Write.contents l.fn.to) (g.W.Write.contents l.to) (take l.at l.text)
