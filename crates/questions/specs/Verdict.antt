-- What the questions answer: the number of the first that fails, and its line; or that none does.
use Rattle.std.specs.Prelude.{ℕ, Option, None, Some, Result, Ok, Err}
use Rattle.ops.specs.declared.Refusal.{Refusal}
use Rattle.ops.specs.Refusals.{number_of}
use Rattle.questions.specs.declared.Refused.{Refused}

pub data Verdict : Type 0 where
  RefusedAt : ℕ → ℕ → Verdict
  Passed : Verdict

-- the answers of the code: each refusal has its number, and no two have the same
abbrev pub verdict_of : Result (Unit {0}) Refused → Verdict
verdict_of (Ok u) = Passed
verdict_of (Err r) = RefusedAt (number_of r.by) r.line

abbrev pub number_in : Option Refusal → Option ℕ
number_in None = None
number_in (Some r) = Some (number_of r)
