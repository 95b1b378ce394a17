-- The factors that are left, placed in the key so far, give what all factors give.
use Rattle.std.proofs.Common.{◌≡◌, length, drop}
use Rattle.std.specs.Prelude.{map}
use Rattle.text.specs.Bytes.{after, colon}
use Rattle.terms.specs.Lists.{foldl}
use Rattle.lines.specs.TermLines.{factor_texts, factor_of, factors_on, placed}
use Rattle.lines.proofs.termlines.place_factors.Given as goal

abbrev pub invariant-loop-p : goal.invariant-loop-p
invariant-loop-p l = foldl (placed l.w) l.key (map factor_of (drop (length l.yielded) (factor_texts (after colon (drop 5 l.l))))) ≡ foldl (placed l.w) l.fn.key (factors_on l.l)
