-- The rows before i are times the factors of their keys, and the words are as they were.
use Rattle.std.proofs.Common.{◌≡◌, ℕ, ◌*◌, ◌<◌, ◌≤◌, Option, Float}
use Rattle.std.specs.Fn.{FnReturnsAt}
use Rattle.words.specs.Keys.{Key}
use Rattle.terms.specs.Lists.{map_to}
use Rattle.rows.specs.Rows.{Holds}
use Rattle.rows.specs.Lent.{row_key, row_terms, SameRows}
use Rattle.branches.specs.Scaling.{scaled_at}
use Rattle.branches.proofs.scaling.scale_rows.Given as goal

abbrev pub invariant-loop-i : goal.invariant-loop-i
invariant-loop-i g l =
    let s = l.fn.rows in
    (l.i ≤ l.n) × SameRows s l.rows × (l.rows.words.now ≡ s.words.now)
    × ((f : Key → Option Float)
    → ((i : ℕ) (r : Option Float) → i < l.n → FnReturnsAt g.F.Fn l.factor (row_key s i) r → r ≡ f (row_key s i))
    → Holds (2 * s.w) l.n l.n (map_to (scaled_at f) l.i (row_terms s l.n)) s.words.now l.rows.words.now s.coeffs.now l.rows.coeffs.now)
