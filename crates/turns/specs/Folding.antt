-- What the answers of the fold stand for.
use Rattle.std.specs.Prelude.{◌≡◌, ℕ, ◌+◌, ◌*◌, ◌/◌, ◌≤◌, max, Bool, false, ◌&&◌, List, [], ltb, eqb, length, Float, Result, Ok, Err}
use Rattle.std.specs.Float.{binary64}
use Rattle.std.specs.Float.Ieee.{add, mul}
use Rattle.numbers.specs.Tests.{abs_of}
use Rattle.words.specs.Keys.{width_of}
use Rattle.rows.specs.declared.Rows.{Rows}
use Rattle.rows.specs.Rows.{rows_in, Holds}
use Rattle.rows.specs.Lent.{OnRows}
use Rattle.ops.specs.declared.Limits.{Limits}
use Rattle.ops.specs.declared.Op.{Op}
use Rattle.ops.specs.declared.Refusal.{Refusal}
use Rattle.ops.specs.Refusals.{number_of}
use Rattle.turns.specs.declared.Finished.{Finished}
use Rattle.dynamics.specs.Turn.{Stage, refused, going, Outcome, outcome}
use Rattle.turns.specs.Told.{tally}
use Rattle.turns.specs.declared.fold.Totals.{Totals}

-- the totals, as an outcome
abbrev pub held : Totals → Outcome
held a = outcome [] a.mean [] a.tally.peak a.tally.discarded a.tally.touched

abbrev pub held_in : Result Totals Refusal → Stage Outcome
held_in (Err e) = refused (number_of e)
held_in (Ok a) = going (held a)

-- the totals with one line's end
abbrev pub added : Totals → Float → Finished → Totals
added a weight f = record {
  mean = add binary64 a.mean (mul binary64 weight f.mean);
  tally = tally (max a.tally.peak f.tally.peak) (add binary64 a.tally.discarded (mul binary64 (abs_of weight) f.tally.discarded)) (a.tally.touched + f.tally.touched);
}

-- whether a sum of k lines is folded
abbrev pub meets_nine : ℕ → Result Finished Refusal → Bool
meets_nine k (Err e) = eqb (number_of e) 9 && ltb 1 k
meets_nine k (Ok f) = false

-- a table has its lines, at most limit, there are rows for twice limit, and what the ops meet is counted in 64 bits
pub record SumReady (qubits : ℕ) (l : Limits) (keys : List ℕ) (weights : List Float) (ops : List Op) (ws : List ℕ) (cs : List Float) : Type 0 where
  pub few : length weights ≤ l.limit
  pub there : length weights ≤ length keys / (2 * width_of qubits)
  pub room : 2 * l.limit ≤ rows_in (width_of qubits) ws cs
  pub some : 1 ≤ l.limit
  pub low : l.limit ≤ 1048576
  pub short : length ops ≤ 4096

-- totals, told by an answer; the first 2 * limit rows may hold anything, and past them all is as it was
pub record Folds (w : ℕ) (l : Limits) (r : Result Totals Refusal) (ws₀ ws : List ℕ) (cs₀ cs : List Float) (s : Stage Outcome) : Type 0 where
  pub totals : held_in r ≡ s
  pub rows : Holds (2 * w) (2 * l.limit) 0 [] ws₀ ws cs₀ cs

-- the same of lent rows, of the circuit's width
pub record RowsSumReady (qubits : ℕ) (l : Limits) (keys : List ℕ) (weights : List Float) (ops : List Op) (r : Rows) : Type 0 where
  pub width : r.w ≡ width_of qubits
  pub ready : SumReady qubits l keys weights ops r.words.now r.coeffs.now

abbrev pub RowsFold : Limits → Result Totals Refusal → Stage Outcome → Rows → Rows → Type 0
RowsFold l a s r = OnRows (λ ws ws' cs cs'. Folds r.w l a ws ws' cs cs' s) r
