-- What the answers of private functions and the rows tell of a run.
use Rattle.std.specs.Prelude.{◌≡◌, Bool, cond, ◌&&◌, List, [], ◌∷◌, ℕ, ◌*◌, ◌≤◌, max, eqb, leb, length, Float, Option, Some, option_map, Result, Ok, Err, IfOk}
use Rattle.std.specs.List.{find}
use Rattle.terms.specs.Term.{Term, Distinct}
use Rattle.numbers.specs.Tests.{is_finite}
use Rattle.rows.specs.declared.Rows.{Rows}
use Rattle.rows.specs.Rows.{terms_in, rows_in, Holds}
use Rattle.rows.specs.Lent.{OnRows}
use Rattle.sums.specs.Steps.{finite_rows}
use Rattle.ops.specs.declared.Limits.{Limits}
use Rattle.ops.specs.declared.Op.{Op}
use Rattle.ops.specs.declared.Refusal.{Refusal}
use Rattle.ops.specs.declared.Refusal.TheVariants.{Layout, Counts, RunLines, Reals, Qubits, Repeats, Room, NotFinite, TooMany, Angles}
use Rattle.ops.specs.Refusals.{number_of}
use Rattle.turns.specs.declared.Tally.{Tally}
use Rattle.turns.specs.declared.Progress.{Progress}
use Rattle.turns.specs.declared.Finished.{Finished}
use Rattle.turns.specs.SumRuns.{left_by, told_by, results_of}
use Rattle.dynamics.specs.Turn.{Stage, refused, going, State, state, checked, Outcome}

-- ---- the answers that stand for a stage

abbrev pub tally : ℕ → Float → ℕ → Tally
tally p d n = record { peak = p; discarded = d; touched = n }

abbrev pub progress_of : State → Progress
progress_of s = record { count = length s.terms; tally = tally s.peak s.discarded s.touched }

-- every refusal
abbrev pub refusals : List Refusal
refusals = Layout ∷ Counts ∷ RunLines ∷ Reals ∷ Qubits ∷ Repeats ∷ Room ∷ NotFinite ∷ TooMany ∷ Angles ∷ []

-- the refusal that has a number; None where no question has it
abbrev pub refusal_of : ℕ → Option Refusal
refusal_of n = find (λ e. eqb (number_of e) n) refusals

-- the answer of a stage; for a number that no question has there is none
abbrev pub turned_of : Stage State → Option (Result Progress Refusal)
turned_of (refused n) = option_map Err (refusal_of n)
turned_of (going s) = Some (Ok (progress_of s))

abbrev pub ending_of : Stage Outcome → Option (Result Finished Refusal)
ending_of (refused n) = option_map Err (refusal_of n)
ending_of (going o) = Some (Ok (record { mean = o.mean; count = length o.terms; tally = tally o.peak o.discarded o.touched }))

-- the terms that a stage has; a refused run has none
abbrev pub stage_terms : Stage State → List Term
stage_terms (refused n) = []
stage_terms (going s) = s.terms

-- ---- the rows

abbrev pub state_in : ℕ → Progress → List ℕ → List Float → State
state_in w p ws cs = state (terms_in (2 * w) p.count ws cs) p.tally.peak p.tally.discarded p.tally.touched

abbrev pub stage_in : ℕ → Result Progress Refusal → List ℕ → List Float → Stage State
stage_in w (Err e) ws cs = refused (number_of e)
stage_in w (Ok p) ws cs = going (state_in w p ws cs)

-- n terms of distinct words, at most limit, in rows for twice limit
pub record Ready (w : ℕ) (l : Limits) (n : ℕ) (ws : List ℕ) (cs : List Float) : Type 0 where
  pub few : n ≤ l.limit
  pub room : 2 * l.limit ≤ rows_in w ws cs
  pub sound : Distinct (terms_in (2 * w) n ws cs)

-- the start of a run: no op has met a term yet, and what at most 4,096 ops meet of at most 1,048,576 terms is counted in 64 bits
pub record Fresh (w : ℕ) (l : Limits) (p : Progress) (ops : List Op) (ws : List ℕ) (cs : List Float) : Type 0 where
  pub ready : Ready w l p.count ws cs
  pub none : p.tally.touched ≡ 0
  pub low : l.limit ≤ 1048576
  pub short : length ops ≤ 4096

-- the answer r and the rows tell of a stage; past the first 2 * limit rows all is as it was
pub record Tells (w : ℕ) (l : Limits) (r : Result Progress Refusal) (ws₀ ws : List ℕ) (cs₀ cs : List Float) (s : Stage State) : Type 0 where
  pub told : stage_in w r ws cs ≡ s
  pub rows : Holds (2 * w) (2 * l.limit) 0 [] ws₀ ws cs₀ cs
  pub ready : IfOk r (λ p. Ready w l p.count ws cs)

-- the same of the end of a run, and the rows hold its terms
pub record Ends (w : ℕ) (l : Limits) (r : Result Finished Refusal) (ws₀ ws : List ℕ) (cs₀ cs : List Float) (s : Stage Outcome) : Type 0 where
  pub answer : told_by r ≡ results_of s
  pub rows : Holds (2 * w) (2 * l.limit) (length (left_by s)) (left_by s) ws₀ ws cs₀ cs
  pub few : length (left_by s) ≤ l.limit

-- the rows after a drop, and its answer, hold the state s; past the first R rows all is as it was
pub record AfterDrop (w R : ℕ) (r : Progress) (ws₀ ws : List ℕ) (cs₀ cs : List Float) (s : State) : Type 0 where
  pub answer : r ≡ progress_of s
  pub rows : Holds (2 * w) R r.count s.terms ws₀ ws cs₀ cs

-- question 8, of the first coefficients and the discarded weight
abbrev pub fine_in : Progress → List Float → Bool
fine_in p cs = finite_rows p.count cs && is_finite p.tally.discarded

-- question 9, and the peak
abbrev pub within_of : Limits → Progress → Result Progress Refusal
within_of l p = cond (leb p.count l.limit) (Ok (record { count = p.count; tally = tally (max p.tally.peak p.count) p.tally.discarded p.tally.touched })) (Err TooMany)

-- questions 8 and 9 read no words
abbrev pub CheckedIn : Limits → Progress → List Float → Result Progress Refusal → Type 0
CheckedIn l p cs r = (w : ℕ) (ws : List ℕ) → stage_in w r ws cs ≡ checked l (state_in w p ws cs)

-- ---- the same of lent rows

abbrev pub state_of : Progress → Rows → State
state_of p r = state_in r.w p r.words.now r.coeffs.now

abbrev pub RowsReady : Limits → ℕ → Rows → Type 0
RowsReady l n r = Ready r.w l n r.words.now r.coeffs.now

abbrev pub RowsFresh : Limits → Progress → List Op → Rows → Type 0
RowsFresh l p ops r = Fresh r.w l p ops r.words.now r.coeffs.now

abbrev pub RowsTell : Limits → Result Progress Refusal → Stage State → Rows → Rows → Type 0
RowsTell l a s r = OnRows (λ ws ws' cs cs'. Tells r.w l a ws ws' cs cs' s) r

abbrev pub RowsEnd : Limits → Result Finished Refusal → Stage Outcome → Rows → Rows → Type 0
RowsEnd l a s r = OnRows (λ ws ws' cs cs'. Ends r.w l a ws ws' cs cs' s) r

abbrev pub RowsDropped : ℕ → Progress → State → Rows → Rows → Type 0
RowsDropped n p s r = OnRows (λ ws ws' cs cs'. AfterDrop r.w n p ws ws' cs cs' s) r
