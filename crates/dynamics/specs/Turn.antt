-- What follows an op: "8 is put after each op, again after its truncation, then 9". It is the same in every run.
use Rattle.std.specs.Prelude.{ℕ, max, Bool, true, false, cond, ◌&&◌, List, [], leb, length, Float}
use Rattle.std.specs.Float.{binary64}
use Rattle.std.specs.Float.Ieee.{add, lt}
use Rattle.ops.specs.declared.Limits.{Limits}
use Rattle.numbers.specs.Constants.{zero64}
use Rattle.numbers.specs.Tests.{is_finite}
use Rattle.terms.specs.Term.{Term, all_finite}
use Rattle.terms.specs.Truncation.{kept_of, dropped_of, crowded}
use Rattle.terms.specs.Mean.{mean_of}

-- a refusal with its number, or what the run has come to
pub data Stage (S : Type 0) : Type 0 where
  refused : ℕ → Stage S
  going : S → Stage S

-- the next step, unless refused
abbrev pub bind : {S R : Type 0} → Stage S → (S → Stage R) → Stage R
bind (refused n) f = refused n
bind (going s) f = f s

-- go on if the answer to question n is yes
abbrev pub ask : {S : Type 0} → ℕ → Bool → Stage S → Stage S
ask n true r = r
ask n false r = refused n

-- a property of what a run has come to, if it is not refused
abbrev pub UnlessRefused : {S : Type 0} → (S → Type 0) → Stage S → Type 0
UnlessRefused p (refused n) = Unit {0}
UnlessRefused p (going s) = p s

-- the terms, and the tally of peak, discarded weight and the terms met so far
pub record State : Type 0 where
  pub terms : List Term
  pub peak : ℕ
  pub discarded : Float
  pub touched : ℕ

abbrev pub state : List Term → ℕ → Float → ℕ → State
state ts p d n = record { terms = ts; peak = p; discarded = d; touched = n }

-- question 8: "Is every coefficient .., sum .. finite?" The sum is the discarded weight. The mean is asked at the end of a run (`ended`).
abbrev pub fine : State → Bool
fine s = all_finite s.terms && is_finite s.discarded

-- "then added to the discarded weight"
abbrev pub drop_small : Float → State → State
drop_small e s = state (kept_of e s.terms) s.peak (add binary64 s.discarded (dropped_of e s.terms)) s.touched

-- "Truncation: if max_terms > 0 and there are more terms than that"
abbrev pub truncated : Limits → State → State
truncated l s = cond (crowded l.max_terms s.terms) (drop_small l.epsilon s) s

-- "peak_terms: the largest of .. the counts after each op's truncation"
abbrev pub counted : State → State
counted s = state s.terms (max s.peak (length s.terms)) s.discarded s.touched

-- question 8, then 9: "After an op and its truncation, are there at most limit terms?"
unfoldable pub checked : Limits → State → Stage State
checked l s = ask 8 (fine s) (ask 9 (leb (length s.terms) l.limit) (going (counted s)))

-- question 8, truncation, question 8, question 9, the peak
unfoldable pub settle : Limits → State → Stage State
unfolding checked
settle l s = ask 8 (fine s) (checked l (truncated l s))

-- ---- the end of a run
-- what a run gives: its final terms, its mean (for `all` its means), its peak, its discarded weight, and the terms that its ops met:
-- "the result gains `touched`, the sum over a run"
pub record Outcome : Type 0 where
  pub terms : List Term
  pub mean : Float
  pub means : List Float
  pub peak : ℕ
  pub discarded : Float
  pub touched : ℕ

abbrev pub outcome : List Term → Float → List Float → ℕ → Float → ℕ → Outcome
outcome ts m ms p d n = record { terms = ts; mean = m; means = ms; peak = p; discarded = d; touched = n }

-- "At the end of a run, even one without ops, the same drop is done if epsilon > 0"
abbrev pub last_drop : Limits → State → State
last_drop l s = cond (lt zero64 l.epsilon) (drop_small l.epsilon s) s

-- "then 8 at the end of the run": its coefficients, its discarded weight and its mean
unfoldable pub ended : ℕ → State → Stage Outcome
ended w s =
    let m = mean_of w s.terms in
    ask 8 (fine s && is_finite m) (going (outcome s.terms m [] s.peak s.discarded s.touched))

unfoldable pub finish : ℕ → Limits → State → Stage Outcome
unfolding ended
finish w l s = ended w (last_drop l s)
