-- Cases A to J of document 01 as one table over the published definitions: the final terms with their complex coefficients, mean, peak, discarded weight
-- and touched. E is refused before a run: question 5, or 6, is asked of words alone (runs Cases, `case_e`).
use Prim.Native.Nat.{ℕ}
use mathlib.Core.Path.{◌≡◌, refl}
use mathlib.Core.List.{List, [], ◌∷◌, map}
use lib.Ieee.{Float, neg}
use Rattle.numbers.specs.Constants.{zero64, one64, minus_one64, sine_t, cosine_t}
use Rattle.words.specs.declared.Gate.TheVariants.{H}
use Rattle.ops.specs.declared.Op.{Op}
use Rattle.ops.specs.declared.Op.TheVariants.{Native, T, Rz, Damp}
use Rattle.dynamics.specs.Turn.{Stage, refused, going}
use Rattle.ops.specs.declared.Run.{Run}
use Rattle.ops.specs.declared.Run.TheVariants.{Full, Cone, Path}
use Rattle.ops.specs.Task.{Line, Task}
use Rattle.cones.proofs.Cases as R
use Rattle.cones.proofs.Cases.{real, word, line, limits, task, usual}
use Rattle.published.specs.Complex.{complex, quarter_turned, size_of}
use Rattle.published.specs.Term.{Term, term, find, is_in, add_to, conjugated, all_finite}
use Rattle.published.specs.Start.{term_of, share}
use Rattle.published.specs.Rotation.{appended_rows, rotated}
use Rattle.published.specs.Channel.{insert, scaled_local, channeled}
use Rattle.published.specs.Truncation.{kept_of}
use Rattle.published.specs.Ops.{act, met}
use Rattle.published.specs.Turn.{Outcome, outcome, checked, settle, ended, finish}
use Rattle.published.specs.Runs.{runs, marked_run}
use Rattle.published.specs.Outcome.{terms_of, fold_lines, all_runs, outcome_of}

-- opens the definitions that the cases compute
unfoldable pub computed : Unit {0}
unfolding R.computed quarter_turned size_of find is_in add_to conjugated all_finite term_of share appended_rows rotated insert scaled_local channeled kept_of act met checked settle
    ended finish runs marked_run terms_of fold_lines all_runs
computed = tt

pub record Case : Type 0 where
  pub run : Run
  pub task : Task
  pub end : Stage Outcome

abbrev case : Run → Task → Stage Outcome → Case
case r t e = record { run = r; task = t; end = e }

-- the terms, mean, peak, discarded weight and touched of a run that succeeds
abbrev ends : List Term → Float → ℕ → Float → ℕ → Stage Outcome
ends ts m p d n = going (outcome ts m [] p d n)

abbrev x0 : List Line
x0 = line (word 1 0) one64 ∷ []

abbrev ht : List Op
ht = Native H 0 0 ∷ T 0 ∷ []

-- cos Z, and sin i XZ
abbrev end_a : Stage Outcome
end_a = ends (term (word 0 1) (complex cosine_t zero64) ∷ term (word 1 1) (complex (neg zero64) sine_t) ∷ []) (real 0x3fe6_a09e_667f_3bcd) 2 zero64 3

abbrev pub cases : List Case
cases =
    -- (A), (B: limit 1; limit 2)
    case Full (task 1 (usual 8) x0 ht) end_a
    ∷ case Full (task 1 (usual 1) x0 ht) (refused 9)
    ∷ case Full (task 1 (usual 2) x0 ht) end_a
    -- (C: max_terms 1, epsilon 0.8)
    ∷ case Full (task 1 (limits (real 0x3fe9_9999_9999_999a) 1 8) x0 ht) (ends [] zero64 1 (real 0x3ff6_a09e_667f_3bcc) 1)
    -- (D: t replaced by rz sine 1, cosine 0)
    ∷ case Full (task 1 (usual 8) x0 (Native H 0 0 ∷ Rz 0 one64 zero64 ∷ [])) (ends (term (word 1 1) (complex (neg zero64) one64) ∷ []) zero64 1 zero64 2)
    -- (F: no factors)
    ∷ case Full (task 1 (usual 8) (line (word 0 0) one64 ∷ []) ht) (ends (term (word 0 0) (complex one64 zero64) ∷ []) one64 1 zero64 0)
    -- (G: terms Z0 weights 1 and -1, no ops)
    ∷ case Full (task 1 (usual 8) (line (word 0 1) one64 ∷ line (word 0 1) minus_one64 ∷ []) []) (ends (term (word 0 1) (complex zero64 zero64) ∷ []) zero64 1 zero64 0)
    -- (H: path, Z0, one damp 1.0)
    ∷ case Path (task 1 (usual 8) (line (word 0 1) one64 ∷ []) (Damp 0 one64 ∷ [])) (ends (term (word 0 1) (complex zero64 zero64) ∷ term (word 0 0) (complex one64 zero64) ∷ []) one64 2 zero64 1)
    -- (I: two qubits, terms X0 and X1, limit 2, one t on 0: folded)
    ∷ case Full (task 2 (usual 2) (line (word 1 0) one64 ∷ line (word 2 0) one64 ∷ []) (T 0 ∷ [])) (ends [] zero64 2 zero64 1)
    -- (J: cone, two qubits, Z0, h on 1: skipped)
    ∷ case Cone (task 2 (usual 8) (line (word 0 1) one64 ∷ []) (Native H 1 0 ∷ [])) (ends (term (word 0 1) (complex one64 zero64) ∷ []) one64 1 zero64 0)
    ∷ []

pub table : map (λ c. outcome_of c.run c.task) cases ≡ map (λ c. c.end) cases
unfolding computed
table = refl
