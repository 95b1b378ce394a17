-- Cases A to J of document 01 by their values, computed: questions 2 to 6, then the run's end. Left out is what a task does not have: the sheet's layout
-- and line numbers, the rows lent, and (E) the term `X0,Y0`, which is no word.
use Prim.Native.Nat.{ℕ}
use mathlib.Core.Path.{◌≡◌, refl}
use mathlib.Core.Bool.{true, false}
use mathlib.Core.List.{List, [], ◌∷◌}
use lib.IntN.{pos}
use lib.Ieee.{Float, binary64, neg, add, sub, mul, lt, le, eq, of_bits}
use Rattle.numbers.specs.Constants.{zero64, one64, minus_one64, sine_t, cosine_t}
use Rattle.numbers.specs.Root.{sqrt_of}
use Rattle.numbers.specs.Shown.{shown_of}
use Rattle.numbers.specs.Angle.{cut_of}
use Rattle.words.specs.Keys.{Key, bit_of, flip_of, bit_at, flip_at, all_zero, same_key}
use Rattle.words.specs.Gates.{conj_key}
use Rattle.words.specs.declared.Gate.TheVariants.{H}
use Rattle.terms.specs.Lists.{foldl}
use Rattle.terms.specs.Term.{Term, term, find, is_in, add_to, conjugated, all_finite}
use Rattle.words.specs.Letters.{count_y}
use Rattle.terms.specs.Start.{term_of, share}
use Rattle.terms.specs.Rotation.{met_by, partner_by, appended_rows, rotated}
use Rattle.terms.specs.Channel.{damp_action, action_of, insert, scaled_local, channeled}
use Rattle.terms.specs.Truncation.{kept_of}
use Rattle.terms.specs.Met.{letter_among}
use Rattle.ops.specs.declared.Limits.{Limits}
use Rattle.ops.specs.declared.Op.{Op}
use Rattle.ops.specs.declared.Op.TheVariants.{Native, T, Rz, Damp}
use Rattle.ops.specs.Ops.{t_count, on_words}
use Rattle.dynamics.specs.Acts.{act, met}
use Rattle.dynamics.specs.Turn.{Stage, refused, going, Outcome, outcome, checked, settle, ended, finish}
use Rattle.dynamics.specs.Runs.{runs, marked_run, begin}
use Rattle.ops.specs.Marks.{mark_all, member, touches, cone_of, mark_cone}
use Rattle.ops.specs.declared.Run.{Run}
use Rattle.ops.specs.declared.Run.TheVariants.{Full, Cone, Path}
use Rattle.ops.specs.Task.{Line, Task, width, passes, every, letters_below, sizes_fit, run_fits, reals_in_range, angles_hold, qubits_below, targets_differ}
use Rattle.dynamics.specs.Outcome.{terms_of, start_of, fold_lines, outcome_of}
use Rattle.cones.specs.LightCone.{cone_marks}

-- opens the definitions that the cases compute
unfoldable pub computed : Unit {0}
unfolding cut_of neg add sub mul lt le eq of_bits sqrt_of shown_of bit_of flip_of bit_at flip_at all_zero same_key conj_key foldl find is_in add_to
    conjugated all_finite count_y term_of share met_by partner_by appended_rows rotated damp_action action_of insert scaled_local channeled kept_of t_count on_words act
    checked settle ended finish runs marked_run member touches cone_of mark_cone every letters_below sizes_fit run_fits reals_in_range angles_hold qubits_below targets_differ terms_of fold_lines
    letter_among met
computed = tt

-- a real number by its bits
abbrev pub real : ℕ → Float
real b = of_bits binary64 b

-- the words of one or two qubits: an x-word and a z-word
abbrev pub word : ℕ → ℕ → Key
word x z = x ∷ z ∷ []

abbrev pub line : Key → Float → Line
line k f = record { key = k; weight = f }

abbrev pub limits : Float → ℕ → ℕ → Limits
limits e m n = record { epsilon = e; max_terms = m; limit = n }

abbrev pub task : ℕ → Limits → List Line → List Op → Task
task n l ls ops = record { qubits = n; limits = l; lines = ls; ops = ops }

-- the terms, mean, peak, discarded weight and touched of a run that succeeds
abbrev ends : List Term → Float → ℕ → Float → ℕ → Stage Outcome
ends ts m p d n = going (outcome ts m [] p d n)

-- the task passes questions 2 to 6, and the run has the end
pub record Case (r : Run) (t : Task) (end : Stage Outcome) : Type 0 where
  pub passed : passes r t ≡ true
  pub ended : outcome_of r t ≡ end

-- A's limits with another limit, its one term and its ops
abbrev pub usual : ℕ → Limits
usual n = limits zero64 0 n

abbrev x0 : List Line
x0 = line (word 1 0) one64 ∷ []

abbrev ht : List Op
ht = Native H 0 0 ∷ T 0 ∷ []

-- the end of A: cos Z, and Y, which is the word XZ times i
abbrev end_a : Stage Outcome
end_a = ends (term (word 0 1) cosine_t ∷ term (word 1 1) sine_t ∷ []) (real 0x3fe6_a09e_667f_3bcd) 2 zero64 3

-- "Case A .. `mean=3fe6a09e667f3bcd`, `shown=707`, `t_count=1`, `peak_terms=2`, `discarded=0000000000000000`"
pub case_a : Case Full (task 1 (usual 8) x0 ht) end_a
unfolding computed
case_a = record { passed = refl; ended = refl }

pub case_a_shown : shown_of (real 0x3fe6_a09e_667f_3bcd) ≡ pos 707
unfolding computed
case_a_shown = refl

pub case_a_count : t_count ht ≡ 1
unfolding computed
case_a_count = refl

-- "(B) limit 1: 9; limit 2: as A"
pub case_b_one : Case Full (task 1 (usual 1) x0 ht) (refused 9)
unfolding computed
case_b_one = record { passed = refl; ended = refl }

pub case_b_two : Case Full (task 1 (usual 2) x0 ht) end_a
unfolding computed
case_b_two = record { passed = refl; ended = refl }

-- "(C) max_terms 1, epsilon 3fe999999999999a: mean 0, peak 1, discarded 3ff6a09e667f3bcc"
pub case_c : Case Full (task 1 (limits (real 0x3fe9_9999_9999_999a) 1 8) x0 ht) (ends [] zero64 1 (real 0x3ff6_a09e_667f_3bcc) 1)
unfolding computed
case_c = record { passed = refl; ended = refl }

-- "(D) t replaced by rz sine 1, cosine 0: peak 1, mean 0"
pub case_d : Case Full (task 1 (usual 8) x0 (Native H 0 0 ∷ Rz 0 one64 zero64 ∷ []))
    (ends (term (word 1 1) one64 ∷ []) zero64 1 zero64 2)
unfolding computed
case_d = record { passed = refl; ended = refl }

-- "(E) term .. `X1`: 5": the questions before it are passed
abbrev e : Task
e = task 1 (usual 8) (line (word 2 0) one64 ∷ []) ht

pub case_e : (sizes_fit e ≡ true) × (run_fits Full e ≡ true) × (reals_in_range e ≡ true) × (qubits_below e ≡ false)
unfolding computed
case_e = (refl, refl, refl, refl)

-- "(F) no factors: mean 1"
pub case_f : Case Full (task 1 (usual 8) (line (word 0 0) one64 ∷ []) ht) (ends (term (word 0 0) one64 ∷ []) one64 1 zero64 0)
unfolding computed
case_f = record { passed = refl; ended = refl }

-- "(G) terms Z0 weights 1 and -1, no ops: peak 1, mean 0"
pub case_g : Case Full (task 1 (usual 8) (line (word 0 1) one64 ∷ line (word 0 1) minus_one64 ∷ []) [])
    (ends (term (word 0 1) zero64 ∷ []) zero64 1 zero64 0)
unfolding computed
case_g = record { passed = refl; ended = refl }

-- "(H) `path`, Z0, one damp 1.0: mean 1, peak 2"
pub case_h : Case Path (task 1 (usual 8) (line (word 0 1) one64 ∷ []) (Damp 0 one64 ∷ []))
    (ends (term (word 0 1) zero64 ∷ term (word 0 0) one64 ∷ []) one64 2 zero64 1)
unfolding computed
case_h = record { passed = refl; ended = refl }

-- "(I) two qubits, terms X0 and X1, limit 2, one t on 0: folded, peak 2": the sum meets 9
abbrev i : Task
i = task 2 (usual 2) (line (word 1 0) one64 ∷ line (word 2 0) one64 ∷ []) (T 0 ∷ [])

pub case_i : Case Full i (ends [] zero64 2 zero64 1)
unfolding computed
case_i = record { passed = refl; ended = refl }

pub case_i_sum : marked_run (width i) i.limits (mark_all i.ops) i.ops (begin (start_of (width i) i.lines)) ≡ refused 9
unfolding computed
case_i_sum = refl

-- "(J) `cone`, two qubits, Z0, h on 1: mean 1, skipped"
abbrev j : Task
j = task 2 (usual 8) (line (word 0 1) one64 ∷ []) (Native H 1 0 ∷ [])

pub case_j : Case Cone j (ends (term (word 0 1) one64 ∷ []) one64 1 zero64 0)
unfolding computed
case_j = record { passed = refl; ended = refl }

pub case_j_marks : cone_marks j ≡ false ∷ []
unfolding computed
case_j_marks = refl
