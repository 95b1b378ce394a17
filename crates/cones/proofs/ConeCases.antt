-- The hypotheses of demand 3 hold of tasks as they come: two that differ in the sign of zeros and in what stands outside the cone. Assumes nothing.
use Prim.Native.Nat.{ℕ}
use mathlib.Core.Path.{◌≡◌, refl}
use mathlib.Core.Bool.{true, false}
use mathlib.Core.List.{List, [], ◌∷◌}
use lib.Ieee.{Float, neg, add, mul, lt, le, eq, fits, of_bits}
use Rattle.numbers.specs.Constants.{zero64, one64}
use Rattle.numbers.specs.Angle.{cut_of}
use Rattle.words.specs.Keys.{bit_of, flip_of, bit_at, flip_at, all_zero, same_key}
use Rattle.words.specs.Gates.{conj_key}
use Rattle.words.specs.declared.Gate.{Gate}
use Rattle.words.specs.declared.Gate.TheVariants.{H, Cz}
use Rattle.terms.specs.Lists.{foldl, none, more}
use Rattle.terms.specs.Term.{term, find, conjugated, all_finite}
use Rattle.words.specs.Letters.{count_y}
use Rattle.terms.specs.Start.{term_of}
use Rattle.terms.specs.Rotation.{met_by, partner_by, appended_rows, rotated}
use Rattle.terms.specs.Truncation.{kept_of}
use Rattle.terms.specs.Met.{letter_among}
use Rattle.ops.specs.declared.Op.{Op}
use Rattle.ops.specs.declared.Op.TheVariants.{Native, T, Rz, Barrier}
use Rattle.ops.specs.Ops.{on_words}
use Rattle.dynamics.specs.Acts.{act, met}
use Rattle.dynamics.specs.Turn.{refused, going, outcome, checked, settle, ended, finish}
use Rattle.dynamics.specs.Runs.{runs, marked_run}
use Rattle.ops.specs.Marks.{member, touches, cone_of, mark_cone}
use Rattle.ops.specs.SameOps.{SameOp, chosen}
use Rattle.ops.specs.Task.{Task, every, letters_below, sizes_fit, run_fits, reals_in_range, angles_hold, qubits_below, targets_differ}
use Rattle.dynamics.specs.Outcome.{terms_of}
use Rattle.cones.specs.LightCone.{Equal, as_full, as_cone, Passes, cone_marks, Agree, end_as, Demand}
use Rattle.ops.specs.Binary.{Binary64Values}
use Rattle.cones.proofs.Demand.{demand3}

abbrev minus_zero64 : Float
minus_zero64 = neg zero64

-- three qubits and the observable X0,Z1
abbrev task : Float → List Op → Task
task e ops = record { qubits = 3; limits = record { epsilon = e; max_terms = 0; limit = 8 }; lines = record { key = 1 ∷ 2 ∷ []; weight = one64 } ∷ []; ops = ops }

abbrev first : Task
first = task zero64 (Native H 2 0 ∷ Native H 0 0 ∷ Native Cz 0 1 ∷ T 2 ∷ Rz 0 zero64 one64 ∷ [])

abbrev second : Task
second = task minus_zero64 (Barrier ∷ Native H 0 0 ∷ Native Cz 0 1 ∷ Rz 0 minus_zero64 one64 ∷ [])

-- h and t on qubit 2 are outside the cone
first_marks : cone_marks first ≡ false ∷ true ∷ true ∷ false ∷ true ∷ []
unfolding mark_cone cone_of touches member letters_below bit_at bit_of
first_marks = refl

second_marks : cone_marks second ≡ false ∷ true ∷ true ∷ true ∷ []
unfolding mark_cone cone_of touches member letters_below bit_at bit_of
second_marks = refl

first_passes : Passes first
unfolding cut_of sizes_fit run_fits reals_in_range angles_hold qubits_below targets_differ every letters_below bit_at bit_of neg lt le eq of_bits
first_passes as_full = refl
first_passes as_cone = refl

second_passes : Passes second
unfolding cut_of sizes_fit run_fits reals_in_range angles_hold qubits_below targets_differ every letters_below bit_at bit_of neg lt le eq of_bits
second_passes as_full = refl
second_passes as_cone = refl

first_values : Binary64Values first
unfolding fits of_bits
first_values = record { epsilon = tt; weights = (tt, tt); reals = (tt, (tt, (tt, (tt, ((tt, (tt, tt)), tt))))) }

second_values : Binary64Values second
unfolding fits neg of_bits
second_values = record { epsilon = tt; weights = (tt, tt); reals = (tt, (tt, (tt, ((tt, (tt, tt)), tt)))) }

same_gate : (g : Gate) (a b : ℕ) → SameOp Equal (Native g a b) (Native g a b)
same_gate g a b = record { name = refl; targets = refl; reals = none }

agree : Agree first second
unfolding mark_cone cone_of touches member letters_below bit_at bit_of chosen neg eq of_bits
agree = record {
  qubits = refl;
  observable = refl;
  epsilon = refl;
  max_terms = refl;
  limit = refl;
  marked = more (same_gate H 0 0) (more (same_gate Cz 0 1) (more (record { name = refl; targets = refl; reals = more refl (more refl none) }) none));
}

pub example : Demand first second
example = demand3 first second first_values second_values first_passes second_passes agree

-- the first task's full run has mean 1 and peak 1, and so have the other three
first_end : end_as as_full first ≡ going (outcome (term (0 ∷ 1 ∷ []) one64 ∷ []) one64 [] 1 zero64 3)
unfolding marked_run runs act met letter_among on_words settle checked finish ended all_finite kept_of rotated appended_rows met_by partner_by conjugated conj_key
    foldl find same_key all_zero terms_of term_of count_y bit_at bit_of flip_at flip_of add mul neg lt eq of_bits
first_end = refl

-- ---- four runs that end in a refusal: limit 1, and t on the observable X0 makes a second term

abbrev filled : List Op → Task
filled ops = record { qubits = 2; limits = record { epsilon = zero64; max_terms = 0; limit = 1 }; lines = record { key = 1 ∷ 0 ∷ []; weight = one64 } ∷ []; ops = ops }

abbrev third : Task
third = filled (T 0 ∷ Native H 1 0 ∷ [])

abbrev fourth : Task
fourth = filled (T 0 ∷ [])

third_passes : Passes third
unfolding cut_of sizes_fit run_fits reals_in_range angles_hold qubits_below targets_differ every letters_below bit_at bit_of neg lt le eq of_bits
third_passes as_full = refl
third_passes as_cone = refl

fourth_passes : Passes fourth
unfolding cut_of sizes_fit run_fits reals_in_range angles_hold qubits_below targets_differ every letters_below bit_at bit_of neg lt le eq of_bits
fourth_passes as_full = refl
fourth_passes as_cone = refl

third_values : Binary64Values third
unfolding fits of_bits
third_values = record { epsilon = tt; weights = (tt, tt); reals = (tt, (tt, tt)) }

fourth_values : Binary64Values fourth
unfolding fits of_bits
fourth_values = record { epsilon = tt; weights = (tt, tt); reals = (tt, tt) }

crowded_agree : Agree third fourth
unfolding mark_cone cone_of touches member letters_below bit_at bit_of chosen eq of_bits
crowded_agree = record {
  qubits = refl;
  observable = refl;
  epsilon = refl;
  max_terms = refl;
  limit = refl;
  marked = more (record { name = refl; targets = refl; reals = none }) none;
}

pub refused_example : Demand third fourth
refused_example = demand3 third fourth third_values fourth_values third_passes fourth_passes crowded_agree

third_end : end_as as_full third ≡ refused 9
unfolding marked_run runs act met letter_among on_words settle checked finish ended all_finite kept_of rotated appended_rows met_by partner_by conjugated conj_key
    foldl find same_key all_zero terms_of term_of count_y bit_at bit_of flip_at flip_of add mul neg lt eq of_bits
third_end = refl
