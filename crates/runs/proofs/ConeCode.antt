-- The marks that the code's cone run makes are those of the cone's definition, for every task that the questions pass as `cone`: so what
-- demand 3 says of `outcome_of Cone` it says of the code. Assumes nothing.
use mathlib.Core.Path.{◌≡◌, refl, sym, ap, ◌∙◌, subst}
use mathlib.Core.Bool.{Bool, true, false, ◌||◌, ◌&&◌, false≢true}
use mathlib.Core.List.{List}
use Prim.Native.Nat.{ℕ, zero, suc, ◌*◌, ◌/◌, ◌%◌, ◌≤◌, ◌<◌}
use native.Mathlib.Nat.{zero-mul}
use native.Mathlib.Omega.{arith}
use lib.Dec.{ltb}
use lib.ListN.{length, take, drop}
use lib.Seq.{get_or-take}
use lib.Ieee.{Float}
use borrow.Author.Tests.{ltb-true}
use Rattle.words.specs.Keys.{width_of, bit_of, bit_at, z_at, has_letter}
use Rattle.terms.specs.Lists.{All, tab}
use Rattle.terms.proofs.AllLaws.{all_imp}
use Rattle.terms.proofs.CaseLaws.{and_true}
use Rattle.terms.proofs.ListLaws.{tab_ext}
use Rattle.terms.proofs.LetterSteps.{Within}
use Rattle.words.specs.Rows.{key_at}
use Rattle.std.specs.Prelude.{Result}
use Rattle.ops.specs.declared.Refusal.{Refusal}
use Rattle.turns.specs.declared.Finished.{Finished}
use Rattle.ops.specs.declared.Limits.{Limits}
use Rattle.ops.specs.declared.Op.{Op}
use Rattle.ops.specs.Ops.{targets}
use Rattle.ops.specs.Marks.{mark_cone}
use Rattle.ops.specs.Sets.{TargetsBelow, letter_in, letters_in, set_marks}
use Rattle.ops.specs.declared.Run.TheVariants.{Cone}
use Rattle.ops.specs.Task.{Task, width, sizes_fit, run_fits, reals_in_range, angles_hold, qubits_below, targets_differ, is_one, passes}
use Rattle.dynamics.specs.Outcome.{observed}
use Rattle.ops.specs.LineTable.{task_in}
use Rattle.turns.specs.SumRuns.{SumRan}
use Rattle.runs.specs.ConeRuns.{Slices, ConeRan}
use Rattle.ops.proofs.CoverLaws.{cone_is}
use Rattle.cones.proofs.Demand.{one_line, targets_within}
use Rattle.ops.proofs.SizeLaws.{sizes_say}

-- ---- the word of the first line is read from the start of the table

bit_first : (w i : ℕ) (keys : List ℕ) → i / 64 < 2 * w → bit_at keys i ≡ bit_at (take (2 * w) keys) i
unfolding bit_at
bit_first w i keys h = ap (λ (v : ℕ). bit_of v (i % 64)) (sym (get_or-take (2 * w) keys (i / 64) 0 h))

letter_first : (w : ℕ) (keys : List ℕ) (q : ℕ) → letter_in w keys q ≡ letter_in w (take (2 * w) keys) q
letter_first w keys q = go (ltb q (64 * w)) refl
  where
    go : (b : Bool) → ltb q (64 * w) ≡ b → (b && has_letter w keys q) ≡ (b && has_letter w (take (2 * w) keys) q)
    go false e = refl
    go true e =
        let h = ltb-true q (64 * w) e in
        λ z. bit_first w q keys (omega arith) z || bit_first w (z_at w q) keys (omega arith) z

letters_first : (w : ℕ) (keys : List ℕ) → letters_in w keys ≡ letters_in w (key_at (2 * w) keys 0)
unfolding letters_in
letters_first w keys =
    tab_ext 256 (letter_in w keys) (letter_in w (take (2 * w) keys)) (λ q h. letter_first w keys q)
    ∙ ap (λ (n : ℕ). tab 256 (letter_in w (take (2 * w) (drop n keys)))) (sym (zero-mul (2 * w)))

-- ---- what the questions say

below_all : (n : ℕ) (qs : List ℕ) → n ≤ 256 → All (λ q. q < 64 * width_of n) qs → All (λ q. q < 256) qs
below_all n qs few h = all_imp (λ q. q < 64 * width_of n) (λ q. q < 256) qs (λ q b. omega (arith, b, few)) h

pub targets_below : (t : Task) → t.qubits ≤ 256 → qubits_below t ≡ true → TargetsBelow t.ops
targets_below t few h =
    all_imp (λ op. Within (width t) (targets op)) (λ op. All (λ q. q < 256) (targets op)) t.ops (λ op. below_all t.qubits (targets op) few) (targets_within t h)

-- ---- the code's run

module _ (qubits : ℕ) (l : Limits) (keys : List ℕ) (weights : List Float) (ops : List Op) where
  first_marks : (k : ℕ) → is_one (task_in qubits l keys weights k ops).lines ≡ true → TargetsBelow ops
      → set_marks (letters_in (width_of qubits) keys) ops ≡ mark_cone (observed (task_in qubits l keys weights k ops)) ops
  unfolding tab
  first_marks zero e h = absurd (false≢true e)
  first_marks (suc k) e h =
      ap (λ (s : List Bool). set_marks s ops) (letters_first (width_of qubits) keys) ∙ cone_is (width_of qubits) (key_at (2 * width_of qubits) keys 0) ops h

  pub cone_code : (k : ℕ) → passes Cone (task_in qubits l keys weights k ops) ≡ true
      → set_marks (letters_in (width_of qubits) keys) ops ≡ mark_cone (observed (task_in qubits l keys weights k ops)) ops
  cone_code k h =
      let t : Task = task_in qubits l keys weights k ops in
      let p = and_true (sizes_fit t && run_fits Cone t) (reals_in_range t && (angles_hold t && (qubits_below t && targets_differ t))) h in
      let q = and_true (sizes_fit t) (run_fits Cone t) p.0 in
      let r = and_true (qubits_below t) (targets_differ t) (and_true (angles_hold t) (qubits_below t && targets_differ t) (and_true (reals_in_range t) (angles_hold t && (qubits_below t && targets_differ t)) p.1).1).1 in
      first_marks k (one_line t q.1) (targets_below t (sizes_say t q.0).qubits r.0)

pub cone_ran : (qubits : ℕ) (l : Limits) (keys : List ℕ) (weights : List Float) (ops : List Op) {r : Result Finished Refusal} {ws ws' : List ℕ} {cs cs' : List Float} {ix ix' : List ℕ}
    → Slices weights ops l → SumRan qubits l keys weights ops (set_marks (letters_in (width_of qubits) keys) ops) r ws ws' cs cs' ix ix' → ConeRan qubits l keys weights ops r ws ws' cs cs' ix ix'
cone_ran qubits l keys weights ops {r} {ws} {ws'} {cs} {cs'} {ix} {ix'} S R = record {
  always = R;
  slices = S;
  cone = λ h. subst (λ (ms : List Bool). SumRan qubits l keys weights ops ms r ws ws' cs cs' ix ix') (cone_code qubits l keys weights ops (length weights) h) R;
}
