-- The marks that the code's wide run makes are those of the definition, for every task that the questions pass as `wide`: so what is proved of
-- `outcome_of Wide` is proved of the code. Assumes nothing.
use mathlib.Core.Path.{◌≡◌, refl, sym, ap, ap₂, ◌∙◌, subst}
use mathlib.Core.Bool.{Bool, true, false, ◌||◌, ◌&&◌}
use mathlib.Core.List.{List, [], ◌∷◌, ◌++◌, append-nil}
use Prim.Native.Nat.{ℕ, zero, suc, ◌*◌, ◌/◌, min}
use native.Mathlib.Nat.{min-eq_left}
use lib.Dec.{eqb}
use lib.ListN.{length}
use lib.Ieee.{Float}
use Rattle.words.specs.Keys.{width_of}
use Rattle.terms.specs.Lists.{tab}
use Rattle.terms.proofs.CaseLaws.{and_true}
use Rattle.terms.proofs.ListLaws.{tab_snoc}
use Rattle.std.specs.Prelude.{Result}
use Rattle.ops.specs.declared.Refusal.{Refusal}
use Rattle.turns.specs.declared.Finished.{Finished}
use Rattle.ops.specs.declared.Limits.{Limits}
use Rattle.ops.specs.declared.Op.{Op}
use Rattle.ops.specs.Marks.{member}
use Rattle.ops.specs.Sets.{set_marks, letter_in_any, letters_in_any}
use Rattle.ops.proofs.MarkLaws.{any_marks}
use Rattle.ops.specs.declared.Run.TheVariants.{Wide}
use Rattle.ops.specs.Task.{Line, Task, qubits_of, sizes_fit, run_fits, reals_in_range, angles_hold, qubits_below, targets_differ, passes}
use Rattle.dynamics.specs.Outcome.{all_letters, wide_marks}
use Rattle.ops.specs.LineTable.{table_line, task_in}
use Rattle.turns.specs.SumRuns.{SumRan}
use Rattle.runs.specs.ConeRuns.{WideRan}
use Rattle.ops.proofs.CoverLaws.{member_below}
use Rattle.runs.proofs.ConeCode.{targets_below}
use Rattle.ops.proofs.SizeLaws.{sizes_say}

-- ---- the qubits of all lines

or_assoc : (a b c : Bool) → (a || (b || c)) ≡ ((a || b) || c)
or_assoc true b c = refl
or_assoc false b c = refl

member_append : (q : ℕ) (xs ys : List ℕ) → member q (xs ++ ys) ≡ (member q xs || member q ys)
unfolding member
member_append q [] ys = refl
member_append q (x ∷ xs) ys = ap (λ (b : Bool). eqb q x || b) (member_append q xs ys) ∙ or_assoc (eqb q x) (member q xs) (member q ys)

-- one line more, at the end
member_last : (w q : ℕ) (ls : List Line) (l : Line) → member q (all_letters w (ls ++ (l ∷ []))) ≡ (member q (all_letters w ls) || member q (qubits_of w l.key))
unfolding all_letters member
member_last w q [] l = ap (member q) (append-nil (qubits_of w l.key))
member_last w q (x ∷ ls) l =
    member_append q (qubits_of w x.key) (all_letters w (ls ++ (l ∷ [])))
    ∙ ap (λ (b : Bool). member q (qubits_of w x.key) || b) (member_last w q ls l)
    ∙ or_assoc (member q (qubits_of w x.key)) (member q (all_letters w ls)) (member q (qubits_of w l.key))
    ∙ ap (λ (b : Bool). b || member q (qubits_of w l.key)) (sym (member_append q (qubits_of w x.key) (all_letters w ls)))

member_any : (w : ℕ) (keys : List ℕ) (weights : List Float) (k q : ℕ) → member q (all_letters w (tab k (table_line w keys weights))) ≡ letter_in_any w keys k q
unfolding all_letters letter_in_any tab member
member_any w keys weights zero q = refl
member_any w keys weights (suc k) q =
    ap (λ (ls : List Line). member q (all_letters w ls)) (tab_snoc k (table_line w keys weights))
    ∙ member_last w q (tab k (table_line w keys weights)) (table_line w keys weights k)
    ∙ ap₂ ◌||◌ (member_any w keys weights k q) (member_below w (table_line w keys weights k).key (64 * w) q)

-- ---- the code's run

module _ (qubits : ℕ) (l : Limits) (keys : List ℕ) (weights : List Float) (ops : List Op) (k : ℕ) where
  pub wide_code : passes Wide (task_in qubits l keys weights k ops) ≡ true → set_marks (letters_in_any (width_of qubits) keys k) ops ≡ wide_marks (task_in qubits l keys weights k ops)
  wide_code h =
      let t : Task = task_in qubits l keys weights k ops in
      let p = and_true (sizes_fit t && run_fits Wide t) (reals_in_range t && (angles_hold t && (qubits_below t && targets_differ t))) h in
      let q = and_true (sizes_fit t) (run_fits Wide t) p.0 in
      let r = and_true (qubits_below t) (targets_differ t) (and_true (angles_hold t) (qubits_below t && targets_differ t) (and_true (reals_in_range t) (angles_hold t && (qubits_below t && targets_differ t)) p.1).1).1 in
      any_marks (width_of qubits) keys k (all_letters (width_of qubits) t.lines) ops (λ j below. member_any (width_of qubits) keys weights k j) (targets_below t (sizes_say t q.0).qubits r.0)

pub wide_ran : (qubits : ℕ) (l : Limits) (keys : List ℕ) (weights : List Float) (ops : List Op) {r : Result Finished Refusal} {ws ws' : List ℕ} {cs cs' : List Float} {ix ix' : List ℕ}
    → SumRan qubits l keys weights ops (set_marks (letters_in_any (width_of qubits) keys (min (length weights) (length keys / (2 * width_of qubits)))) ops) r ws ws' cs cs' ix ix'
    → WideRan qubits l keys weights ops r ws ws' cs cs' ix ix'
wide_ran qubits l keys weights ops {r} {ws} {ws'} {cs} {cs'} {ix} {ix'} R = record {
  always = R;
  wide = λ h there. subst (λ (ms : List Bool). SumRan qubits l keys weights ops ms r ws ws' cs cs' ix ix')
      (ap (λ (m : ℕ). set_marks (letters_in_any (width_of qubits) keys m) ops) (min-eq_left there) ∙ wide_code qubits l keys weights ops (length weights) h) R;
}
