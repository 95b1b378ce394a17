-- Demand 3 of the public runs, by their contracts. Assumes nothing.
use mathlib.Core.Path.{◌≡◌, refl, ap, ◌∙◌, subst⁻¹}
use mathlib.Core.Bool.{Bool, true}
use Prim.Native.Nat.{ℕ, zero, suc}
use lib.ListN.{length}
use Rattle.words.specs.Keys.{width_of}
use Rattle.terms.specs.Lists.{tab, All}
use Rattle.ops.specs.Task.{Task}
use Rattle.ops.specs.Binary.{IsBinary64, Binary64Values}
use Rattle.ops.specs.LineTable.{table_line}
use Rattle.dynamics.specs.Turn.{Stage, ask, Outcome}
use Rattle.cones.specs.LightCone.{Which, one, another, Way, as_full, as_cone, pick, Passes, Agree, SameEnd, same_refusal, both_succeed, end_as, Demand}
use Rattle.cones.proofs.Demand.{demand3}
use Rattle.turns.specs.SumRuns.{Results, told_by, results_of}
use Rattle.runs.specs.RunsCone as R
use Rattle.runs.specs.RunsCone.{Given, task_given, HeldBySlices, choose, Call, CalledAs, Begins, SameAnswer, OfRuns}

-- ---- the numbers of slices are those of the task

all_tab : {A : Type 0} (p : A → Type 0) (n : ℕ) (f : ℕ → A) → ((i : ℕ) → p (f i)) → All p (tab n f)
unfolding tab
all_tab p zero f h = tt
all_tab p (suc n) f h = (h zero, all_tab p n (λ i. f (suc i)) (λ i. h (suc i)))

slices_values : (g : Given) → HeldBySlices g → Binary64Values (task_given g)
slices_values g s = record {
  epsilon = s.epsilon;
  weights = all_tab (λ l. IsBinary64 l.weight) (length g.weights) (table_line (width_of g.qubits) g.keys g.weights) s.weights;
  reals = s.reals;
}

-- ---- what a call answers

called_slices : (v : Way) (c : Call) → CalledAs v c → HeldBySlices c.given
called_slices as_full c C = C.slices
called_slices as_cone c C = C.slices

begun : {f h : Bool} (s : Stage Outcome) → f ≡ true → h ≡ true → results_of (ask 2 f (ask 7 h s)) ≡ results_of s
begun s e d = λ z. results_of (ask 2 (e z) (ask 7 (d z) s))

called_told : (v : Way) (c : Call) → CalledAs v c → Begins c → Passes (task_given c.given) → told_by c.answer ≡ results_of (end_as v (task_given c.given))
called_told as_full c C B p = C.ran.answer ∙ begun (end_as as_full (task_given c.given)) B.fits B.room
called_told as_cone c C B p = (C.cone (p as_cone)).answer ∙ begun (end_as as_cone (task_given c.given)) B.fits B.room

-- ---- ends that agree

same_results : {x y : Stage Outcome} → SameEnd x y → SameAnswer (results_of x) (results_of y)
same_results (same_refusal n) = R.same_refusal n
same_results (both_succeed m d p t) = R.both_succeed m d p t

of_pick : (i : Which) (g h : Given) → task_given (choose i g h) ≡ pick i (task_given g) (task_given h)
of_pick one g h = refl
of_pick another g h = refl

passes_pick : (i : Which) (g h : Given) → Passes (task_given g) → Passes (task_given h) → Passes (task_given (choose i g h))
passes_pick one g h p q = p
passes_pick another g h p q = q

demand_values : (g h : Given) → HeldBySlices g → HeldBySlices h → Passes (task_given g) → Passes (task_given h) → Agree (task_given g) (task_given h) → Demand (task_given g) (task_given h)
demand_values g h s t p q a = demand3 (task_given g) (task_given h) (slices_values g s) (slices_values h t) p q a

pub demand3_of_runs : OfRuns
demand3_of_runs = record {
  slices = called_slices;
  values = demand_values;
  answers = λ g h s t p q a i j v w c d ec ed C D B E.
      let told : told_by c.answer ≡ results_of (end_as v (pick i (task_given g) (task_given h))) =
      called_told v c C B (subst⁻¹ (λ (x : Given). Passes (task_given x)) ec (passes_pick i g h p q)) ∙ ap (λ (x : Given). results_of (end_as v (task_given x))) ec ∙ ap (λ (x : Task). results_of (end_as v x)) (of_pick i g h) in
      let told' : told_by d.answer ≡ results_of (end_as w (pick j (task_given g) (task_given h))) =
      called_told w d D E (subst⁻¹ (λ (x : Given). Passes (task_given x)) ed (passes_pick j g h p q)) ∙ ap (λ (x : Given). results_of (end_as w (task_given x))) ed ∙ ap (λ (x : Task). results_of (end_as w x)) (of_pick j g h) in
      subst⁻¹ (λ (x : Stage Results). SameAnswer x (told_by d.answer)) told
      (subst⁻¹ (λ (y : Stage Results). SameAnswer (results_of (end_as v (pick i (task_given g) (task_given h)))) y) told' (same_results ((demand_values g h s t p q a).same_end i j v w)));
}
