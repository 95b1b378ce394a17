-- Marks past the ops do not matter to a run. Assumes nothing.
use mathlib.Core.Path.{◌≡◌, refl, ap}
use mathlib.Core.Bool.{Bool}
use mathlib.Core.List.{List, [], ◌∷◌}
use Prim.Native.Nat.{ℕ, ◌≤◌}
use native.Mathlib.Omega.{arith}
use lib.ListN.{length}
use Rattle.ops.specs.declared.Limits.{Limits}
use Rattle.ops.specs.declared.Op.{Op}
use Rattle.dynamics.specs.Turn.{Stage, State, bind, finish}
use Rattle.dynamics.specs.Runs.{step, runs, marked_run}
use Rattle.ops.specs.Sets.{overlay}

module _ (w : ℕ) (l : Limits) where
  runs_overlay : (ms over : List Bool) (ops : List Op) (s : State) → length ms ≡ length ops → length ops ≤ length over → runs w l (overlay ms over) ops s ≡ runs w l ms ops s
  unfolding runs overlay
  runs_overlay [] [] [] s h k = refl
  runs_overlay [] (x ∷ over) [] s h k = refl
  runs_overlay [] over (op ∷ ops) s h k = absurd (omega arith)
  runs_overlay (m ∷ ms) over [] s h k = absurd (omega arith)
  runs_overlay (m ∷ ms) [] (op ∷ ops) s h k = absurd (omega arith)
  runs_overlay (m ∷ ms) (x ∷ over) (op ∷ ops) s h k = ap (λ (r : Stage State). bind r (step w l m op)) (runs_overlay ms over ops s (omega arith) (omega arith))

-- marks written over a list that is long enough
pub marked_overlay : (w : ℕ) (l : Limits) (ms over : List Bool) (ops : List Op) (s : State) → length ms ≡ length ops → length ops ≤ length over → marked_run w l (overlay ms over) ops s ≡ marked_run w l ms ops s
unfolding marked_run
marked_overlay w l ms over ops s h k = ap (λ (r : Stage State). bind r (finish w l)) (runs_overlay w l ms over ops s h k)
