-- Ops outside the inverse light cone change nothing: a run that sets at least the ops of the cone ends like the cone run, an op that the cone
-- does not mark meets identities only at its turn, and runs whose marked ops agree end alike. Assumes nothing.
use mathlib.Core.Path.{◌≡◌, refl, sym, ap, ap₂, ◌∙◌, subst}
use Prim.Native.Nat.{ℕ, ◌+◌}
use native.Mathlib.Omega.{arith}
use mathlib.Core.Bool.{Bool, true, false, not, ◌||◌, cond, false≢true}
use mathlib.Core.List.{List, [], ◌∷◌, ◌++◌}
use lib.Dec.{eqb}
use borrow.Author.Tests.{eqb-false}
use Rattle.numbers.specs.Close.{◌≈◌}
use Rattle.terms.specs.Lists.{All, Each, none, more}
use Rattle.terms.specs.Term.{Term}
use Rattle.terms.proofs.AllLaws.{all_imp}
use Rattle.terms.proofs.LetterSteps.{Apart, Clear, ClearAt}
use Rattle.ops.specs.declared.Limits.{Limits}
use Rattle.ops.specs.declared.Op.{Op}
use Rattle.ops.specs.declared.Op.TheVariants.{Native, T, Tdg, Rz, P, Rzz, Pauli, Depol, Damp, Phase, Thermal, Depol2, Barrier}
use Rattle.ops.specs.Ops.{shape_of, targets, is_barrier}
use Rattle.dynamics.specs.Acts.{act, met}
use Rattle.dynamics.specs.Turn.{Stage, refused, going, bind, State, state, settle, finish, UnlessRefused}
use Rattle.dynamics.specs.Runs.{turn, step, runs, marked_run}
use Rattle.ops.specs.Marks.{mark_all, mark_path, member, touches, cone_of, mark_cone}
use Rattle.ops.specs.SameOps.{SameOp, chosen}
use Rattle.dynamics.proofs.ActLaws.{same_op, act_near, act_unmet, act_clear, met_near, met_unmet}
use Rattle.dynamics.proofs.Alike.{Like, stops, goes, like_trans, bind_like, holds_imp, bind_holds, Near, near_refl, near_trans, NearLimits, near_limits_refl}
use Rattle.dynamics.proofs.Alike.{near_settle, Settled, settle_settled, settle_clear, NearEnd, near_finish, FiniteEnd, finite_finish}

-- ---- sets of qubits
pub or_false : (a b : Bool) → (a || b) ≡ false → (a ≡ false) × (b ≡ false)
or_false true b h = absurd (false≢true (sym h))
or_false false b h = (refl, h)

untouched : (qs c : List ℕ) → touches qs c ≡ false → All (λ q. member q c ≡ false) qs
unfolding touches
untouched [] c h = tt
untouched (q ∷ qs) c h = let p = or_false (member q c) (touches qs c) h in (p.0, untouched qs c p.1)

outside : (qs c : List ℕ) (r : ℕ) → member r (qs ++ c) ≡ false → Apart r qs × (member r c ≡ false)
unfolding member
outside [] c r h = (tt, h)
outside (q ∷ qs) c r h =
    let p = or_false (eqb r q) (member r (qs ++ c)) h in
    let o = outside qs c r p.1 in
    ((λ e. eqb-false r q p.0 (sym e), o.0), o.1)

-- ---- the marks set every op that the cone marks, and perhaps others
abbrev pub Covers : List ℕ → List Bool → List Op → Type 0
Covers qs ms [] = Unit {0}
Covers qs [] (op ∷ ops) = ⊥
Covers qs (m ∷ ms) (op ∷ ops) = (touches (targets op) (cone_of qs ops) ≡ true → m ≡ true) × Covers qs ms ops

pub covers_all : (qs : List ℕ) (ops : List Op) → Covers qs (mark_all ops) ops
covers_all qs [] = tt
covers_all qs (op ∷ ops) = (λ e. refl, covers_all qs ops)

pub covers_cone : (qs : List ℕ) (ops : List Op) → Covers qs (mark_cone qs ops) ops
unfolding mark_cone
covers_cone qs [] = tt
covers_cone qs (op ∷ ops) = (λ e. e, covers_cone qs ops)

-- `path` leaves out barriers alone, which have no target
path_covers : (op : Op) (c : List ℕ) → touches (targets op) c ≡ true → not (is_barrier (shape_of op).sort) ≡ true
unfolding touches
path_covers (Native g a b) c e = refl
path_covers (T q) c e = refl
path_covers (Tdg q) c e = refl
path_covers (Rz q s d) c e = refl
path_covers (P q s d) c e = refl
path_covers (Rzz a b s d) c e = refl
path_covers (Pauli q px py pz) c e = refl
path_covers (Depol q p) c e = refl
path_covers (Damp q gamma) c e = refl
path_covers (Phase q gamma) c e = refl
path_covers (Thermal q gad gpd excited) c e = refl
path_covers (Depol2 a b p) c e = refl
path_covers Barrier c e = e

pub covers_path : (qs : List ℕ) (ops : List Op) → Covers qs (mark_path ops) ops
covers_path qs [] = tt
covers_path qs (op ∷ ops) = (path_covers op (cone_of qs ops), covers_path qs ops)

module _ (w : ℕ) where
  abbrev acted : Op → State → State
  acted op s = state (act w op s.terms) s.peak s.discarded (s.touched + met w op s.terms)

  near_turn : {l l' : Limits} {o p : Op} {s t : State} → NearLimits l l' → SameOp ◌≈◌ o p → Near s t → Like Near (turn w l o s) (turn w l' p t)
  near_turn e o n = near_settle e (record { terms = act_near w o n.terms; peak = n.peak; discarded = n.discarded; touched = ap₂ ◌+◌ n.touched (met_near w o n.terms) })

  -- an op that meets identities only changes nothing, and is counted as nothing
  acted_unmet : (op : Op) (s : State) → ClearAt w (targets op) s.terms → acted op s ≡ s
  acted_unmet op s h =
      ap₂ (λ (ts : List Term) (n : ℕ). state ts s.peak s.discarded n) (act_unmet w op s.terms h)
      (ap (λ (n : ℕ). s.touched + n) (met_unmet w op s.terms h) ∙ omega arith)

  pub run_finite : (l : Limits) (ms : List Bool) (ops : List Op) (s : State) → UnlessRefused FiniteEnd (marked_run w l ms ops s)
  unfolding marked_run
  run_finite l ms ops s = go (runs w l ms ops s)
    where
      go : (x : Stage State) → UnlessRefused FiniteEnd (bind x (finish w l))
      go (refused n) = tt
      go (going t) = finite_finish w l t

  -- ---- one list of ops, from any start that has letters at the qs only
  module _ (l : Limits) (s₀ : State) (qs : List ℕ) (clear₀ : (q : ℕ) → member q qs ≡ false → Clear w q s₀.terms) where
    -- what the run keeps: it has letters in the cone only
    record Inside (c : List ℕ) (s : State) : Type 0 where
      clear : (q : ℕ) → member q c ≡ false → Clear w q s.terms

    unmet : {c : List ℕ} {s : State} (op : Op) → Inside c s → touches (targets op) c ≡ false → ClearAt w (targets op) s.terms
    unmet {c} {s} op i h = all_imp (λ q. member q c ≡ false) (λ q. Clear w q s.terms) (targets op) i.clear (untouched (targets op) c h)

    abbrev next : List ℕ → Op → List ℕ
    next c op = cond (touches (targets op) c) (targets op ++ c) c

    turn_inside : (c : List ℕ) (op : Op) (s : State) → Inside c s → UnlessRefused (Inside (next c op)) (turn w l op s)
    turn_inside c op s i = both (turn w l op s) (λ q h. settle_clear w q l (acted op s) (go (touches (targets op) c) refl q h))
      where
        both : (x : Stage State) → ((q : ℕ) → member q (next c op) ≡ false → UnlessRefused (λ t. Clear w q t.terms) x) → UnlessRefused (Inside (next c op)) x
        both (refused n) b = tt
        both (going t) b = record { clear = b }

        go : (b : Bool) → touches (targets op) c ≡ b → (q : ℕ) → member q (cond b (targets op ++ c) c) ≡ false → Clear w q (acted op s).terms
        go true e q h = let o = outside (targets op) c q h in act_clear w op q s.terms o.0 (i.clear q o.1)
        go false e q h = subst (Clear w q) (sym (act_unmet w op s.terms (unmet op i e))) (i.clear q h)

    step_inside : (c : List ℕ) (op : Op) (m : Bool) → (touches (targets op) c ≡ true → m ≡ true) → (s : State) → Inside c s → UnlessRefused (Inside (next c op)) (step w l m op s)
    step_inside c op true k s i = turn_inside c op s i
    step_inside c op false k s i = go (touches (targets op) c) k
      where
        go : (b : Bool) → (b ≡ true → false ≡ true) → Inside (cond b (targets op ++ c) c) s
        go true k = absurd (false≢true (k refl))
        go false k = i

    inside : (ms : List Bool) (ops : List Op) → Covers qs ms ops → UnlessRefused (Inside (cone_of qs ops)) (runs w l ms ops s₀)
    unfolding runs cone_of
    inside ms [] k = record { clear = clear₀ }
    inside [] (op ∷ ops) k = absurd k
    inside (m ∷ ms) (op ∷ ops) k =
        let c = cone_of qs ops in
        bind_holds (Inside c) (Inside (next c op)) (runs w l ms ops s₀) (step w l m op) (inside ms ops k.1) (step_inside c op m k.0)

    -- an op that the cone does not mark meets identities only when its turn comes, after the ops of the list; whatever the start and the limits
    pub unmarked_unmet : (op : Op) (ms : List Bool) (ops : List Op) → Covers qs ms ops → touches (targets op) (cone_of qs ops) ≡ false
        → UnlessRefused (λ s. ClearAt w (targets op) s.terms) (runs w l ms ops s₀)
    unmarked_unmet op ms ops k h =
        holds_imp (Inside (cone_of qs ops)) (λ s. ClearAt w (targets op) s.terms) (runs w l ms ops s₀) (λ s i. unmet op i h) (inside ms ops k)

    -- ---- if the start is settled: a run that sets at least the ops of the cone ends like the cone run
    module _ (settled₀ : Settled l s₀) where
      settled : (ms : List Bool) (ops : List Op) → UnlessRefused (Settled l) (runs w l ms ops s₀)
      unfolding runs
      settled ms [] = settled₀
      settled [] (op ∷ ops) = settled₀
      settled (m ∷ ms) (op ∷ ops) = bind_holds (Settled l) (Settled l) (runs w l ms ops s₀) (step w l m op) (settled ms ops) (go m)
        where
          go : (m : Bool) (s : State) → Settled l s → UnlessRefused (Settled l) (step w l m op s)
          go true s h = settle_settled l (acted op s)
          go false s h = h

      step_like : (c : List ℕ) (op : Op) (m : Bool) → (touches (targets op) c ≡ true → m ≡ true) → {x y : Stage State} → UnlessRefused (Inside c) x → UnlessRefused (Settled l) x → Like Near x y
          → Like Near (bind x (step w l m op)) (bind y (step w l (touches (targets op) c) op))
      step_like c op m k i j (stops n) = stops n
      step_like c op m k i j (goes {s} {t} p) = go m (touches (targets op) c) refl k
        where
          go : (m b : Bool) → touches (targets op) c ≡ b → (b ≡ true → m ≡ true) → Like Near (step w l m op s) (step w l b op t)
          go true true e k = near_turn (near_limits_refl l) (same_op op) p
          go true false e k = subst (λ (u : State). Like Near (settle l u) (going t)) (sym (acted_unmet op s (unmet op i e))) (like_trans near_trans j (goes p))
          go false true e k = absurd (false≢true (k refl))
          go false false e k = goes p

      covered : (ms : List Bool) (ops : List Op) → Covers qs ms ops → Like Near (runs w l ms ops s₀) (runs w l (mark_cone qs ops) ops s₀)
      unfolding runs mark_cone
      covered ms [] k = goes (near_refl s₀)
      covered [] (op ∷ ops) k = absurd k
      covered (m ∷ ms) (op ∷ ops) k = step_like (cone_of qs ops) op m k.0 (inside ms ops k.1) (settled ms ops) (covered ms ops k.1)

      pub cone_run : (ms : List Bool) (ops : List Op) → Covers qs ms ops → Like NearEnd (marked_run w l ms ops s₀) (marked_run w l (mark_cone qs ops) ops s₀)
      unfolding marked_run
      cone_run ms ops k = bind_like (finish w l) (finish w l) (λ s t p. near_finish w (near_limits_refl l) p) (covered ms ops k)

  -- ---- two lists of ops

  -- a run that skips what is not marked is the run of what is
  run_chosen : (l : Limits) (ms : List Bool) (ops : List Op) (s : State) → runs w l ms ops s ≡ runs w l (mark_all (chosen ms ops)) (chosen ms ops) s
  unfolding runs chosen
  run_chosen l ms [] s = refl
  run_chosen l [] (op ∷ ops) s = refl
  run_chosen l (true ∷ ms) (op ∷ ops) s = ap (λ (x : Stage State). bind x (turn w l op)) (run_chosen l ms ops s)
  run_chosen l (false ∷ ms) (op ∷ ops) s = bind_going (runs w l ms ops s) ∙ run_chosen l ms ops s
    where
      bind_going : (x : Stage State) → bind x (λ t. going t) ≡ x
      bind_going (refused n) = refl
      bind_going (going t) = refl

  module _ {l l' : Limits} (e : NearLimits l l') {s t : State} (p : Near s t) where
    near_all : {os ps : List Op} → Each (SameOp ◌≈◌) os ps → Like Near (runs w l (mark_all os) os s) (runs w l' (mark_all ps) ps t)
    unfolding runs
    near_all none = goes p
    near_all (more {a} {d} o os) = bind_like (turn w l a) (turn w l' d) (λ u v n. near_turn e o n) (near_all os)

    -- runs whose marked ops agree end alike
    pub same_marked : (ms ns : List Bool) (os ps : List Op) → Each (SameOp ◌≈◌) (chosen ms os) (chosen ns ps) → Like NearEnd (marked_run w l ms os s) (marked_run w l' ns ps t)
    unfolding marked_run
    same_marked ms ns os ps m =
        rw (run_chosen l ms os s, run_chosen l' ns ps t) (bind_like (finish w l) (finish w l') (λ u v n. near_finish w e n) (near_all m))
