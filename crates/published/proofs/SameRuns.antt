-- Turns and runs of the two forms: the same refusals, and where they go on terms that stand for the complex terms, equal peaks, and means and
-- discarded weights equal as numbers. Assumes nothing.
use Prim.Native.Nat.{ℕ, zero, suc, ◌+◌, ◌*◌, max}
use native.Mathlib.Omega.{arith}
use mathlib.Core.Logic.{⊎_elim}
use mathlib.Core.Path.{◌≡◌, refl, ap, ap₂, ◌∙◌, subst}
use mathlib.Core.Bool.{Bool, true, false, cond, ◌&&◌}
use mathlib.Core.List.{List, [], ◌∷◌}
use lib.Dec as D
use lib.Dec.{eqb, ltb, leb}
use lib.ListN.{length, drop, get_or, replicate, length-replicate, get_or-replicate, get_or-eq_default}
use lib.Ieee.{Float, binary64, lt, fits}
use lib.Ieee.Bits.{of_bits-fits}
use Rattle.numbers.specs.Close.{same}
use Rattle.numbers.specs.Constants.{zero64, one64}
use Rattle.numbers.specs.Tests.{is_finite}
use Rattle.numbers.proofs.CloseLaws.{add_≈, mul_≈, finite_≈}
use Rattle.words.specs.Keys.{Key, z_at, no_letters}
use Rattle.words.proofs.KeyLaws.{flip_at_length, flip_at_words}
use Rattle.terms.specs.declared.Axis.TheVariants.{Z, Zz}
use Rattle.terms.specs.Lists.{All, none, more}
use Rattle.terms.specs.Term.{Term, OnWidth, all_finite}
use Rattle.terms.specs.Start.{term_of}
use Rattle.terms.proofs.CaseLaws.{and_true, lt_or_le}
use Rattle.terms.proofs.AllLaws.{all_imp}
use Rattle.terms.proofs.NearLaws.{each_append, cond_both, cond_same}
use Rattle.terms.proofs.DistinctLaws.{kept_all, merged_width}
use Rattle.ops.specs.declared.Limits.{Limits}
use Rattle.ops.specs.declared.Op.{Op}
use Rattle.ops.specs.declared.Op.TheVariants.{Native, T, Tdg, Rz, P, Rzz, Pauli, Depol, Damp, Phase, Thermal, Depol2, Barrier}
use Rattle.ops.specs.Ops.{targets, on_words}
use Rattle.dynamics.specs.Acts.{act_on, act, met}
use Rattle.dynamics.specs.Turn.{Stage, going, bind, ask, State, fine, drop_small, truncated, checked, settle, Outcome, ended, finish}
use Rattle.ops.specs.Marks.{mark_all}
use Rattle.dynamics.specs.Runs.{turn, step, runs, marked_run, begin}
use Rattle.dynamics.specs.Outcome.{z_key}
use Rattle.dynamics.proofs.KeptLaws.{gate_targets, axis_on, pair_on, act_width}
use Rattle.ops.specs.declared.Run.{Run}
use Rattle.ops.specs.declared.Run.TheVariants as R
use Rattle.ops.specs.Task.{Line, Task, width}
use Rattle.dynamics.specs.Outcome.{terms_of, start_of, nothing_yet, add_line, add_next, fold_lines, ask_totals, folded, or_fold, sum_run, add_z, z_step, all_runs, outcome_of}
use Rattle.published.specs.Term as CT
use Rattle.published.specs.Start as CS
use Rattle.published.specs.Ops as CO
use Rattle.published.specs.Turn as CU
use Rattle.published.specs.Runs as CN
use Rattle.published.specs.Outcome as CQ
use Rattle.published.specs.OneReal.{Both, SameState, SameEnd, Like, stops, goes, Given, OneReal, OneRealPerRow, SameAt}
use Rattle.published.proofs.SameSteps.{Same, Named, named_finite, same_finite, named_same, same_term, same_merged, same_gate, named_rotated, named_channeled}
use Rattle.published.proofs.SameSteps.{same_length, same_kept, same_dropped, same_mean, same_met, weaken}

-- ---- stages of the two forms
module _ {S S' : Type 0} {R : S → S' → Type 0} where
  pub bind_like : {O O' : Type 0} {Q : O → O' → Type 0} (f : S → Stage O) (g : S' → Stage O') → ((s : S) (t : S') → R s t → Like Q (f s) (g t))
      → {x : Stage S} {y : Stage S'} → Like R x y → Like Q (bind x f) (bind y g)
  bind_like f g h (stops n) = stops n
  bind_like f g h (goes {s = s} {t = t} p) = h s t p

  ask_like : (n : ℕ) {b c : Bool} {x : Stage S} {y : Stage S'} → b ≡ c → Like R x y → Like R (ask n b x) (ask n c y)
  ask_like n {b} {x = x} {y} e h = subst (λ (c : Bool). Like R (ask n b x) (ask n c y)) e (go b)
    where
      go : (b : Bool) → Like R (ask n b x) (ask n b y)
      go true = h
      go false = stops n

  -- with what the test says, if it is true
  ask_then : (n : ℕ) {b c : Bool} {x : Stage S} {y : Stage S'} → b ≡ c → (b ≡ true → Like R x y) → Like R (ask n b x) (ask n c y)
  ask_then n {b} {x = x} {y} e h = subst (λ (c : Bool). Like R (ask n b x) (ask n c y)) e (go b h)
    where
      go : (b : Bool) → (b ≡ true → Like R x y) → Like R (ask n b x) (ask n b y)
      go true h = h refl
      go false h = stops n

module _ (w : ℕ) where
  -- ---- an op: question 8 has one answer, and where it is yes the terms stand for the complex terms
  pub act_named : (op : Op) {ts : List Term} {us : List CT.Term} → Both w ts us → Named w (act w op ts) (CO.act w op us)
  unfolding act CO.act
  act_named op {ts} {us} h = go (on_words w (targets op)) refl
    where
      on : (op : Op) → on_words w (targets op) ≡ true → Named w (act_on w op ts) (CO.act_on w op us)
      on (Native g a b) e = weaken w (same_gate w g a b (gate_targets w g a b e) h.wide h.same)
      on (T q) e = named_rotated w (Z q) (axis_on w q e) _ _ h.wide h.same
      on (Tdg q) e = named_rotated w (Z q) (axis_on w q e) _ _ h.wide h.same
      on (Rz q s c) e = named_rotated w (Z q) (axis_on w q e) s c h.wide h.same
      on (P q s c) e = named_rotated w (Z q) (axis_on w q e) s c h.wide h.same
      on (Rzz a b s c) e = named_rotated w (Zz a b) (pair_on w a b e) s c h.wide h.same
      on (Pauli q x y z) e = named_channeled w q 0 _ h.same
      on (Depol q p) e = named_channeled w q 0 _ h.same
      on (Damp q g) e = named_channeled w q 0 _ h.same
      on (Phase q g) e = named_channeled w q 0 _ h.same
      on (Thermal q d p x) e = named_channeled w q 0 _ h.same
      on (Depol2 a b p) e = named_channeled w a b _ h.same
      on Barrier e = weaken w h.same

      go : (b : Bool) → on_words w (targets op) ≡ b → Named w (cond b (act_on w op ts) ts) (cond b (CO.act_on w op us) us)
      go true e = on op e
      go false e = weaken w h.same

  pub act_finite : (op : Op) {ts : List Term} {us : List CT.Term} → Both w ts us → all_finite (act w op ts) ≡ CT.all_finite (CO.act w op us)
  act_finite op h = named_finite w (act_named op h)

  pub act_same : (op : Op) {ts : List Term} {us : List CT.Term} → Both w ts us → all_finite (act w op ts) ≡ true → Both w (act w op ts) (CO.act w op us)
  act_same op {ts = ts} h f = record { same = named_same w (act_named op h) f; wide = act_width w ts op h.wide }

  same_meets : (op : Op) {ts : List Term} {us : List CT.Term} → Same w ts us → met w op ts ≡ CO.met w op us
  unfolding met CO.met
  same_meets op p = ap (λ (n : ℕ). cond (on_words w (targets op)) n 0) (same_met w (targets op) p)

  -- ---- what follows an op
  same_fine : {s : State} {t : CU.State} → SameState w s t → fine s ≡ CU.fine t
  same_fine p = ap₂ ◌&&◌ (same_finite w p.terms.same) (finite_≈ p.discarded)

  same_drop : (e : Float) {s : State} {t : CU.State} → SameState w s t → SameState w (drop_small e s) (CU.drop_small e t)
  same_drop e {s = s} p = record {
    terms = record { same = same_kept w e p.terms.same; wide = kept_all (OnWidth w) e s.terms p.terms.wide };
    peak = p.peak;
    discarded = add_≈ binary64 p.discarded (same_dropped w e p.terms.same);
    touched = p.touched;
  }

  module _ (l : Limits) {s : State} {t : CU.State} (p : SameState w s t) where
    same_truncated : SameState w (truncated l s) (CU.truncated l t)
    same_truncated = cond_same (SameState w) (ap (λ (n : ℕ). ltb 0 l.max_terms && ltb l.max_terms n) (same_length w p.terms.same)) (same_drop l.epsilon p) p

    same_checked : Like (SameState w) (checked l s) (CU.checked l t)
    unfolding checked CU.checked
    same_checked = ask_like 8 (same_fine p) (ask_like 9 (ap (λ (n : ℕ). leb n l.limit) (same_length w p.terms.same))
        (goes (record { terms = p.terms; peak = ap₂ max p.peak (same_length w p.terms.same); discarded = p.discarded; touched = p.touched })))

  -- the state an op leaves: one answer to question 8, and after it states that agree
  same_turn : (l : Limits) (op : Op) {s : State} {t : CU.State} → SameState w s t → Like (SameState w) (turn w l op s) (CN.turn w l op t)
  unfolding settle CU.settle
  same_turn l op {s} {t} p =
      ask_then 8 (ap₂ ◌&&◌ (act_finite op p.terms) (finite_≈ p.discarded))
      (λ f. same_checked l (same_truncated l (record {
        terms = act_same op p.terms (and_true (all_finite (act w op s.terms)) (is_finite s.discarded) f).0;
        peak = p.peak;
        discarded = p.discarded;
        touched = ap₂ ◌+◌ p.touched (same_meets op p.terms.same);
      })))

  same_step : (l : Limits) (m : Bool) (op : Op) (s : State) (t : CU.State) → SameState w s t → Like (SameState w) (step w l m op s) (CN.step w l m op t)
  same_step l true op s t p = same_turn l op p
  same_step l false op s t p = goes p

  -- "after every step that passes question 8": the state at an op's turn is the run of the ops behind it
  pub runs_same : (l : Limits) (ms : List Bool) (ops : List Op) {s : State} {t : CU.State} → SameState w s t → Like (SameState w) (runs w l ms ops s) (CN.runs w l ms ops t)
  unfolding runs CN.runs
  runs_same l ms [] p = goes p
  runs_same l [] (op ∷ ops) p = goes p
  runs_same l (m ∷ ms) (op ∷ ops) p = bind_like (step w l m op) (CN.step w l m op) (same_step l m op) (runs_same l ms ops p)

  -- ---- the end of a run
  same_ended : {s : State} {t : CU.State} → SameState w s t → Like (SameEnd w) (ended w s) (CU.ended w t)
  unfolding ended CU.ended
  same_ended p =
      let m = same_mean w p.terms.same in
      ask_like 8 (ap₂ ◌&&◌ (same_fine p) (finite_≈ m)) (goes (record { terms = p.terms; mean = m; means = none; peak = p.peak; discarded = p.discarded; touched = p.touched }))

  same_finish : (l : Limits) (s : State) (t : CU.State) → SameState w s t → Like (SameEnd w) (finish w l s) (CU.finish w l t)
  unfolding finish CU.finish
  same_finish l s t p = same_ended (cond_both (SameState w) (lt zero64 l.epsilon) (same_drop l.epsilon p) p)

  pub run_same : (l : Limits) (ms : List Bool) (ops : List Op) {s : State} {t : CU.State} → SameState w s t → Like (SameEnd w) (marked_run w l ms ops s) (CN.marked_run w l ms ops t)
  unfolding marked_run CN.marked_run
  run_same l ms ops p = bind_like (finish w l) (CU.finish w l) (same_finish l) (runs_same l ms ops p)

  -- ---- what a run starts from
  pub begin_same : {ts : List Term} {us : List CT.Term} → Both w ts us → SameState w (begin ts) (CN.begin us)
  begin_same p = record { terms = p; peak = same_length w p.same; discarded = same; touched = refl }

  pub term_both : (k : Key) (v : Float) → D.T (fits binary64 v) → OnWidth w (term_of w k v) → Both w (term_of w k v ∷ []) (CS.term_of w k v ∷ [])
  term_both k v f h = record { same = more (same_term w k v f) none; wide = (h, tt) }

  lines_same : (ls : List Line) → All (Given w) ls → Same w (terms_of w ls) (CQ.terms_of w ls)
  unfolding terms_of CQ.terms_of
  lines_same [] h = none
  lines_same (l ∷ ls) h = more (same_term w l.key l.weight h.0.weight) (lines_same ls h.1)

  lines_wide : (ls : List Line) → All (Given w) ls → All (OnWidth w) (terms_of w ls)
  unfolding terms_of
  lines_wide [] h = tt
  lines_wide (l ∷ ls) h = (h.0.wide, lines_wide ls h.1)

  pub start_both : (ls : List Line) → All (Given w) ls → Both w (start_of w ls) (CQ.start_of w ls)
  start_both ls h = record { same = same_merged w (lines_same ls h); wide = merged_width w (terms_of w ls) (lines_wide ls h) }

-- the word alone matters
reweighted : (w : ℕ) (k : Key) (v : Float) → OnWidth w (term_of w k v) → OnWidth w (term_of w k one64)
unfolding term_of
reweighted w k v h = record { long = h.long; words = h.words }

one_fits : D.T (fits binary64 one64)
one_fits = of_bits-fits binary64 0x3ff0_0000_0000_0000

-- ---- Z at one qubit

-- each word of the word without letters is 0
clear_word : (n j : ℕ) → ◌≡◌ {A = ℕ} (get_or (replicate n 0) j 0) 0
clear_word n j = ⊎_elim (get_or-replicate n j z z) (λ h. get_or-eq_default (replicate n z) z (rw (length-replicate n z) h)) (lt_or_le j n)
  where
    z : ℕ
    z = 0

z_wide : (w q : ℕ) → OnWidth w (term_of w (z_key w q) one64)
unfolding term_of
z_wide w q = record {
  long = flip_at_length (no_letters w) (z_at w q) ∙ length-replicate (2 * w) 0;
  words = flip_at_words (no_letters w) (z_at w q) (λ j. rw (clear_word (2 * w) j) (omega arith));
}

-- ---- the runs of a task
module _ (t : Task) (given : All (Given (width t)) t.lines) where
  abbrev w : ℕ
  w = width t

  abbrev Ends : Stage Outcome → Stage CU.Outcome → Type 0
  Ends = Like (SameEnd w)

  no_terms : Both w [] []
  no_terms = record { same = none; wide = tt }

  nothing_same : SameEnd w nothing_yet CQ.nothing_yet
  nothing_same = record { terms = no_terms; mean = same; means = none; peak = refl; discarded = same; touched = refl }

  -- the fold
  same_next : (ms : List Bool) (l : Line) → Given w l → (a : Outcome) (b : CU.Outcome) → SameEnd w a b → Ends (add_next t ms l a) (CQ.add_next t ms l b)
  same_next ms l g a b p =
      bind_like (λ o. going (add_line a l.weight o)) (λ o. going (CQ.add_line b l.weight o))
      (λ o o' q. goes (record {
        terms = no_terms;
        mean = add_≈ binary64 p.mean (mul_≈ binary64 same q.mean);
        means = none;
        peak = ap₂ max p.peak q.peak;
        discarded = add_≈ binary64 p.discarded (mul_≈ binary64 same q.discarded);
        touched = ap₂ ◌+◌ p.touched q.touched;
      }))
      (run_same w t.limits ms t.ops (begin_same w (term_both w l.key one64 one_fits (reweighted w l.key l.weight g.wide))))

  same_lines : (ms : List Bool) (ls : List Line) → All (Given w) ls → (a : Outcome) (b : CU.Outcome) → SameEnd w a b → Ends (fold_lines t ms ls a) (CQ.fold_lines t ms ls b)
  unfolding fold_lines CQ.fold_lines
  same_lines ms [] h a b p = goes p
  same_lines ms (l ∷ ls) h a b p = bind_like (fold_lines t ms ls) (CQ.fold_lines t ms ls) (same_lines ms ls h.1) (same_next ms l h.0 a b p)

  pub folded_same : (ms : List Bool) → Ends (folded t ms) (CQ.folded t ms)
  folded_same ms =
      bind_like ask_totals CQ.ask_totals (λ a b p. ask_like 8 (ap₂ ◌&&◌ (finite_≈ p.mean) (finite_≈ p.discarded)) (goes p))
      (same_lines ms t.lines given nothing_yet CQ.nothing_yet nothing_same)

  same_or_fold : (ms : List Bool) {x : Stage Outcome} {y : Stage CU.Outcome} → Ends x y → Ends (or_fold t ms x) (CQ.or_fold t ms y)
  same_or_fold ms (goes p) = goes p
  same_or_fold ms (stops n) = cond_both Ends (eqb n 9 && ltb 1 (length t.lines)) (folded_same ms) (stops n)

  -- full, cone and path, under any marks
  pub sum_same : (ms : List Bool) → Ends (sum_run t ms) (CQ.sum_run t ms)
  sum_same ms = same_or_fold ms (run_same w t.limits ms t.ops (begin_same w (start_both w t.lines given)))

  -- `all`
  same_z : (q : ℕ) (a : Outcome) (b : CU.Outcome) → SameEnd w a b
      → Ends (z_step w t.limits (mark_all t.ops) t.ops q a) (CQ.z_step w t.limits (mark_all t.ops) t.ops q b)
  same_z q a b p =
      bind_like (λ o. going (add_z a o)) (λ o. going (CQ.add_z b o))
      (λ o o' e. goes (record { terms = no_terms; mean = same; means = each_append p.means (more e.mean none); peak = e.peak; discarded = e.discarded; touched = ap₂ ◌+◌ p.touched e.touched }))
      (run_same w t.limits (mark_all t.ops) t.ops (record { terms = term_both w (z_key w q) one64 one_fits (z_wide w q); peak = p.peak; discarded = p.discarded; touched = refl }))

  pub all_same : (k : ℕ) → Ends (all_runs t k) (CQ.all_runs t k)
  unfolding all_runs CQ.all_runs
  all_same zero = goes nothing_same
  all_same (suc k) = bind_like (z_step w t.limits (mark_all t.ops) t.ops k) (CQ.z_step w t.limits (mark_all t.ops) t.ops k) (same_z k) (all_same k)

  -- each of the four bars
  pub outcome_same : (r : Run) → Ends (outcome_of r t) (CQ.outcome_of r t)
  outcome_same R.Full = sum_same _
  outcome_same R.Cone = sum_same _
  outcome_same R.Path = sum_same _
  outcome_same R.Wide = sum_same _
  outcome_same R.All = all_same t.qubits

  -- ---- every turn
  at_turn : (ms : List Bool) (k : ℕ) {s : State} {u : CU.State} → SameState w s u → SameAt t ms k s u
  at_turn ms k p = runs_same w t.limits (drop k ms) (drop k t.ops) p

  pub one_real_of : OneReal t
  one_real_of = record {
    steps = λ op ts us h. (act_finite w op h, act_same w op h);
    turns = λ ms k. at_turn ms k (begin_same w (start_both w t.lines given));
    lines = λ ms k. all_imp (Given w) (λ l. SameAt t ms k (begin (term_of w l.key one64 ∷ [])) (CN.begin (CS.term_of w l.key one64 ∷ []))) t.lines
        (λ l g. at_turn ms k (begin_same w (term_both w l.key one64 one_fits (reweighted w l.key l.weight g.wide)))) given;
    qubits = λ ms k q p n d. at_turn ms k (record { terms = term_both w (z_key w q) one64 one_fits (z_wide w q); peak = refl; discarded = same; touched = refl });
    ends = outcome_same;
  }

pub one_real : OneRealPerRow
one_real t given = one_real_of t given
