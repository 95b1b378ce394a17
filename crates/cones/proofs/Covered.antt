-- One argument for the runs that skip: a sum under any marks that set at least the ops of the cone ends like the sum under the cone's marks, the
-- fold included, where the cone is grown from qubits that take in every letter of every line. Demand 3 and the wide run rest on it. Assumes nothing.
use mathlib.Core.Path.{◌≡◌, refl, sym, ap, ap₂, ◌∙◌, subst}
use Prim.Native.Nat.{ℕ, zero, suc, ◌+◌, ◌*◌, ◌%◌, ◌<◌, max}
use native.Mathlib.Nat.{le_refl, le_of_suc-le-suc, not-suc-le-zero}
use native.Mathlib.Omega.{arith}
use mathlib.Core.Bool.{Bool, true, false, ◌&&◌, ◌||◌, cond, false≢true}
use mathlib.Core.Logic.{◌⊎◌, inl, inr}
use mathlib.Core.List.{List, [], ◌∷◌}
use lib.Dec.{eqb, ltb, leb}
use borrow.Author.Tests.{le-ltb, ltb-true, eqb-false}
use lib.ListN.{length, drop, get_or}
use lib.Ieee.{Float, binary64, neg, of_bits, lt}
use Rattle.numbers.specs.Close.{same}
use Rattle.numbers.specs.Constants.{zero64, one64}
use Rattle.numbers.specs.Tests.{is_finite}
use Rattle.numbers.proofs.CloseLaws.{add_≈, mul_≈, finite_≈}
use Rattle.numbers.proofs.TestLaws.{holds}
use Rattle.words.specs.Keys.{Key, has_letter}
use Rattle.words.proofs.LetterLaws.{letter, no_letter}
use Rattle.terms.specs.Lists.{All, none}
use Rattle.terms.specs.Coefficient.{signed, finite_of}
use Rattle.terms.specs.Term.{Term, all_finite}
use Rattle.words.specs.Letters.{ys_of}
use Rattle.terms.specs.Start.{term_of}
use Rattle.terms.specs.Truncation.{crowded}
use Rattle.terms.specs.Mean.{mean_of}
use Rattle.terms.proofs.CaseLaws.{and_true, and-false, eq_or_ne}
use Rattle.terms.proofs.AllLaws.{all_at, all_imp, all_and}
use Rattle.terms.proofs.StepLaws.{merged_keeps}
use Rattle.terms.proofs.LetterSteps.{Within, Clear, ClearAt}
use Rattle.ops.specs.declared.Limits.{Limits}
use Rattle.ops.specs.declared.Op.{Op}
use Rattle.ops.specs.declared.Op.TheVariants.{Barrier}
use Rattle.ops.specs.Ops.{targets}
use Rattle.dynamics.specs.Acts.{act, met}
use Rattle.dynamics.specs.Turn.{UnlessRefused, Stage, refused, going, bind, ask, State, state, fine, drop_small, checked, truncated, settle, ended, finish, Outcome, outcome}
use Rattle.ops.specs.Task.{Line, Task, width, letters_below, qubits_of}
use Rattle.dynamics.specs.Runs.{turn, step, runs, marked_run, begin}
use Rattle.ops.specs.Marks.{member, touches, cone_of, mark_cone}
use Rattle.cones.specs.LightCone.{MeetsIdentities}
use Rattle.dynamics.specs.Outcome.{terms_of, start_of, nothing_yet, alone, add_line, fold_lines, ask_totals, folded, or_fold, sum_run}
use Rattle.dynamics.proofs.FiniteLaws.{act_finite, kept_finite}
use Rattle.dynamics.proofs.Alike.{Like, stops, goes, holds_imp, bind_like, ask_like, ask_holds, near_refl, Settled, settled_of, NearEnd, FiniteEnd}
use Rattle.dynamics.proofs.Cone.{or_false, Covers, cone_run, unmarked_unmet, run_finite}

-- ---- the qubits of a word
below_clear : (w n q : ℕ) (k : Key) → member q (letters_below w n k) ≡ false → q < n → has_letter w k q ≡ false
unfolding letters_below member
below_clear w zero q k h b = absurd (not-suc-le-zero b)
below_clear w (suc n) q k h b = go (has_letter w k n) refl h (below_clear w n q k)
  where
    go : (t : Bool) → has_letter w k n ≡ t → let r = letters_below w n k in
        member q (cond t (n ∷ r) r) ≡ false → (member q r ≡ false → q < n → has_letter w k q ≡ false) → has_letter w k q ≡ false
    go true e h f =
        let p = or_false (eqb q n) (member q (letters_below w n k)) h in
        let d = eqb-false q n p.0 in
        f p.1 (omega arith)
    go false e h f = elim (eq_or_ne q n) [
      | inl p ↦ subst (λ (m : ℕ). has_letter w k m ≡ false) (sym p) e
      | inr p ↦ f h (omega arith)
    ]

pub word_clear : (w q : ℕ) (k : Key) → member q (qubits_of w k) ≡ false → letter w k q ≡ false
word_clear w q k h = go (ltb q (64 * w)) refl
  where
    go : (b : Bool) → ltb q (64 * w) ≡ b → (b && has_letter w k q) ≡ false
    go true e = below_clear w (64 * w) q k h (ltb-true q (64 * w) e)
    go false e = refl

-- ---- a start that is not finite: its run meets 8, whatever the marks and the ops

module _ (w : ℕ) (l : Limits) (s : State) (wild : all_finite s.terms ≡ false) where
  not_fine : (u : State) → (all_finite u.terms ≡ true → all_finite s.terms ≡ true) → fine u ≡ false
  not_fine u h = go (all_finite u.terms) h
    where
      go : (b : Bool) → (b ≡ true → all_finite s.terms ≡ true) → (b && is_finite u.discarded) ≡ false
      go true h = absurd (false≢true (sym wild ∙ h refl))
      go false h = refl

  wild_turn : (op : Op) → turn w l op s ≡ refused 8
  unfolding settle
  wild_turn op =
      let u = state (act w op s.terms) s.peak s.discarded (s.touched + met w op s.terms) in
      ap (λ (b : Bool). ask 8 b (checked l (truncated l u))) (not_fine u (act_finite w op s.terms))

  -- it has not begun, or is refused
  wild_runs : (ms : List Bool) (ops : List Op) → (runs w l ms ops s ≡ refused 8) ⊎ (runs w l ms ops s ≡ going s)
  unfolding runs
  wild_runs ms [] = inr refl
  wild_runs [] (op ∷ ops) = inr refl
  wild_runs (m ∷ ms) (op ∷ ops) = go m (wild_runs ms ops)
    where
      go : (m : Bool) → (runs w l ms ops s ≡ refused 8) ⊎ (runs w l ms ops s ≡ going s)
          → (bind (runs w l ms ops s) (step w l m op) ≡ refused 8) ⊎ (bind (runs w l ms ops s) (step w l m op) ≡ going s)
      go m (inl e) = inl (ap (λ (x : Stage State). bind x (step w l m op)) e)
      go true (inr e) = inl (ap (λ (x : Stage State). bind x (step w l true op)) e ∙ wild_turn op)
      go false (inr e) = inr (ap (λ (x : Stage State). bind x (step w l false op)) e)

  wild_end : finish w l s ≡ refused 8
  unfolding finish ended
  wild_end = go (lt zero64 l.epsilon)
    where
      no : (u : State) → fine u ≡ false → let m = mean_of w u.terms in
          ask 8 (fine u && is_finite m) (going (outcome u.terms m [] u.peak u.discarded u.touched)) ≡ refused 8
      no u e = ap (λ (b : Bool). let m = mean_of w u.terms in ask 8 (b && is_finite m) (going (outcome u.terms m [] u.peak u.discarded u.touched))) e

      go : (b : Bool) → let u = cond b (drop_small l.epsilon s) s in let m = mean_of w u.terms in
          ask 8 (fine u && is_finite m) (going (outcome u.terms m [] u.peak u.discarded u.touched)) ≡ refused 8
      go true = let e = l.epsilon in no (drop_small e s) (not_fine (drop_small e s) (kept_finite w e s.terms))
      go false = no s (not_fine s (λ h. h))

  pub wild_run : (ms : List Bool) (ops : List Op) → marked_run w l ms ops s ≡ refused 8
  unfolding marked_run
  wild_run ms ops = go (wild_runs ms ops)
    where
      go : (runs w l ms ops s ≡ refused 8) ⊎ (runs w l ms ops s ≡ going s) → bind (runs w l ms ops s) (finish w l) ≡ refused 8
      go (inl e) = ap (λ (x : Stage State). bind x (finish w l)) e
      go (inr e) = ap (λ (x : Stage State). bind x (finish w l)) e ∙ wild_end

-- ---- the starts: the lines merged, and one line alone

terms_clear : (w q : ℕ) (ls : List Line) → All (λ l. letter w l.key q ≡ false) ls → Clear w q (terms_of w ls)
unfolding terms_of term_of
terms_clear w q [] h = tt
terms_clear w q (l ∷ ls) h = (h.0, terms_clear w q ls h.1)

pub start_clear : (w q : ℕ) (ls : List Line) → All (λ l. letter w l.key q ≡ false) ls → Clear w q (start_of w ls)
start_clear w q ls h = merged_keeps (λ (t : Term). letter w t.key q ≡ false) (λ k c d e f. e) (λ t e. e) (terms_of w ls) (terms_clear w q ls h)

pub finite_one : (w : ℕ) (k : Key) → all_finite (term_of w k one64 ∷ []) ≡ true
unfolding all_finite term_of neg of_bits
finite_one w k = go (ltb 1 (ys_of w k % 4))
  where
    go : (b : Bool) → (finite_of (signed b one64) && true) ≡ true
    go true = refl
    go false = refl

-- one term is never more than max_terms
pub one_fits : (m : ℕ) (t : Term) → crowded m (t ∷ []) ≡ false
one_fits zero t = refl
one_fits (suc m) t = ap (λ (b : Bool). ltb 0 (suc m) && b) (le-ltb (suc m) 1 (omega arith)) ∙ and-false (ltb 0 (suc m))

begin_settled : (l : Limits) (ts : List Term) → all_finite ts ≡ true → leb (length ts) l.limit ≡ true → crowded l.max_terms ts ≡ false → Settled l (begin ts)
unfolding of_bits
begin_settled l ts f g h = settled_of l (begin ts) (ap (λ (b : Bool). b && true) f) g (le_refl (length ts)) (rw h (near_refl (begin ts)))

-- ---- totals

near_line : (x : Float) {a b o p : Outcome} → NearEnd a b → NearEnd o p → NearEnd (add_line a x o) (add_line b x p)
near_line x e f = record {
  terms = none;
  mean = add_≈ binary64 e.mean (mul_≈ binary64 same f.mean);
  means = refl;
  peak = ap₂ max e.peak f.peak;
  discarded = add_≈ binary64 e.discarded (mul_≈ binary64 same f.discarded);
  touched = ap₂ ◌+◌ e.touched f.touched;
}

near_nothing : NearEnd nothing_yet nothing_yet
near_nothing = record { terms = none; mean = same; means = refl; peak = refl; discarded = same; touched = refl }

near_totals : {a b : Outcome} → NearEnd a b → Like NearEnd (ask_totals a) (ask_totals b)
near_totals e = ask_like 8 (ap₂ ◌&&◌ (finite_≈ e.mean) (finite_≈ e.discarded)) (goes e)

-- ---- the sum

-- what a task asks of the qubits that a cone is grown from, and of its limits
pub record Spread (t : Task) (qs : List ℕ) : Type 0 where
  -- every letter of every line is at one of the qubits
  pub clear : (q : ℕ) → member q qs ≡ false → All (λ l. letter (width t) l.key q ≡ false) t.lines
  -- the merged terms and one term are no more than limit, and truncation does not drop at the start
  pub few : leb (length (start_of (width t) t.lines)) t.limits.limit ≡ true
  pub some : leb 1 t.limits.limit ≡ true
  pub uncrowded : crowded t.limits.max_terms (start_of (width t) t.lines) ≡ false

module _ (t : Task) (qs : List ℕ) (g : Spread t qs) (ms : List Bool) (k : Covers qs ms t.ops) where
  abbrev cone : List Bool
  cone = mark_cone qs t.ops

  abbrev w : ℕ
  w = width t

  merged_like : let s = begin (start_of w t.lines) in Like NearEnd (marked_run w t.limits ms t.ops s) (marked_run w t.limits cone t.ops s)
  merged_like = go (all_finite (start_of w t.lines)) refl
    where
      s : State
      s = begin (start_of w t.lines)

      go : (b : Bool) → all_finite s.terms ≡ b → Like NearEnd (marked_run w t.limits ms t.ops s) (marked_run w t.limits cone t.ops s)
      go true f = cone_run w t.limits s qs (λ q h. start_clear w q t.lines (g.clear q h)) (begin_settled t.limits s.terms f g.few g.uncrowded) ms t.ops k
      go false f = rw (wild_run w t.limits s f ms t.ops, wild_run w t.limits s f cone t.ops) (stops 8)

  alone_like : (l : Line) → ((q : ℕ) → member q qs ≡ false → letter w l.key q ≡ false) → Like NearEnd (alone t ms l) (alone t cone l)
  unfolding term_of
  alone_like l c =
      let one = term_of w l.key one64 in
      cone_run w t.limits (begin (one ∷ [])) qs (λ q h. (c q h, tt)) (begin_settled t.limits (one ∷ []) (finite_one w l.key) g.some (one_fits t.limits.max_terms one)) ms t.ops k

  lines_like : (ls : List Line) → ((q : ℕ) → member q qs ≡ false → All (λ l. letter w l.key q ≡ false) ls) → (a b : Outcome) → NearEnd a b
      → Like NearEnd (fold_lines t ms ls a) (fold_lines t cone ls b)
  unfolding fold_lines
  lines_like [] c a b e = goes e
  lines_like (l ∷ ls) c a b e =
      bind_like (fold_lines t ms ls) (fold_lines t cone ls) (λ x y n. lines_like ls (λ q h. (c q h).1) x y n)
      (bind_like (λ o. going (add_line a l.weight o)) (λ o. going (add_line b l.weight o)) (λ o p n. goes (near_line l.weight e n)) (alone_like l (λ q h. (c q h).0)))

  fold_like : Like NearEnd (folded t ms) (folded t cone)
  fold_like = bind_like ask_totals ask_totals (λ a b e. near_totals e) (lines_like t.lines g.clear nothing_yet nothing_yet near_nothing)

  or_like : {x y : Stage Outcome} → Like NearEnd x y → Like NearEnd (or_fold t ms x) (or_fold t cone y)
  or_like (goes p) = goes p
  or_like (stops n) = go (eqb n 9 && ltb 1 (length t.lines))
    where
      go : (b : Bool) → Like NearEnd (cond b (folded t ms) (refused n)) (cond b (folded t cone) (refused n))
      go true = fold_like
      go false = stops n

  -- any marks that set at least the ops of the cone end like the cone's
  pub covered_sum : Like NearEnd (sum_run t ms) (sum_run t cone)
  covered_sum = or_like merged_like

-- an end that is reached is finite
pub sum_finite : (t : Task) (ms : List Bool) → UnlessRefused FiniteEnd (sum_run t ms)
sum_finite t ms = go (marked_run (width t) t.limits ms t.ops s) (run_finite (width t) t.limits ms t.ops s)
  where
    s : State
    s = begin (start_of (width t) t.lines)

    totals : (x : Stage Outcome) → UnlessRefused FiniteEnd (bind x ask_totals)
    totals (refused n) = tt
    totals (going a) = ask_holds FiniteEnd 8 (is_finite a.mean && is_finite a.discarded) (going a) λ e.
        let p = and_true (is_finite a.mean) (is_finite a.discarded) e in
        record { mean = holds p.0; discarded = holds p.1 }

    go : (x : Stage Outcome) → UnlessRefused FiniteEnd x → UnlessRefused FiniteEnd (or_fold t ms x)
    go (going o) h = h
    go (refused n) h = either (eqb n 9 && ltb 1 (length t.lines))
      where
        either : (b : Bool) → UnlessRefused FiniteEnd (cond b (folded t ms) (refused n))
        either true = totals (fold_lines t ms t.lines nothing_yet)
        either false = tt

-- ---- turns

pub covers_drop : (qs : List ℕ) (k : ℕ) (ms : List Bool) (ops : List Op) → Covers qs ms ops → Covers qs (drop k ms) (drop k ops)
covers_drop qs zero ms ops c = c
covers_drop qs (suc k) ms [] c = tt
covers_drop qs (suc k) [] (op ∷ ops) c = absurd c
covers_drop qs (suc k) (m ∷ ms) (op ∷ ops) c = covers_drop qs k ms ops c.1

mark_at : (qs : List ℕ) (k : ℕ) (ops : List Op) → k < length ops → get_or (mark_cone qs ops) k true ≡ touches (targets (get_or ops k Barrier)) (cone_of qs (drop (suc k) ops))
unfolding mark_cone
mark_at qs k [] h = absurd (not-suc-le-zero h)
mark_at qs zero (op ∷ ops) h = refl
mark_at qs (suc k) (op ∷ ops) h = mark_at qs k ops (le_of_suc-le-suc h)

no_letters : (w : ℕ) (qs : List ℕ) (ts : List Term) → Within w qs → ClearAt w qs ts → All (λ q. All (λ (u : Term). has_letter w u.key q ≡ false) ts) qs
no_letters w qs ts v h = all_imp (λ q. (q < 64 * w) × Clear w q ts) (λ q. All (λ (u : Term). has_letter w u.key q ≡ false) ts) qs
    (λ q p. all_imp (λ (u : Term). letter w u.key q ≡ false) (λ (u : Term). has_letter w u.key q ≡ false) ts
    (λ u e. let n = no_letter w u.key q p.0 e in ap₂ ◌||◌ n.0 n.1) p.1)
    (all_and (λ q. q < 64 * w) (λ q. Clear w q ts) qs v h)

-- an op that the cone leaves unmarked meets identities only when its turn comes: from any start with letters at the qs only, under any marks that
-- set at least the ops of the cone, whatever the limits
pub skipped_meets : (w : ℕ) (l : Limits) (s : State) (qs : List ℕ) → ((q : ℕ) → member q qs ≡ false → Clear w q s.terms) → (ms : List Bool) (ops : List Op)
    → Covers qs ms ops → All (λ op. Within w (targets op)) ops → (k : ℕ) → k < length ops → get_or (mark_cone qs ops) k true ≡ false
    → UnlessRefused (MeetsIdentities w (get_or ops k Barrier)) (runs w l (drop (suc k) ms) (drop (suc k) ops) s)
skipped_meets w l s qs clear ms ops c v k b h =
    let op = get_or ops k Barrier in
    let back = drop (suc k) ops in
    let ns = drop (suc k) ms in
    holds_imp (λ u. ClearAt w (targets op) u.terms) (MeetsIdentities w op) (runs w l ns back s)
    (λ u. no_letters w (targets op) u.terms (all_at (λ o. Within w (targets o)) ops k Barrier b v))
    (unmarked_unmet w l s qs clear op ns back (covers_drop qs (suc k) ms ops c) (sym (mark_at qs k ops b) ∙ h))
