-- Demand 3, as specs/LightCone.antt states it. Assumes nothing.
use mathlib.Core.Path.{◌≡◌, refl, sym, ap, subst}
use Prim.Native.Nat.{ℕ, suc, ◌*◌, ◌%◌, ◌<◌}
use native.Mathlib.Omega.{arith}
use mathlib.Core.Bool.{Bool, true, false, ◌&&◌, cond, false≢true}
use mathlib.Core.List.{List, [], ◌∷◌, map}
use lib.Dec.{eqb, ltb, leb}
use borrow.Author.Tests.{ltb-true, le-leb}
use lib.ListN.{length, get_or}
use lib.Ieee.{binary64}
use lib.Ieee.Bits.{of_bits-fits}
use Rattle.numbers.specs.Close.{◌≈◌, same}
use Rattle.numbers.specs.Constants.{one64}
use Rattle.numbers.proofs.CloseLaws.{≈_of_eq, eq_of_≈}
use Rattle.words.specs.Keys.{Key, width_of}
use Rattle.terms.specs.Lists.{All, Each, none, more}
use Rattle.terms.specs.Term.{Term}
use Rattle.words.specs.Letters.{ys_of}
use Rattle.terms.specs.Start.{term_of}
use Rattle.terms.proofs.CaseLaws.{and_true, and-false}
use Rattle.terms.proofs.NearLaws as L
use Rattle.terms.proofs.NearLaws.{near_signed, at_key}
use Rattle.terms.proofs.LetterSteps.{Within}
use Rattle.ops.specs.declared.Op.{Op}
use Rattle.ops.specs.declared.Op.TheVariants.{Barrier}
use Rattle.ops.specs.Ops.{targets}
use Rattle.dynamics.specs.Turn.{Stage, refused, going, State, Outcome, UnlessRefused}
use Rattle.dynamics.specs.Runs.{begin, marked_run}
use Rattle.ops.specs.Marks.{mark_all}
use Rattle.ops.specs.SameOps.{SameOp, chosen}
use Rattle.dynamics.proofs.Alike.{Like, stops, goes, like_sym, like_trans, Near, NearLimits, NearEnd, near_end_sym, near_end_trans, FiniteEnd}
use Rattle.dynamics.proofs.Cone.{Covers, covers_all, covers_cone, same_marked}
use Rattle.cones.proofs.Covered.{word_clear, start_clear, one_fits, Spread, covered_sum, sum_finite, skipped_meets}
use Rattle.ops.specs.declared.Run.TheVariants.{Cone}
use Rattle.ops.proofs.SizeLaws.{sizes_say}
use Rattle.ops.specs.Task.{Line, Task, width, every, qubits_of, is_one, channel_free, passes, sizes_fit, run_fits, reals_in_range, angles_hold, qubits_below, targets_differ}
use Rattle.dynamics.specs.Outcome.{terms_of, start_of, folded, or_fold, observed}
use Rattle.cones.specs.LightCone.{Equal, Which, one, another, Way, as_full, as_cone, pick, Passes, words_of, cone_marks, Agree}
use Rattle.ops.specs.Binary.{IsBinary64, RealsAreBinary64, Binary64Values}
use Rattle.cones.specs.LightCone.{SameEnd, same_refusal, both_succeed, end_as, marks_as, reached, MeetsIdentities, Demand, Demand3}

-- ---- lists
every_all : {A : Type 0} (p : A → Bool) (P : A → Type 0) (l : List A) → ((a : A) → p a ≡ true → P a) → every p l ≡ true → All P l
unfolding every
every_all p P [] f h = tt
every_all p P (a ∷ l) f h = let e = and_true (p a) (every p l) h in (f a e.0, every_all p P l f e.1)

each_imp : {A D : Type 0} (R S : A → D → Type 0) (P : A → Type 0) (Q : D → Type 0) → ((a : A) (d : D) → P a → Q d → R a d → S a d) → {l : List A} {m : List D}
    → All P l → All Q m → Each R l m → Each S l m
each_imp R S P Q f h k none = none
each_imp R S P Q f h k (more {a} {d} e es) = more (f a d h.0 k.0 e) (each_imp R S P Q f h.1 k.1 es)

all_chosen : (P : Op → Type 0) (ms : List Bool) (ops : List Op) → All P ops → All P (chosen ms ops)
unfolding chosen
all_chosen P ms [] h = tt
all_chosen P [] (op ∷ ops) h = tt
all_chosen P (true ∷ ms) (op ∷ ops) h = (h.0, all_chosen P ms ops h.1)
all_chosen P (false ∷ ms) (op ∷ ops) h = all_chosen P ms ops h.1

-- ---- a line of weight 1, its term and its start
near_line : (w : ℕ) (a : Line) → a.weight ≈ one64 → L.NearTerm (term_of w a.key a.weight) (term_of w a.key one64)
unfolding term_of
near_line w a e = at_key a.key (near_signed (ltb 1 (ys_of w a.key % 4)) e)

-- ---- what the questions before a run say of a task
abbrev start : Task → State
start t = begin (start_of (width t) t.lines)

abbrev of_weight_one : ℕ → List Key → List Term
of_weight_one w ks = map (λ k. term_of w k one64) ks

record Facts (t : Task) : Type 0 where
  -- the one line's letters are the observable's qubits, and one term is within every limit
  spread : Spread t (observed t)
  -- in any width
  of_weight_one_lem : (w : ℕ) → L.Near (start_of w t.lines) (of_weight_one w (words_of t))
  -- with one line there is no fold
  no_fold : (ms : List Bool) (r : Stage Outcome) → or_fold t ms r ≡ r
  within : All (λ op. Within (width t) (targets op)) t.ops

module _ (t : Task) where
  pub one_line : run_fits Cone t ≡ true → is_one t.lines ≡ true
  unfolding run_fits
  one_line h = (and_true (is_one t.lines) (channel_free t) h).0

  pub targets_within : qubits_below t ≡ true → All (λ op. Within (width t) (targets op)) t.ops
  unfolding qubits_below
  targets_within h =
      every_all (λ op. every low (targets op)) (λ op. Within (width t) (targets op)) t.ops
      (λ op. every_all low (λ q. q < 64 * width t) (targets op) (λ q e. below q (ltb-true q t.qubits e)))
      (and_true (every (λ l. every low (qubits_of (width t) l.key)) t.lines) (every (λ op. every low (targets op)) t.ops) h).1
    where
      low : ℕ → Bool
      low q = ltb q t.qubits

      below : (q : ℕ) → q < t.qubits → q < 64 * width t
      below q h = omega arith

abbrev with_lines : Task → List Line → Task
with_lines t ls = record { qubits = t.qubits; limits = t.limits; lines = ls; ops = t.ops }

facts : (t : Task) → Binary64Values t → passes Cone t ≡ true → Facts t
unfolding terms_of
facts t b h =
    let p = and_true (sizes_fit t && run_fits Cone t) (reals_in_range t && (angles_hold t && (qubits_below t && targets_differ t))) h in
    let q = and_true (sizes_fit t) (run_fits Cone t) p.0 in
    let r = and_true (qubits_below t) (targets_differ t) (and_true (angles_hold t) (qubits_below t && targets_differ t) (and_true (reals_in_range t) (angles_hold t && (qubits_below t && targets_differ t)) p.1).1).1 in
    go t.lines (one_line t q.1) b.weights (le-leb 1 t.limits.limit (sizes_say t q.0).some_limit) (targets_within t r.0)
  where
    go : (ls : List Line) → is_one ls ≡ true → All (λ l. IsBinary64 l.weight) ls → leb 1 t.limits.limit ≡ true
        → All (λ op. Within (width t) (targets op)) t.ops → Facts (with_lines t ls)
    go [] e f room v = absurd (false≢true e)
    go (a ∷ c ∷ ls) e f room v = absurd (false≢true e)
    go (a ∷ []) e f room v =
        let one : a.weight ≈ one64 = ≈_of_eq binary64 a.weight one64 f.0 (of_bits-fits binary64 0x3ff0_0000_0000_0000) e in
        record {
          spread = record {
            clear = λ q h. (word_clear (width t) q a.key h, tt);
            few = room;
            some = room;
            uncrowded = one_fits t.limits.max_terms (term_of (width t) a.key a.weight);
          };
          of_weight_one_lem = λ w. more (near_line w a one) none;
          no_fold = none_folded;
          within = v;
        }
      where
        none_folded : (ms : List Bool) (r : Stage Outcome) → or_fold (with_lines t (a ∷ [])) ms r ≡ r
        none_folded ms (going o) = refl
        none_folded ms (refused n) = ap (λ (b : Bool). cond b (folded (with_lines t (a ∷ [])) ms) (refused n)) (and-false (eqb n 9))

-- ---- how the runs end
abbrev end_run : Way → Task → Stage Outcome
end_run v t = marked_run (width t) t.limits (marks_as v (observed t) t.ops) t.ops (start t)

end_is : (v : Way) {t : Task} → Facts t → end_as v t ≡ end_run v t
end_is as_full {t} f = f.no_fold (mark_all t.ops) (end_run as_full t)
end_is as_cone {t} f = f.no_fold (cone_marks t) (end_run as_cone t)

-- one task: each run ends like its cone run
to_cone : {t : Task} → Facts t → (v : Way) → Like NearEnd (end_as v t) (end_as as_cone t)
to_cone {t} f as_full = covered_sum t (observed t) f.spread (mark_all t.ops) (covers_all (observed t) t.ops)
to_cone {t} f as_cone = covered_sum t (observed t) f.spread (cone_marks t) (covers_cone (observed t) t.ops)

-- two tasks: their cone runs end alike
near_ops : {os ps : List Op} → All RealsAreBinary64 os → All RealsAreBinary64 ps → Each (SameOp Equal) os ps → Each (SameOp ◌≈◌) os ps
near_ops = each_imp (SameOp Equal) (SameOp ◌≈◌) RealsAreBinary64 RealsAreBinary64
    (λ o p h k e. record { name = e.name; targets = e.targets; reals = each_imp Equal ◌≈◌ IsBinary64 IsBinary64 (λ x y. ≈_of_eq binary64 x y) h k e.reals })

cross : {t u : Task} → Binary64Values t → Binary64Values u → Facts t → Facts u → Agree t u → Like NearEnd (end_as as_cone t) (end_as as_cone u)
cross {t} {u} b c f g e =
    rw (end_is as_cone f, end_is as_cone g)
    (subst (λ (n : ℕ). Like NearEnd (end_run as_cone t) (marked_run (width_of n) u.limits (cone_marks u) u.ops (begin (start_of (width_of n) u.lines)))) e.qubits
    (same_marked (width t) limits starts (cone_marks t) (cone_marks u) t.ops u.ops
    (near_ops (all_chosen RealsAreBinary64 (cone_marks t) t.ops b.reals) (all_chosen RealsAreBinary64 (cone_marks u) u.ops c.reals) e.marked)))
  where
    limits : NearLimits t.limits u.limits
    limits = record {
      epsilon = ≈_of_eq binary64 t.limits.epsilon u.limits.epsilon b.epsilon c.epsilon e.epsilon;
      max_terms = e.max_terms;
      limit = e.limit;
    }

    terms : L.Near (start_of (width t) t.lines) (start_of (width t) u.lines)
    terms = L.near_trans (f.of_weight_one_lem (width t))
        (subst (λ (ks : List Key). L.Near (of_weight_one (width t) ks) (start_of (width t) u.lines)) (sym e.observable) (L.near_sym (g.of_weight_one_lem (width t))))

    starts : Near (start t) (begin (start_of (width t) u.lines))
    starts = record { terms = terms; peak = L.near_length terms; discarded = same; touched = refl }

pub same_end_lem : {x y : Stage Outcome} → Like NearEnd x y → UnlessRefused FiniteEnd x → SameEnd x y
same_end_lem (stops n) h = same_refusal n
same_end_lem (goes p) h = both_succeed (eq_of_≈ p.mean h.mean) (eq_of_≈ p.discarded h.discarded) p.peak p.touched

-- ---- turns
covers : (v : Way) (t : Task) → Covers (observed t) (marks_as v (observed t) t.ops) t.ops
covers as_full t = covers_all (observed t) t.ops
covers as_cone t = covers_cone (observed t) t.ops

meets : {t : Task} → Facts t → (v : Way) (k : ℕ) → k < length t.ops → get_or (cone_marks t) k true ≡ false
    → UnlessRefused (MeetsIdentities (width t) (get_or t.ops k Barrier)) (reached v t (suc k))
meets {t} f v k b h = skipped_meets (width t) t.limits (start t) (observed t) (λ q c. start_clear (width t) q t.lines (f.spread.clear q c))
    (marks_as v (observed t) t.ops) t.ops (covers v t) f.within k b h

-- ---- both conclusions
module _ (t u : Task) (b : Binary64Values t) (c : Binary64Values u) (p : Passes t) (q : Passes u) (e : Agree t u) where
  fact : (i : Which) → Facts (pick i t u)
  fact one = facts t b (p as_cone)
  fact another = facts u c (q as_cone)

  cones : (i j : Which) → Like NearEnd (end_as as_cone (pick i t u)) (end_as as_cone (pick j t u))
  cones one one = to_cone (fact one) as_cone
  cones one another = cross b c (fact one) (fact another) e
  cones another one = like_sym near_end_sym (cross b c (fact one) (fact another) e)
  cones another another = to_cone (fact another) as_cone

  -- the four runs end alike up to the signs of zeros, their terms too
  pub near_ends : (i j : Which) (v w : Way) → Like NearEnd (end_as v (pick i t u)) (end_as w (pick j t u))
  near_ends i j v w = like_trans near_end_trans (to_cone (fact i) v) (like_trans near_end_trans (cones i j) (like_sym near_end_sym (to_cone (fact j) w)))

  end_finite : (i : Which) (v : Way) → UnlessRefused FiniteEnd (end_as v (pick i t u))
  end_finite i as_full = let x = pick i t u in sum_finite x (mark_all x.ops)
  end_finite i as_cone = let x = pick i t u in sum_finite x (cone_marks x)

  both : Demand t u
  unfolding marked_run
  both = record {
    same_end = λ i j v w. same_end_lem (near_ends i j v w) (end_finite i v);
    same_run = λ i v. end_is v (fact i);
    identities = λ i v k. meets (fact i) v k;
  }

pub demand3 : Demand3
demand3 = both
