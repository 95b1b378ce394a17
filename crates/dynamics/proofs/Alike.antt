-- States and outcomes that agree up to the signs of zeros: what follows an op and the end of a run respect that; what follows an op, done
-- again, changes nothing, and gives no term a letter; the end of a run is finite. Assumes nothing.
use mathlib.Core.Path.{◌≡◌, refl, sym, ap, ap₂, ◌∙◌, subst}
use Prim.Native.Nat.{ℕ, max, ◌≤◌}
use native.Mathlib.Omega.{arith}
use mathlib.Core.Bool.{Bool, true, false, ◌&&◌, cond}
use mathlib.Core.List.{List, [], ◌∷◌}
use lib.ListN.{length}
use lib.Dec.{T, ltb, leb}
use lib.Ieee.{Float, binary64, add, fits, of_bits}
use lib.Ieee.Fits.{add-fits}
use Rattle.numbers.specs.Close.{◌≈◌, same}
use Rattle.numbers.specs.Constants.{zero64}
use Rattle.numbers.specs.Tests.{is_finite}
use Rattle.numbers.proofs.CloseLaws.{≈_sym, ≈_trans, add_≈, lt_≈, finite_≈, add_zero_≈}
use Rattle.numbers.proofs.TestLaws.{holds}
use Rattle.terms.specs.Lists.{foldl}
use Rattle.terms.specs.Coefficient.{size_of}
use Rattle.terms.specs.Term.{Term, all_finite}
use Rattle.terms.specs.Truncation.{is_small, kept_of, add_dropped, dropped_of, crowded}
use Rattle.terms.specs.Mean.{mean_of}
use Rattle.terms.proofs.CaseLaws.{and_true}
use Rattle.terms.proofs.NearLaws as L
use Rattle.terms.proofs.NearLaws.{cond_same, near_of, near_length, near_finite, near_kept, near_dropped, near_mean}
use Rattle.terms.proofs.LetterSteps.{Clear, clear_kept}
use Rattle.ops.specs.declared.Limits.{Limits}
use Rattle.dynamics.specs.Turn.{Stage, refused, going, bind, ask, State, fine, drop_small, truncated, counted, checked, settle, UnlessRefused}
use Rattle.dynamics.specs.Turn.{Outcome, outcome, last_drop, ended, finish}

-- ---- stages
pub data Like {S : Type 0} (R : S → S → Type 0) : Stage S → Stage S → Type 0 where
  stops : (n : ℕ) → Like R (refused n) (refused n)
  goes : {s t : S} → R s t → Like R (going s) (going t)

module _ {S : Type 0} {R : S → S → Type 0} where
  pub like_sym : ((s t : S) → R s t → R t s) → {x y : Stage S} → Like R x y → Like R y x
  like_sym h (stops n) = stops n
  like_sym h (goes {s} {t} p) = goes (h s t p)

  pub like_trans : ((s t u : S) → R s t → R t u → R s u) → {x y z : Stage S} → Like R x y → Like R y z → Like R x z
  like_trans h (stops n) q = q
  like_trans h (goes {s} {t} p) (goes {t = u} q) = goes (h s t u p q)

  pub bind_like : {O : Type 0} {Q : O → O → Type 0} (f g : S → Stage O) → ((s t : S) → R s t → Like Q (f s) (g t)) → {x y : Stage S} → Like R x y
      → Like Q (bind x f) (bind y g)
  bind_like f g h (stops n) = stops n
  bind_like f g h (goes {s} {t} p) = h s t p

  pub ask_like : (n : ℕ) {b c : Bool} {x y : Stage S} → b ≡ c → Like R x y → Like R (ask n b x) (ask n c y)
  ask_like n {b} {x} {y} e h = subst (λ (c : Bool). Like R (ask n b x) (ask n c y)) e (go b)
    where
      go : (b : Bool) → Like R (ask n b x) (ask n b y)
      go true = h
      go false = stops n

pub holds_imp : {S : Type 0} (P Q : S → Type 0) (x : Stage S) → ((s : S) → P s → Q s) → UnlessRefused P x → UnlessRefused Q x
holds_imp P Q (refused n) f h = tt
holds_imp P Q (going s) f h = f s h

pub bind_holds : {S O : Type 0} (P : S → Type 0) (Q : O → Type 0) (x : Stage S) (f : S → Stage O) → UnlessRefused P x → ((s : S) → P s → UnlessRefused Q (f s)) → UnlessRefused Q (bind x f)
bind_holds P Q (refused n) f h k = tt
bind_holds P Q (going s) f h k = k s h

pub ask_holds : {S : Type 0} (P : S → Type 0) (n : ℕ) (b : Bool) (x : Stage S) → (b ≡ true → UnlessRefused P x) → UnlessRefused P (ask n b x)
ask_holds P n true x h = h refl
ask_holds P n false x h = tt

-- ---- states
pub record Near (s t : State) : Type 0 where
  pub terms : L.Near s.terms t.terms
  pub peak : s.peak ≡ t.peak
  pub discarded : s.discarded ≈ t.discarded
  pub touched : s.touched ≡ t.touched

pub near_refl : (s : State) → Near s s
near_refl s = record { terms = L.near_refl s.terms; peak = refl; discarded = same; touched = refl }

pub near_sym : (s t : State) → Near s t → Near t s
near_sym s t p = record { terms = L.near_sym p.terms; peak = sym p.peak; discarded = ≈_sym p.discarded; touched = sym p.touched }

pub near_trans : (s t u : State) → Near s t → Near t u → Near s u
near_trans s t u p q = record {
  terms = L.near_trans p.terms q.terms;
  peak = p.peak ∙ q.peak;
  discarded = ≈_trans p.discarded q.discarded;
  touched = p.touched ∙ q.touched;
}

-- limits with epsilons equal as numbers
pub record NearLimits (l m : Limits) : Type 0 where
  pub epsilon : l.epsilon ≈ m.epsilon
  pub max_terms : l.max_terms ≡ m.max_terms
  pub limit : l.limit ≡ m.limit

pub near_limits_refl : (l : Limits) → NearLimits l l
near_limits_refl l = record { epsilon = same; max_terms = refl; limit = refl }

near_fine : {s t : State} → Near s t → fine s ≡ fine t
near_fine p = ap₂ ◌&&◌ (near_finite p.terms) (finite_≈ p.discarded)

near_drop : {e f : Float} {s t : State} → e ≈ f → Near s t → Near (drop_small e s) (drop_small f t)
near_drop p q = record { terms = near_kept p q.terms; peak = q.peak; discarded = add_≈ binary64 q.discarded (near_dropped p q.terms); touched = q.touched }

module _ {l m : Limits} (e : NearLimits l m) {s t : State} (p : Near s t) where
  near_truncated : Near (truncated l s) (truncated m t)
  near_truncated = cond_same Near (ap₂ (λ (a b : ℕ). ltb 0 a && ltb a b) e.max_terms (near_length p.terms)) (near_drop e.epsilon p) p

  near_checked : Like Near (checked l s) (checked m t)
  unfolding checked
  near_checked = ask_like 8 (near_fine p) (ask_like 9 (ap₂ leb (near_length p.terms) e.limit)
      (goes (record { terms = p.terms; peak = ap₂ max p.peak (near_length p.terms); discarded = p.discarded; touched = p.touched })))

pub near_settle : {l m : Limits} {s t : State} → NearLimits l m → Near s t → Like Near (settle l s) (settle m t)
unfolding settle
near_settle e p = ask_like 8 (near_fine p) (near_checked e (near_truncated e p))

-- ---- what follows an op, done again
kept_kept : (e : Float) (ts : List Term) → kept_of e (kept_of e ts) ≡ kept_of e ts
unfolding kept_of
kept_kept e [] = refl
kept_kept e (t ∷ ts) = go (is_small e t) refl (kept_kept e ts)
  where
    go : (b : Bool) → is_small e t ≡ b → kept_of e (kept_of e ts) ≡ kept_of e ts → kept_of e (cond b (kept_of e ts) (t ∷ kept_of e ts)) ≡ cond b (kept_of e ts) (t ∷ kept_of e ts)
    go true h r = r
    go false h r = rw h (ap {B = List Term} (λ (l : List Term). t ∷ l) r)

dropped_kept : (e a : Float) (ts : List Term) → foldl (add_dropped e) a (kept_of e ts) ≡ a
unfolding kept_of foldl
dropped_kept e a [] = refl
dropped_kept e a (t ∷ ts) = go (is_small e t) refl (dropped_kept e a ts)
  where
    go : (b : Bool) → is_small e t ≡ b → foldl (add_dropped e) a (kept_of e ts) ≡ a → foldl (add_dropped e) a (cond b (kept_of e ts) (t ∷ kept_of e ts)) ≡ a
    go true h r = r
    go false h r = ap (λ (b : Bool). foldl (add_dropped e) (cond b (add binary64 a (size_of t.coeff)) a) (kept_of e ts)) h ∙ r

plus_zero : (x : Float) → T (fits binary64 x) → add binary64 x zero64 ≈ x
unfolding of_bits
plus_zero x h = add_zero_≈ binary64 false x h

module _ (l : Limits) (s : State) where
  -- truncated, and again
  truncated_again : Near (truncated l (counted (truncated l s))) (counted (truncated l s))
  truncated_again = go (crowded l.max_terms s.terms) refl
    where
      e : Float
      e = l.epsilon

      d : State
      d = drop_small e s

      again : Near (drop_small e (counted d)) (counted d)
      again = record {
        terms = near_of (kept_kept e s.terms);
        peak = refl;
        discarded = rw (dropped_kept e zero64 s.terms) (plus_zero d.discarded (add-fits binary64 s.discarded (dropped_of e s.terms)));
        touched = refl;
      }

      once : (b : Bool) → Near (cond b (drop_small e (counted d)) (counted d)) (counted d)
      once true = again
      once false = near_refl (counted d)

      go : (b : Bool) → crowded l.max_terms s.terms ≡ b → Near (truncated l (counted (cond b d s))) (counted (cond b d s))
      go true h = once (crowded l.max_terms d.terms)
      go false h = rw h (near_refl (counted s))

  -- what holds of the state it leaves
  pub settle_holds : (P : State → Type 0) → let u = truncated l s in
      (fine u ≡ true → leb (length u.terms) l.limit ≡ true → P (counted u)) → UnlessRefused P (settle l s)
  unfolding settle checked
  settle_holds P f =
      let u = truncated l s in
      ask_holds P 8 (fine s) (checked l u) λ a.
      ask_holds P 8 (fine u) (ask 9 (leb (length u.terms) l.limit) (going (counted u))) λ b.
      ask_holds P 9 (leb (length u.terms) l.limit) (going (counted u)) λ c. f b c

-- settled: what follows an op leaves the state as it is
abbrev pub Settled : Limits → State → Type 0
Settled l s = Like Near (settle l s) (going s)

-- a state that passes both questions, whose peak is at least its count, and that truncation leaves as it is
pub settled_of : (l : Limits) (s : State) → fine s ≡ true → leb (length s.terms) l.limit ≡ true → length s.terms ≤ s.peak → Near (truncated l s) s → Settled l s
unfolding settle checked
settled_of l s f g h t = rw f (like_trans near_trans (near_checked (near_limits_refl l) t) (rw (f, g) (goes uncounted)))
  where
    uncounted : Near (counted s) s
    uncounted = record { terms = L.near_refl s.terms; peak = omega arith; discarded = same; touched = refl }

pub settle_settled : (l : Limits) (s : State) → UnlessRefused (Settled l) (settle l s)
settle_settled l s = settle_holds l s (Settled l) (λ f g. settled_of l (counted (truncated l s)) f g (omega arith) (truncated_again l s))

pub settle_clear : (w q : ℕ) (l : Limits) (s : State) → Clear w q s.terms → UnlessRefused (λ t. Clear w q t.terms) (settle l s)
settle_clear w q l s h = settle_holds l s (λ t. Clear w q t.terms) (λ f g. go (crowded l.max_terms s.terms))
  where
    go : (b : Bool) → Clear w q (cond b (drop_small l.epsilon s) s).terms
    go true = clear_kept w q l.epsilon s.terms h
    go false = h

-- ---- the end of a run
pub record NearEnd (o p : Outcome) : Type 0 where
  pub terms : L.Near o.terms p.terms
  pub mean : o.mean ≈ p.mean
  pub means : o.means ≡ p.means
  pub peak : o.peak ≡ p.peak
  pub discarded : o.discarded ≈ p.discarded
  pub touched : o.touched ≡ p.touched

pub near_end_sym : (o p : Outcome) → NearEnd o p → NearEnd p o
near_end_sym o p e = record { terms = L.near_sym e.terms; mean = ≈_sym e.mean; means = sym e.means; peak = sym e.peak; discarded = ≈_sym e.discarded; touched = sym e.touched }

pub near_end_trans : (o p q : Outcome) → NearEnd o p → NearEnd p q → NearEnd o q
near_end_trans o p q e f = record {
  terms = L.near_trans e.terms f.terms;
  mean = ≈_trans e.mean f.mean;
  means = e.means ∙ f.means;
  peak = e.peak ∙ f.peak;
  discarded = ≈_trans e.discarded f.discarded;
  touched = e.touched ∙ f.touched;
}

pub record FiniteEnd (o : Outcome) : Type 0 where
  pub mean : T (is_finite o.mean)
  pub discarded : T (is_finite o.discarded)

module _ (w : ℕ) where
  near_ended : {s t : State} → Near s t → Like NearEnd (ended w s) (ended w t)
  unfolding ended
  near_ended p =
      let m = near_mean w p.terms in
      ask_like 8 (ap₂ ◌&&◌ (near_fine p) (finite_≈ m)) (goes (record { terms = p.terms; mean = m; means = refl; peak = p.peak; discarded = p.discarded; touched = p.touched }))

  pub near_finish : {l m : Limits} {s t : State} → NearLimits l m → Near s t → Like NearEnd (finish w l s) (finish w m t)
  unfolding finish
  near_finish e p = near_ended (cond_same Near (lt_≈ same e.epsilon) (near_drop e.epsilon p) p)

  finite_ended : (s : State) → UnlessRefused FiniteEnd (ended w s)
  unfolding ended
  finite_ended s =
      let m = mean_of w s.terms in
      ask_holds FiniteEnd 8 (fine s && is_finite m) (going (outcome s.terms m [] s.peak s.discarded s.touched)) λ e.
      let h = and_true (fine s) (is_finite m) e in
      record { mean = holds h.1; discarded = holds (and_true (all_finite s.terms) (is_finite s.discarded) h.0).1 }

  pub finite_finish : (l : Limits) (s : State) → UnlessRefused FiniteEnd (finish w l s)
  unfolding finish
  finite_finish l s = finite_ended (last_drop l s)
