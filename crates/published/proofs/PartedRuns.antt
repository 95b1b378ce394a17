-- "Half of every coefficient is always zero": of the published terms wherever the stored terms stand for them, so at the start, at every turn and at
-- the end of every run (OneReal). Assumes nothing.
use Prim.Native.Nat.{ℕ}
use mathlib.Core.Path.{subst, ◌∙◌}
use mathlib.Core.Bool.{Bool, true, false, cond}
use mathlib.Core.List.{List, [], ◌∷◌}
use lib.Ieee.{Float}
use Rattle.numbers.specs.Constants.{zero64, one64}
use Rattle.numbers.specs.Close.{◌≈◌}
use Rattle.numbers.proofs.CloseLaws.{≈_sym}
use Rattle.words.specs.Keys.{Key}
use Rattle.terms.specs.Lists.{All, Each, none, more}
use Rattle.terms.specs.Term.{Term, odd_y}
use Rattle.terms.specs.Start.{term_of}
use Rattle.terms.proofs.AllLaws.{all_imp}
use Rattle.dynamics.specs.Turn.{Stage, State, UnlessRefused}
use Rattle.dynamics.specs.Runs.{begin}
use Rattle.ops.specs.Task.{Task, width}
use Rattle.published.specs.declared.Complex64.{Complex64}
use Rattle.published.specs.Term as CT
use Rattle.published.specs.Start as CS
use Rattle.published.specs.Turn as CU
use Rattle.published.specs.Runs as CN
use Rattle.published.specs.Parity.{Parted}
use Rattle.published.specs.OneReal.{Stands, TermBy, SameState, Like, stops, goes, SameAt, OneReal}
use Rattle.published.specs.OnePart.{Halved, HalvedState, HalvedEnd, HalvedAt, OnePart, OnePartIsZero}
use Rattle.published.proofs.SizeLaws.{parted_squared}
use Rattle.published.proofs.SameRuns.{one_real}

stands_parted : (odd : Bool) {v : Float} {c : Complex64} → Stands odd v c → cond odd c.re c.im ≈ zero64
stands_parted true p = ≈_sym p.re
stands_parted false p = ≈_sym p.im

pub same_parted : (w : ℕ) {ts : List Term} {us : List CT.Term} → Each (TermBy Stands w) ts us → All (Parted w) us
same_parted w none = tt
same_parted w (more {a = t} {d = u} p ps) =
    (subst (λ (k : Key). cond (odd_y w k) u.coeff.re u.coeff.im ≈ zero64) p.key (stands_parted (odd_y w t.key) p.coeff), same_parted w ps)

same_halved : (w : ℕ) {ts : List Term} {us : List CT.Term} → Each (TermBy Stands w) ts us → All (Halved w) us
same_halved w {us = us} p = all_imp (Parted w) (Halved w) us (λ u h. record { parted = h; size = parted_squared w u h }) (same_parted w p)

-- ---- what the published run has come to, wherever the stored run has come to what agrees with it
like_holds : {S S' : Type 0} {R : S → S' → Type 0} (P : S' → Type 0) → ((s : S) (t : S') → R s t → P t) → {x : Stage S} {y : Stage S'} → Like R x y → UnlessRefused P y
like_holds P f (stops n) = tt
like_holds P f (goes {s = s} {t = t} p) = f s t p

module _ (t : Task) (o : OneReal t) where
  abbrev w : ℕ
  w = width t

  state_halved : (s : State) (u : CU.State) → SameState w s u → HalvedState w u
  state_halved s u p = record {
    terms = same_halved w p.terms.same;
    acted = λ op f. let q = o.steps op s.terms u.terms p.terms in same_halved w (q.1 (q.0 ∙ f)).same;
  }

  at_turn : {x : Stage State} {y : Stage CU.State} → Like (SameState w) x y → UnlessRefused (HalvedState w) y
  at_turn p = like_holds (HalvedState w) state_halved p

  halved : OnePart t
  halved = record {
    turns = λ ms k. at_turn (o.turns ms k);
    lines = λ ms k. all_imp (λ l. SameAt t ms k (begin (term_of w l.key one64 ∷ [])) (CN.begin (CS.term_of w l.key one64 ∷ [])))
        (λ l. HalvedAt t ms k (CN.begin (CS.term_of w l.key one64 ∷ []))) t.lines (λ l p. at_turn p) (o.lines ms k);
    qubits = λ ms k q p n d. at_turn (o.qubits ms k q p n d);
    ends = λ r. like_holds (HalvedEnd w) (λ a b p. same_halved w p.terms.same) (o.ends r);
  }

pub one_part : OnePartIsZero
one_part t given = halved t (one_real t given)
