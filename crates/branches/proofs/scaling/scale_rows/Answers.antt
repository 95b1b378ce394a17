-- A turn multiplies row i by the factor of its key, where it has one.
use native.Mathlib.Nat.{le_refl}
use lib.ListN.{length-set}
use Rattle.std.proofs.Common.{◌≡◌, ℕ, List, ◌<◌, Float, Option, ◌*◌, ap, arith, refl, subst, sym, ◌∙◌, rules}
use Rattle.std.proofs.lemmas.Fn.{says_at}
use Rattle.std.specs.Fn.{FnReturnsAt}
use Rattle.words.specs.Keys.{Key}
use Rattle.words.specs.Rows.{key_at}
use Rattle.terms.specs.Lists.{map_to}
use Rattle.rows.specs.Lent.{row_key, row_terms, SameRows}
use Rattle.rows.proofs.HoldLaws.{hold_start, hold_map}
use Rattle.rows.proofs.StepLaws.{held_map}
use Rattle.branches.specs.Scaling.{scaled_at}
use Rattle.branches.proofs.ScalingLaws.{scaled_key, factor_met, factor_unmet}
use Rattle.branches.proofs.scaling.scale_rows.Goals.{in-Some, in_default}
use Rattle.branches.proofs.scaling.scale_rows.Goals as goal

pub loop-i-init : goal.loop-i-init
unfolding map_to
loop-i-init g c = let a = c.args in
    let s = a.rows.now in
    (omega arith, search rules, refl, λ f e. hold_start (2 * s.w) a.n a.n s.words.now s.coeffs.now)

pub loop-i-preserved : goal.loop-i-preserved
loop-i-preserved g c =
    let a = c.args in
    let s = a.rows.now in
    let i = c.loop-i.i in
    let r = c.loop-i.rows in
    let same : SameRows s r = c.loop-i.invariant.1 in
    let kept = c.loop-i.invariant.2 in
    let key : row_key r i ≡ key_at (2 * s.w) r.words.now i = ap (λ (w : ℕ). key_at (2 * w) r.words.now i) same.width in
    let old : key_at (2 * s.w) r.words.now i ≡ row_key s i = ap (λ (l : List ℕ). key_at (2 * s.w) l i) kept in
    let is = λ (f : Key → Option Float) (e : (i : ℕ) (r : Option Float) → i < a.n → FnReturnsAt g.F.Fn a.factor (row_key s i) r → r ≡ f (row_key s i)).
    e i c.factor.result c.loop-i-test.true (subst (λ (k : Key). FnReturnsAt g.F.Fn a.factor k c.factor.result) {y = row_key s i} (c.key.ensures ∙ key ∙ old) (says_at g.F.Fn c.factor.ensures refl)) ∙ ap f (sym old) in
    elim c.match-factor.branch [
      | in-Some w ↦ rw w.rows-is (
        omega arith,
        record { words = same.words; coeffs = same.coeffs; width = same.width; words_long = same.words_long; coeffs_long = simp length-set same.coeffs_long },
        kept,
        λ f e. hold_map (scaled_at f) (scaled_key f) i (row_terms s a.n) (c.loop-i.invariant.3 f e) c.requires.room (le_refl a.n) c.loop-i-test.true
            (factor_met f (2 * s.w) i r.words.now r.coeffs.now (is f e) w.in-Some.f w.in-Some.is refl w.scaled.ensures refl),
      )
      | in_default w ↦ rw w.rows-is (
        omega arith,
        same,
        kept,
        λ f e. hold_map (scaled_at f) (scaled_key f) i (row_terms s a.n) (c.loop-i.invariant.3 f e) c.requires.room (le_refl a.n) c.loop-i-test.true
            (factor_unmet f (2 * s.w) i r.words.now r.coeffs.now (is f e) w.in_default.is refl),
      )
    ]

pub returns-clause-scaled : goal.returns-clause-scaled
returns-clause-scaled g c =
    let a = c.args in
    let s = a.rows.now in
    λ f e. held_map (scaled_at f) (2 * s.w) a.n a.n c.loop-i.i s.words.now s.coeffs.now (c.loop-i.invariant.3 f e) c.loop-i.invariant.0 c.loop-i-test.false
