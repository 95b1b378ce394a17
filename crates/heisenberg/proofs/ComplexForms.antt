-- A rotation of complex coefficients is made of the phase gate s, and their mean is the expectation value in |0…0⟩. Assumes nothing.
use Prim.Native.Nat.{ℕ}
use mathlib.Core.Path.{◌≡◌, refl, sym, ap, ap₂, ◌∙◌}
use mathlib.Core.Bool.{Bool, true, false, cond}
use mathlib.Core.List.{List, [], ◌∷◌, ◌++◌, map}
use mathlib.Core.Option.{none, some}
use lib.Dec.{T}
use lib.Ieee.{Float, binary64, add, neg, fits}
use Rattle.numbers.specs.Constants.{zero64, one64, minus_one64}
use Rattle.numbers.specs.Tests.{is_zero}
use Rattle.numbers.proofs.SignLaws.{neg_neg}
use Rattle.words.specs.Keys.{Key, bit_at, no_x}
use Rattle.words.specs.declared.Gate.TheVariants as G
use Rattle.words.proofs.KeyLaws.{same_key_ne}
use Rattle.terms.specs.declared.Axis.{Axis}
use Rattle.terms.specs.declared.Axis.TheVariants.{Z, Zz}
use Rattle.terms.specs.Lists.{foldl}
use Rattle.terms.specs.Term as R
use Rattle.terms.specs.Mean as S
use Rattle.terms.specs.Rotation.{met_by, partner_by, on_key}
use Rattle.terms.proofs.AllLaws.{all_map}
use Rattle.terms.proofs.AxisLaws.{partner_back, partner_met, partner_moves, partner_width}
use Rattle.published.specs.declared.Complex64.{Complex64}
use Rattle.published.specs.Complex.{complex, scaled_of, quarter_turned, coeff_of}
use Rattle.published.specs.Term.{Term, term, find, conjugated, complex_of}
use Rattle.published.specs.Rotation.{flipped_term, turned_term, appended_term, appended_rows, rotated}
use Rattle.published.specs.Mean.{add_mean}
use Rattle.published.proofs.SameSteps.{no_x_even}
use Rattle.heisenberg.specs.ComplexForm.{through, times, plus, turned, sum_of, real_of, OnWidth, ByPhaseGate, AtQuarters, RotationsByPhaseGate, MeanIsExpectation}
use Rattle.numbers.proofs.UnitLaws.{times_one, times_minus_one, one_not_zero, minus_not_zero}
use Rattle.heisenberg.proofs.PhaseKeys.{base_of, place_of, key_through, base_met, key_met, key_unmet, key_sdg, key_z}
use Rattle.heisenberg.proofs.MeanLaws as M

-- ---- a gate at an axis: the word, and the quarter turns of the coefficient

module _ (w c : ℕ) where
  abbrev by_turns : Axis → Term → ℕ → Complex64
  by_turns axis t n = quarter_turned (cond (bit_at (base_of w axis t.key) (place_of axis)) n 0) t.coeff

  s_at : (axis : Axis) (t : Term) → through w G.S c axis t ≡ term (key_through w G.S c axis t.key) (by_turns axis t 3)
  unfolding conjugated quarter_turned
  s_at (Z q) t = refl
  s_at (Zz a b) t = refl

  sdg_at : (axis : Axis) (t : Term) → through w G.Sdg c axis t ≡ term (key_through w G.Sdg c axis t.key) (by_turns axis t 1)
  unfolding conjugated quarter_turned
  sdg_at (Z q) t = refl
  sdg_at (Zz a b) t = refl

  z_at : (axis : Axis) (t : Term) → through w G.Z c axis t ≡ term (key_through w G.Z c axis t.key) (by_turns axis t 2)
  unfolding conjugated quarter_turned
  z_at (Z q) t = refl
  z_at (Zz a b) t = refl

module _ (w : ℕ) (axis : Axis) (c : ℕ) (on : on_key w axis ≡ true) where
  abbrev met : Key → Bool
  met = met_by axis

  abbrev partner : Key → Key
  partner = partner_by w axis

  module _ (t : Term) (wide : OnWidth w t) where
    abbrev k : Key
    k = t.key

    turns_by : (n : ℕ) (v : Complex64) {b : Bool} → met k ≡ b → quarter_turned (cond (bit_at (base_of w axis k) (place_of axis)) n 0) v ≡ quarter_turned (cond b n 0) v
    turns_by n v e = ap (λ (x : Bool). quarter_turned (cond x n 0) v) (base_met w c axis k on wide.long ∙ e)

    -- turned 0 times, a coefficient is as it was
    unturned : (v : Complex64) → quarter_turned 0 v ≡ v
    unfolding quarter_turned
    unturned v = refl

    s_met : (v : Complex64) → met k ≡ true → through w G.S c axis (term k v) ≡ term (partner k) (quarter_turned 3 v)
    s_met v e = s_at w c axis (term k v) ∙ ap₂ term (key_met w c axis k on wide.long e) (turns_by 3 v e)

    s_unmet : met k ≡ false → through w G.S c axis t ≡ t
    s_unmet e = s_at w c axis t ∙ ap₂ term (key_unmet w c axis k on wide.long wide.words e) (turns_by 3 t.coeff e ∙ unturned t.coeff)

    sdg_met : met k ≡ true → through w G.Sdg c axis t ≡ term (partner k) (quarter_turned 1 t.coeff)
    sdg_met e = sdg_at w c axis t ∙ ap₂ term (key_sdg w c axis k ∙ key_met w c axis k on wide.long e) (turns_by 1 t.coeff e)

    sdg_unmet : met k ≡ false → through w G.Sdg c axis t ≡ t
    sdg_unmet e =
        sdg_at w c axis t
        ∙ ap₂ term (key_sdg w c axis k ∙ key_unmet w c axis k on wide.long wide.words e) (turns_by 1 t.coeff e ∙ unturned t.coeff)

    z_met : {b : Bool} → met k ≡ b → through w G.Z c axis t ≡ term k (quarter_turned (cond b 2 0) t.coeff)
    z_met e = z_at w c axis t ∙ ap₂ term (key_z w c axis k on wide.long wide.words) (turns_by 2 t.coeff e)

    -- ---- the rotation of a sum of one term, which has no partner

    module _ (sin cos : Float) where
      abbrev flipped : Term
      flipped = flipped_term met partner sin cos t

      abbrev rows_by : Bool → Bool → List Term
      rows_by m s =
          let f = cond s (some t.coeff) none in
          cond (is_zero sin) (cond m (times cos t) t ∷ [])
          ((cond m (turned_term met partner sin cos t f) t ∷ []) ++ (cond m (appended_term met partner sin cos t f) [] ++ []))

      rows_by_lem : turned w axis sin cos (t ∷ []) ≡ rows_by (met k) false
      unfolding rotated appended_rows find
      rows_by_lem = ap (rows_by (met k)) (same_key_ne (partner k) k (partner_moves w axis k on wide.long))

      alone_met : met k ≡ true → turned w axis sin cos (t ∷ []) ≡ sum_of sin cos (times cos t) flipped
      alone_met e = rows_by_lem ∙ ap (λ (m : Bool). rows_by m false) e ∙ go (is_zero sin) (is_zero cos)
        where
          go : (s z : Bool) → cond s (times cos t ∷ []) ((cond z flipped (times cos t) ∷ []) ++ (cond z [] (flipped ∷ []) ++ []))
              ≡ cond s (times cos t ∷ []) (cond z (flipped ∷ []) (times cos t ∷ flipped ∷ []))
          go true z = refl
          go false true = refl
          go false false = refl

      alone_unmet : met k ≡ false → turned w axis sin cos (t ∷ []) ≡ t ∷ []
      alone_unmet e = rows_by_lem ∙ ap (λ (m : Bool). rows_by m false) e ∙ go (is_zero sin)
        where
          go : (s : Bool) → cond s (t ∷ []) (t ∷ []) ≡ t ∷ []
          go true = refl
          go false = refl

      sends : met k ≡ true → flipped ≡ through w G.S c axis (times sin t)
      unfolding quarter_turned
      sends e = sym (s_met (scaled_of sin t.coeff) e)

  module _ (sin cos : Float) (t : Term) (wide : OnWidth w t) where
    takes : (u : Term) → met t.key ≡ true → partner t.key ≡ u.key
        → ((through w G.S c axis (times sin u)).key ≡ t.key)
        × (turned_term met partner sin cos t (some u.coeff) ≡ plus (times cos t) (through w G.S c axis (times sin u)))
    takes u e p =
        let l = t.key in
        let sent = sends u (partner_width w axis (real_of t) (real_of u) p wide) sin cos (ap met (sym p) ∙ partner_met w axis l on ∙ e) in
        (sym (ap (λ (r : Term). r.key) sent) ∙ ap partner (sym p) ∙ partner_back w axis l, ap (plus (times cos t)) sent)

    by_phase_gate : ByPhaseGate w axis c sin cos t
    by_phase_gate = record {
      leaves = λ e. (alone_unmet t wide sin cos e, s_unmet t wide e);
      turns = λ e. alone_met t wide sin cos e ∙ ap (sum_of sin cos (times cos t)) (sends t wide sin cos e);
      sends = sends t wide sin cos;
      takes = takes;
    }

  -- ---- the sines and cosines of quarter turns

  module _ (zero : Float) (t : Term) (wide : OnWidth w t) (z : is_zero zero ≡ true) (real : T (fits binary64 t.coeff.re)) (imaginary : T (fits binary64 t.coeff.im)) where
    only_sine : (sin : Float) (p q : Term) → is_zero sin ≡ false → sum_of sin zero p q ≡ q ∷ []
    only_sine sin p q e = ap₂ (λ (a b : Bool). cond a (p ∷ []) (cond b (q ∷ []) (p ∷ q ∷ []))) e z

    only_cosine : (cos : Float) (p q : Term) → sum_of zero cos p q ≡ p ∷ []
    only_cosine cos p q = ap (λ (a : Bool). cond a (p ∷ []) (cond (is_zero cos) (q ∷ []) (p ∷ q ∷ []))) z

    by_one : scaled_of one64 t.coeff ≡ t.coeff
    by_one = ap₂ complex (times_one t.coeff.re real) (times_one t.coeff.im imaginary)

    by_minus_one : scaled_of minus_one64 t.coeff ≡ quarter_turned 2 t.coeff
    unfolding quarter_turned
    by_minus_one = ap₂ complex (times_minus_one t.coeff.re real) (times_minus_one t.coeff.im imaginary)

    -- s of the negative is sdg
    opposite : (v : Complex64) → quarter_turned 3 (quarter_turned 2 v) ≡ quarter_turned 1 v
    unfolding quarter_turned
    opposite v = ap (complex (neg v.im)) (neg_neg v.re)

    at_quarters : AtQuarters w axis c zero t
    at_quarters = go (met t.key) refl
      where
        go : (m : Bool) → met t.key ≡ m → AtQuarters w axis c zero t
        go true e = record {
          quarter = alone_met t wide one64 zero e ∙ only_sine one64 _ _ one_not_zero
              ∙ ap (λ (r : Term). r ∷ []) (sends t wide one64 zero e ∙ ap (λ (v : Complex64). through w G.S c axis (term t.key v)) by_one);
          back = alone_met t wide minus_one64 zero e ∙ only_sine minus_one64 _ _ minus_not_zero
              ∙ ap (λ (r : Term). r ∷ []) (sends t wide minus_one64 zero e ∙ s_met t wide (scaled_of minus_one64 t.coeff) e
              ∙ ap (term (partner t.key)) (ap (quarter_turned 3) by_minus_one ∙ opposite t.coeff) ∙ sym (sdg_met t wide e));
          half = alone_met t wide zero minus_one64 e ∙ only_cosine minus_one64 _ _ ∙ ap (λ (r : Term). r ∷ []) (ap (term t.key) by_minus_one ∙ sym (z_met t wide e));
        }
        go false e = record {
          quarter = alone_unmet t wide one64 zero e ∙ ap (λ (r : Term). r ∷ []) (sym (s_unmet t wide e));
          back = alone_unmet t wide minus_one64 zero e ∙ ap (λ (r : Term). r ∷ []) (sym (sdg_unmet t wide e));
          half = alone_unmet t wide zero minus_one64 e ∙ ap (λ (r : Term). r ∷ []) (sym (z_met t wide e ∙ ap (term t.key) (unturned t wide t.coeff)));
        }

pub rotations_by_phase_gate : RotationsByPhaseGate
rotations_by_phase_gate = record {
  rotation = λ w axis c sin cos t on wide. by_phase_gate w axis c on sin cos t wide;
  quarters = λ w axis c zero t on wide z real imaginary. at_quarters w axis c on zero t wide z real imaginary;
}

-- ---- the mean

by_real : (w : ℕ) (s : Float) (ts : List Term) → foldl (add_mean w) s ts ≡ foldl (S.add_mean w) s (map real_of ts)
unfolding foldl
by_real w s [] = refl
by_real w s (t ∷ ts) = by_real w (add_mean w s t) ts

-- the number of a word without x is the real part
real_part : (w : ℕ) (t : R.Term) (s : Float) → S.add_mean w s t ≡ S.add_mean w s (real_of (complex_of w t))
real_part w t s = go (no_x w t.key) refl
  where
    go : (b : Bool) → no_x w t.key ≡ b → cond b (add binary64 s t.coeff) s ≡ cond b (add binary64 s (coeff_of (R.odd_y w t.key) t.coeff).re) s
    go true e = ap (λ (o : Bool). add binary64 s (coeff_of o t.coeff).re) (sym (no_x_even w t.key e))
    go false e = refl

by_part : (w : ℕ) (s : Float) (ts : List R.Term) → foldl (S.add_mean w) s ts ≡ foldl (S.add_mean w) s (map (λ t. real_of (complex_of w t)) ts)
unfolding foldl
by_part w s [] = refl
by_part w s (t ∷ ts) = by_part w (S.add_mean w s t) ts ∙ ap (λ (z : Float). foldl (S.add_mean w) z (map (λ t. real_of (complex_of w t)) ts)) (real_part w t s)

pub mean_is_expectation : MeanIsExpectation
mean_is_expectation = record {
  complex = λ w ts wide.
      by_real w zero64 ts ∙ M.mean_is_expectation w (map real_of ts) (all_map (OnWidth w) (R.OnWidth w) real_of ts (λ t h. h) wide);
  stored = λ w ts wide.
      by_part w zero64 ts
      ∙ M.mean_is_expectation w (map (λ t. real_of (complex_of w t)) ts)
      (all_map (R.OnWidth w) (R.OnWidth w) (λ t. real_of (complex_of w t)) ts (λ t h. record { long = h.long; words = h.words }) wide);
}
