-- A rotation of stored rows is made of the phase gate s. Assumes nothing.
use Prim.Native.Nat.{ℕ}
use mathlib.Core.Path.{◌≡◌, refl, sym, ap, ap₂, ◌∙◌}
use mathlib.Core.Bool.{Bool, true, false, not, cond, ◌&&◌}
use mathlib.Core.List.{List, [], ◌∷◌, ◌++◌}
use mathlib.Core.Option.{none, some}
use lib.Dec.{T}
use lib.Ieee.{Float, binary64, neg, fits}
use Rattle.numbers.specs.Constants.{one64, minus_one64}
use Rattle.numbers.specs.Tests.{is_zero}
use Rattle.numbers.proofs.SignLaws.{neg_neg}
use Rattle.words.specs.Keys.{Key, bit_at}
use Rattle.words.specs.declared.Gate.TheVariants as G
use Rattle.words.proofs.KeyLaws.{same_key_ne}
use Rattle.terms.specs.declared.Axis.{Axis}
use Rattle.terms.specs.declared.Axis.TheVariants.{Z, Zz}
use Rattle.terms.specs.Coefficient.{signed, scaled_of, plus_of, flipped_of}
use Rattle.terms.specs.Term.{Term, term, odd_y, OnWidth, find, conjugated}
use Rattle.terms.specs.Rotation.{met_by, partner_by, on_key, flipped_term, turned_term, appended_term, appended_rows, rotated}
use Rattle.terms.proofs.YLaws.{partner_odd}
use Rattle.terms.proofs.AxisLaws.{partner_back, partner_met, partner_moves, partner_width}
use Rattle.heisenberg.specs.PhaseRotation.{through, times, plus, turned, sum_of, ByPhaseGate, AtQuarters, RotationsByPhaseGate}
use Rattle.numbers.proofs.UnitLaws.{times_one, times_minus_one, one_not_zero, minus_not_zero}
use Rattle.heisenberg.proofs.PhaseKeys.{base_of, place_of, key_through, base_met, base_odd, key_met, key_unmet, key_sdg, key_z}

-- ---- a gate at an axis: the word, and the sign of the number

module _ (w c : ℕ) where
  -- x where the gate stands, and the parity there
  abbrev met_at : Axis → Key → Bool
  met_at axis k = bit_at (base_of w axis k) (place_of axis)

  abbrev odd_at : Axis → Key → Bool
  odd_at axis k = odd_y w (base_of w axis k)

  s_at : (axis : Axis) (t : Term) → through w G.S c axis t ≡ term (key_through w G.S c axis t.key) (signed (met_at axis t.key && not (odd_at axis t.key)) t.coeff)
  unfolding conjugated
  s_at (Z q) t = refl
  s_at (Zz a b) t = refl

  sdg_at : (axis : Axis) (t : Term) → through w G.Sdg c axis t ≡ term (key_through w G.Sdg c axis t.key) (signed (met_at axis t.key && odd_at axis t.key) t.coeff)
  unfolding conjugated
  sdg_at (Z q) t = refl
  sdg_at (Zz a b) t = refl

  z_at : (axis : Axis) (t : Term) → through w G.Z c axis t ≡ term (key_through w G.Z c axis t.key) (signed (met_at axis t.key) t.coeff)
  unfolding conjugated
  z_at (Z q) t = refl
  z_at (Zz a b) t = refl

module _ (w : ℕ) (axis : Axis) (c : ℕ) (on : on_key w axis ≡ true) where
  abbrev met : Key → Bool
  met = met_by axis

  abbrev partner : Key → Key
  partner = partner_by w axis

  module _ (t : Term) (wide : OnWidth w t) where
    abbrev k : Key
    k = t.key

    abbrev odd : Bool
    odd = odd_y w k

    x_at : {b : Bool} → met k ≡ b → bit_at (base_of w axis k) (place_of axis) ≡ b
    x_at e = base_met w c axis k on wide.long ∙ e

    odd_at_lem : odd_y w (base_of w axis k) ≡ odd
    odd_at_lem = base_odd w c axis k on wide.long

    -- a met term through s, and one that is not met
    s_met : (v : Float) → met k ≡ true → through w G.S c axis (term k v) ≡ term (partner k) (signed (not odd) v)
    s_met v e =
        s_at w c axis (term k v)
        ∙ ap₂ (λ (l : Key) (b : Bool). term l (signed b v)) (key_met w c axis k on wide.long e) (ap₂ (λ (x o : Bool). x && not o) (x_at e) odd_at_lem)

    s_unmet : met k ≡ false → through w G.S c axis t ≡ t
    s_unmet e =
        s_at w c axis t
        ∙ ap₂ (λ (l : Key) (b : Bool). term l (signed b t.coeff)) (key_unmet w c axis k on wide.long wide.words e)
        (ap (λ (x : Bool). x && not (odd_y w (base_of w axis k))) (x_at e))

    sdg_met : met k ≡ true → through w G.Sdg c axis t ≡ term (partner k) (signed odd t.coeff)
    sdg_met e =
        sdg_at w c axis t
        ∙ ap₂ (λ (l : Key) (b : Bool). term l (signed b t.coeff)) (key_sdg w c axis k ∙ key_met w c axis k on wide.long e) (ap₂ ◌&&◌ (x_at e) odd_at_lem)

    sdg_unmet : met k ≡ false → through w G.Sdg c axis t ≡ t
    sdg_unmet e =
        sdg_at w c axis t
        ∙ ap₂ (λ (l : Key) (b : Bool). term l (signed b t.coeff)) (key_sdg w c axis k ∙ key_unmet w c axis k on wide.long wide.words e)
        (ap (λ (x : Bool). x && odd_y w (base_of w axis k)) (x_at e))

    z_met : through w G.Z c axis t ≡ term k (signed (met k) t.coeff)
    z_met = z_at w c axis t ∙ ap₂ (λ (l : Key) (b : Bool). term l (signed b t.coeff)) (key_z w c axis k on wide.long wide.words) (x_at refl)

    -- ---- the rotation of a sum of one term, which has no partner

    module _ (sin cos : Float) where
      abbrev flipped : Term
      flipped = flipped_term w met partner sin cos t

      abbrev rows_by : Bool → Bool → List Term
      rows_by m s =
          let f = cond s (some t.coeff) none in
          cond (is_zero sin) (cond m (times cos t) t ∷ [])
          ((cond m (turned_term w met partner sin cos t f) t ∷ []) ++ (cond m (appended_term w met partner sin cos t f) [] ++ []))

      rows_by_lem : turned w axis sin cos (t ∷ []) ≡ rows_by (met k) false
      unfolding rotated appended_rows find
      rows_by_lem = ap (rows_by (met k)) (same_key_ne (partner k) k (partner_moves w axis k on wide.long))

      alone_met : met k ≡ true → turned w axis sin cos (t ∷ []) ≡ sum_of sin cos (times cos t) flipped
      alone_met e = rows_by_lem ∙ ap (λ (m : Bool). rows_by m false) e ∙ go (is_zero sin) (is_zero cos)
        where
          go : (s z : Bool) → cond s (times cos t ∷ []) ((cond z flipped (times cos t) ∷ []) ++ (cond z [] (flipped ∷ []) ++ []))
              ≡ cond s (times cos t ∷ []) (cond z (flipped ∷ []) (times cos t ∷ flipped ∷ []))
          go true z = refl
          go false true = refl
          go false false = refl

      alone_unmet : met k ≡ false → turned w axis sin cos (t ∷ []) ≡ t ∷ []
      alone_unmet e = rows_by_lem ∙ ap (λ (m : Bool). rows_by m false) e ∙ go (is_zero sin)
        where
          go : (s : Bool) → cond s (t ∷ []) (t ∷ []) ≡ t ∷ []
          go true = refl
          go false = refl

      sends : met k ≡ true → flipped ≡ through w G.S c axis (times sin t)
      sends e = sym (s_met (scaled_of sin t.coeff) e)

  module _ (sin cos : Float) (t : Term) (wide : OnWidth w t) where
    -- the partner's partner is the word itself, and the partner has the other parity
    takes : (u : Term) → met t.key ≡ true → partner t.key ≡ u.key
        → ((through w G.S c axis (times sin u)).key ≡ t.key)
        × (turned_term w met partner sin cos t (some u.coeff) ≡ plus (times cos t) (through w G.S c axis (times sin u)))
    takes u e p =
        let l = t.key in
        let back : partner u.key ≡ l = ap partner (sym p) ∙ partner_back w axis l in
        let far : odd_y w u.key ≡ not (odd_y w l) = ap (odd_y w) (sym p) ∙ partner_odd w axis on l wide.long e in
        let sent = sends u (partner_width w axis t u p wide) sin cos (ap met (sym p) ∙ partner_met w axis l on ∙ e) in (
          sym (ap (λ (r : Term). r.key) sent) ∙ back,
          ap (λ (o : Bool). term l (plus_of (scaled_of cos t.coeff) (flipped_of o sin u.coeff))) (sym far) ∙ ap (plus (times cos t)) sent,
        )

    by_phase_gate : ByPhaseGate w axis c sin cos t
    by_phase_gate = record {
      leaves = λ e. (alone_unmet t wide sin cos e, s_unmet t wide e);
      turns = λ e. alone_met t wide sin cos e ∙ ap (sum_of sin cos (times cos t)) (sends t wide sin cos e);
      sends = sends t wide sin cos;
      takes = takes;
    }

  -- ---- the sines and cosines of quarter turns

  module _ (zero : Float) (t : Term) (wide : OnWidth w t) (z : is_zero zero ≡ true) (fit : T (fits binary64 t.coeff)) where
    -- a sum whose cosine is 0, and one whose sine is 0
    only_sine : (sin : Float) (p q : Term) → is_zero sin ≡ false → sum_of sin zero p q ≡ q ∷ []
    only_sine sin p q e = ap₂ (λ (a b : Bool). cond a (p ∷ []) (cond b (q ∷ []) (p ∷ q ∷ []))) e z

    only_cosine : (cos : Float) (p q : Term) → sum_of zero cos p q ≡ p ∷ []
    only_cosine cos p q = ap (λ (a : Bool). cond a (p ∷ []) (cond (is_zero cos) (q ∷ []) (p ∷ q ∷ []))) z

    -- s of the negative is sdg
    opposite : (o : Bool) (v : Float) → signed (not o) (neg v) ≡ signed o v
    opposite true v = refl
    opposite false v = neg_neg v

    at_quarters : AtQuarters w axis c zero t
    at_quarters = go (met t.key) refl
      where
        go : (m : Bool) → met t.key ≡ m → AtQuarters w axis c zero t
        go true e = record {
          quarter = alone_met t wide one64 zero e ∙ only_sine one64 _ _ one_not_zero
              ∙ ap (λ (r : Term). r ∷ []) (sends t wide one64 zero e ∙ ap (λ (v : Float). through w G.S c axis (term t.key v)) (times_one t.coeff fit));
          back = alone_met t wide minus_one64 zero e ∙ only_sine minus_one64 _ _ minus_not_zero
              ∙ ap (λ (v : Float). term (partner t.key) v ∷ [])
              (ap (signed (not (odd_y w t.key))) (times_minus_one t.coeff fit) ∙ opposite (odd_y w t.key) t.coeff)
              ∙ ap (λ (r : Term). r ∷ []) (sym (sdg_met t wide e));
          half = alone_met t wide zero minus_one64 e ∙ only_cosine minus_one64 _ _
              ∙ ap (λ (v : Float). term t.key v ∷ []) (times_minus_one t.coeff fit ∙ ap (λ (m : Bool). signed m t.coeff) (sym e))
              ∙ ap (λ (r : Term). r ∷ []) (sym (z_met t wide));
        }
        go false e = record {
          quarter = alone_unmet t wide one64 zero e ∙ ap (λ (r : Term). r ∷ []) (sym (s_unmet t wide e));
          back = alone_unmet t wide minus_one64 zero e ∙ ap (λ (r : Term). r ∷ []) (sym (sdg_unmet t wide e));
          half = alone_unmet t wide zero minus_one64 e ∙ ap (λ (m : Bool). term t.key (signed m t.coeff) ∷ []) (sym e) ∙ ap (λ (r : Term). r ∷ []) (sym (z_met t wide));
        }

pub rotations_by_phase_gate : RotationsByPhaseGate
rotations_by_phase_gate = record {
  rotation = λ w axis c sin cos t on wide. by_phase_gate w axis c on sin cos t wide;
  quarters = λ w axis c zero t on wide z fit. at_quarters w axis c on zero t wide z fit;
}
