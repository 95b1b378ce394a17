-- What PhaseRotation and Expectation say, of the published form: terms with complex coefficients.
use Rattle.std.specs.Prelude.{ℕ, ◌≡◌, true, false, cond, List, [], ◌∷◌, map, T, Float}
use Rattle.std.proofs.Math.Option.{some}
use Rattle.std.specs.Float.{binary64}
use Rattle.std.specs.Float.Ieee.{fits}
use Rattle.numbers.specs.Constants.{one64, minus_one64}
use Rattle.numbers.specs.Tests.{is_zero}
use Rattle.words.specs.declared.Gate.{Gate}
use Rattle.words.specs.declared.Gate.TheVariants as G
use Rattle.terms.specs.declared.Axis.{Axis}
use Rattle.terms.specs.declared.Axis.TheVariants.{Z, Zz}
use Rattle.terms.specs.Lists.{All}
use Rattle.terms.specs.Term as R
use Rattle.terms.specs.Mean as S
use Rattle.terms.specs.Rotation.{met_by, partner_by, on_key}
use Rattle.published.specs.Complex.{scaled_of, plus_of}
use Rattle.published.specs.Term.{Term, term, conjugated, complex_of}
use Rattle.published.specs.Rotation.{flipped_term, turned_term, rotated}
use Rattle.published.specs.Mean.{mean_of}
use Rattle.heisenberg.specs.Expectation.{expectation}

-- ---- rotations

abbrev pub through : ℕ → Gate → ℕ → Axis → Term → Term
through w g c (Z q) t = conjugated w g q c t
through w g c (Zz a b) t = conjugated w G.Cx a b (conjugated w g b c (conjugated w G.Cx a b t))

abbrev pub times : Float → Term → Term
times f t = term t.key (scaled_of f t.coeff)

abbrev pub plus : Term → Term → Term
plus p q = term p.key (plus_of p.coeff q.coeff)

abbrev pub turned : ℕ → Axis → Float → Float → List Term → List Term
turned w axis sin cos ts = rotated (met_by axis) (partner_by w axis) sin cos ts

abbrev pub sum_of : Float → Float → Term → Term → List Term
sum_of sin cos p q = cond (is_zero sin) (p ∷ []) (cond (is_zero cos) (q ∷ []) (p ∷ q ∷ []))

-- the real part of a term; its word is of the width
abbrev pub real_of : Term → R.Term
real_of t = R.term t.key t.coeff.re

abbrev pub OnWidth : ℕ → Term → Type 0
OnWidth w t = R.OnWidth w (real_of t)

module _ (w : ℕ) (axis : Axis) (c : ℕ) where
  pub record ByPhaseGate (sin cos : Float) (t : Term) : Type 0 where
    pub leaves : met_by axis t.key ≡ false → (turned w axis sin cos (t ∷ []) ≡ t ∷ []) × (through w G.S c axis t ≡ t)
    pub turns : met_by axis t.key ≡ true → turned w axis sin cos (t ∷ []) ≡ sum_of sin cos (times cos t) (through w G.S c axis (times sin t))
    -- "flip(c) = (im × sin, -(re × sin))"
    pub sends : met_by axis t.key ≡ true → flipped_term (met_by axis) (partner_by w axis) sin cos t ≡ through w G.S c axis (times sin t)
    pub takes : (u : Term) → met_by axis t.key ≡ true → partner_by w axis t.key ≡ u.key
        → ((through w G.S c axis (times sin u)).key ≡ t.key)
        × (turned_term (met_by axis) (partner_by w axis) sin cos t (some u.coeff) ≡ plus (times cos t) (through w G.S c axis (times sin u)))

  pub record AtQuarters (zero : Float) (t : Term) : Type 0 where
    pub quarter : turned w axis one64 zero (t ∷ []) ≡ through w G.S c axis t ∷ []
    pub back : turned w axis minus_one64 zero (t ∷ []) ≡ through w G.Sdg c axis t ∷ []
    pub half : turned w axis zero minus_one64 (t ∷ []) ≡ through w G.Z c axis t ∷ []

pub record RotationsByPhaseGate : Type 0 where
  pub rotation : (w : ℕ) (axis : Axis) (c : ℕ) (sin cos : Float) (t : Term) → on_key w axis ≡ true → OnWidth w t → ByPhaseGate w axis c sin cos t
  pub quarters : (w : ℕ) (axis : Axis) (c : ℕ) (zero : Float) (t : Term) → on_key w axis ≡ true → OnWidth w t → is_zero zero ≡ true
      → T (fits binary64 t.coeff.re) → T (fits binary64 t.coeff.im) → AtQuarters w axis c zero t

-- ---- "Mean: .., real part"

pub record MeanIsExpectation : Type 0 where
  pub complex : (w : ℕ) (ts : List Term) → All (OnWidth w) ts → mean_of w ts ≡ expectation w (map real_of ts)
  -- of stored rows, by the coefficients that they stand for: a word without x has no Y letter, and its number is the real part
  pub stored : (w : ℕ) (ts : List R.Term) → All (R.OnWidth w) ts → S.mean_of w ts ≡ expectation w (map (λ t. real_of (complex_of w t)) ts)
