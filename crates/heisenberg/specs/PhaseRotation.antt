-- Rotations t, tdg, rz, p and rzz from the phase gate s: a word P that is met becomes cos θ · P + sin θ · (S† P S), any other stays. Why S† P S: PauliProduct.
use Rattle.std.specs.Prelude.{ℕ, ◌≡◌, true, false, cond, List, [], ◌∷◌, T, Float}
use Rattle.std.proofs.Math.Option.{some}
use Rattle.std.specs.Float.{binary64}
use Rattle.std.specs.Float.Ieee.{fits}
use Rattle.numbers.specs.Constants.{one64, minus_one64}
use Rattle.numbers.specs.Tests.{is_zero}
use Rattle.words.specs.declared.Gate.{Gate}
use Rattle.words.specs.declared.Gate.TheVariants as G
use Rattle.terms.specs.declared.Axis.{Axis}
use Rattle.terms.specs.declared.Axis.TheVariants.{Z, Zz}
use Rattle.terms.specs.Coefficient.{scaled_of, plus_of}
use Rattle.terms.specs.Term.{Term, term, OnWidth, conjugated}
use Rattle.terms.specs.Rotation.{met_by, partner_by, on_key, flipped_term, turned_term, rotated}

-- a gate at the axis: at its target; for rzz at b between two cx, where x of b is the parity of the two. c is the second target, which no gate with one looks at
abbrev pub through : ℕ → Gate → ℕ → Axis → Term → Term
through w g c (Z q) t = conjugated w g q c t
through w g c (Zz a b) t = conjugated w G.Cx a b (conjugated w g b c (conjugated w G.Cx a b t))

abbrev pub times : Float → Term → Term
times f t = term t.key (scaled_of f t.coeff)

-- p + q, of one word
abbrev pub plus : Term → Term → Term
plus p q = term p.key (plus_of p.coeff q.coeff)

abbrev pub turned : ℕ → Axis → Float → Float → List Term → List Term
turned w axis sin cos ts = rotated w (met_by axis) (partner_by w axis) sin cos ts

-- a sum p + q without the terms whose factor is 0
abbrev pub sum_of : Float → Float → Term → Term → List Term
sum_of sin cos p q = cond (is_zero sin) (p ∷ []) (cond (is_zero cos) (q ∷ []) (p ∷ q ∷ []))

module _ (w : ℕ) (axis : Axis) (c : ℕ) where
  -- of every term, sine and cosine
  pub record ByPhaseGate (sin cos : Float) (t : Term) : Type 0 where
    -- a term that is not met is left, by the gate too
    pub leaves : met_by axis t.key ≡ false → (turned w axis sin cos (t ∷ []) ≡ t ∷ []) × (through w G.S c axis t ≡ t)
    -- one that is met, alone
    pub turns : met_by axis t.key ≡ true → turned w axis sin cos (t ∷ []) ≡ sum_of sin cos (times cos t) (through w G.S c axis (times sin t))
    -- among others: what it sends to its partner's word, and what it becomes where its partner u is there
    pub sends : met_by axis t.key ≡ true → flipped_term w (met_by axis) (partner_by w axis) sin cos t ≡ through w G.S c axis (times sin t)
    pub takes : (u : Term) → met_by axis t.key ≡ true → partner_by w axis t.key ≡ u.key
        → ((through w G.S c axis (times sin u)).key ≡ t.key)
        × (turned_term w (met_by axis) (partner_by w axis) sin cos t (some u.coeff) ≡ plus (times cos t) (through w G.S c axis (times sin u)))

  -- sine 1 and cosine 0 are s, -1 and 0 are sdg, 0 and -1 are z
  pub record AtQuarters (zero : Float) (t : Term) : Type 0 where
    pub quarter : turned w axis one64 zero (t ∷ []) ≡ through w G.S c axis t ∷ []
    pub back : turned w axis minus_one64 zero (t ∷ []) ≡ through w G.Sdg c axis t ∷ []
    pub half : turned w axis zero minus_one64 (t ∷ []) ≡ through w G.Z c axis t ∷ []

-- of every width, axis that the words have, and term; a coefficient is any binary64 where a product with 1 is to be exact
pub record RotationsByPhaseGate : Type 0 where
  pub rotation : (w : ℕ) (axis : Axis) (c : ℕ) (sin cos : Float) (t : Term) → on_key w axis ≡ true → OnWidth w t → ByPhaseGate w axis c sin cos t
  pub quarters : (w : ℕ) (axis : Axis) (c : ℕ) (zero : Float) (t : Term) → on_key w axis ≡ true → OnWidth w t → is_zero zero ≡ true → T (fits binary64 t.coeff)
      → AtQuarters w axis c zero t
