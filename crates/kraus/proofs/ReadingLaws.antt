-- Where its test passes, a formula's reading as a polynomial has the formula's exact value.
use Prim.Native.Nat.{ℕ, zero, suc}
use mathlib.Core.Path.{◌≡◌, refl, sym, ap, ap₂, ◌∙◌, subst}
use mathlib.Core.Bool.{Bool, true, false, ◌||◌}
use mathlib.Core.List.{List, [], ◌∷◌, map}
use lib.Dec.{T, eqb, eqb→eq}
use lib.ListN.{get_or}
use Rattle.words.proofs.EveryGate.{and_fst, and_snd}
use Rattle.kraus.specs.Arithmetic.{Arithmetic}
use Rattle.kraus.specs.Formula.{Formula, number, real, ◌⊞◌, ◌⊟◌, ◌⊠◌, ◌÷◌, held, root}
use Rattle.kraus.specs.Exact.{numeral, Divisor, three, fifteen, Exact, value_of}
use Rattle.kraus.proofs.Polynomial as P
use Rattle.kraus.proofs.Polynomial.{Polynomial, polynomials}
use Rattle.kraus.proofs.Reading.{exact, is_exact, all_exact}
use Rattle.kraus.proofs.RingLaws as R
use Rattle.kraus.proofs.Homomorphisms.{Hom}

module _ (N : Arithmetic) (E : Exact N) (x y z : N.Number) where
  abbrev pub at : Polynomial → N.Number
  at p = R.at N E.ring x y z p

  pub at_none : at [] ≡ N.nought
  unfolding R.at
  at_none = refl

  at_real : (rs : List Polynomial) (i : ℕ) → at (get_or rs i []) ≡ get_or (map at rs) i N.nought
  at_real [] i = at_none
  at_real (r ∷ rs) zero = refl
  at_real (r ∷ rs) (suc i) = at_real rs i

  pub unit_is : numeral N 1 ≡ N.unit
  unfolding numeral
  unit_is = E.ring.plus_nought N.unit

  abbrev pub hom : Hom polynomials N
  hom =
      record {
        f = at;
        f_nought = at_none;
        f_unit = R.at_whole N E.ring x y z 1 ∙ unit_is;
        f_plus = R.at_plus N E.ring x y z;
        f_times = R.at_times N E.ring x y z;
        f_minus = R.at_minus N E.ring x y z;
        f_star = λ p. sym (E.ring.star_same (at p));
      }

  -- ---- the parameters are at least 0
  module _ (x0 : E.AtLeast0 x) (y0 : E.AtLeast0 y) (z0 : E.AtLeast0 z) where
    parameter : (p : Polynomial) → T (P.is_parameter p) → E.AtLeast0 (at p)
    unfolding P.is_parameter
    parameter p t = go (P.same p P.x) refl (P.same p P.y) refl t
      where
        go : (b : Bool) → P.same p P.x ≡ b → (c : Bool) → P.same p P.y ≡ c → T (b || (c || P.same p P.z)) → E.AtLeast0 (at p)
        go true e c d t = subst E.AtLeast0 (sym (R.at_same N E.ring x y z p P.x (rw e tt) ∙ R.at_x N E.ring x y z)) x0
        go false e true d t = subst E.AtLeast0 (sym (R.at_same N E.ring x y z p P.y (rw d tt) ∙ R.at_y N E.ring x y z)) y0
        go false e false d t = subst E.AtLeast0 (sym (R.at_same N E.ring x y z p P.z t ∙ R.at_z N E.ring x y z)) z0

    square : (p : Polynomial) → T (P.squares p) → at p ≡ N.times (at (P.halved p)) (at (P.halved p))
    unfolding P.squares
    square p t = sym (sym (R.at_times N E.ring x y z (P.halved p) (P.halved p)) ∙ R.at_same N E.ring x y z (P.times (P.halved p) (P.halved p)) p t)

    multiple : (n : ℕ) (p : Polynomial) → T (P.divides n p) → at p ≡ N.times (numeral N n) (at (P.divided n p))
    unfolding P.divides
    multiple n p t =
        sym
        (ap (λ (v : N.Number). N.times v (at (P.divided n p))) (sym (R.at_whole N E.ring x y z n))
        ∙ sym (R.at_times N E.ring x y z (P.whole n) (P.divided n p))
        ∙ R.at_same N E.ring x y z (P.times (P.whole n) (P.divided n p)) p (and_snd (P.is_divisor n) _ t))

    divisor : (n : ℕ) (p : Polynomial) → T (P.divides n p) → Divisor n
    unfolding P.divides
    divisor n p t = go (eqb n 3) refl (and_fst (P.is_divisor n) _ t)
      where
        go : (b : Bool) → eqb n 3 ≡ b → T (b || eqb n 15) → Divisor n
        go true e t = subst Divisor (sym (eqb→eq n 3 (rw e tt))) three
        go false e t = subst Divisor (sym (eqb→eq n 15 t)) fifteen

    pub sound : (rs : List Polynomial) (f : Formula) → T (is_exact rs f) → at (exact rs f) ≡ value_of N E (map at rs) f
    unfolding exact is_exact value_of
    sound rs (number n) t = R.at_whole N E.ring x y z n
    sound rs (real i) t = at_real rs i
    sound rs (f ⊞ g) t =
        R.at_plus N E.ring x y z (exact rs f) (exact rs g)
        ∙ ap₂ N.plus (sound rs f (and_fst (is_exact rs f) _ t)) (sound rs g (and_snd (is_exact rs f) _ t))
    sound rs (f ⊟ g) t =
        R.at_plus N E.ring x y z (exact rs f) (P.minus (exact rs g))
        ∙ ap₂ N.plus
        (sound rs f (and_fst (is_exact rs f) _ t))
        (R.at_minus N E.ring x y z (exact rs g) ∙ ap N.minus (sound rs g (and_snd (is_exact rs f) _ t)))
    sound rs (f ⊠ g) t =
        R.at_times N E.ring x y z (exact rs f) (exact rs g)
        ∙ ap₂ N.times (sound rs f (and_fst (is_exact rs f) _ t)) (sound rs g (and_snd (is_exact rs f) _ t))
    sound rs (f ÷ n) t =
        let d : T (P.divides n (exact rs f)) = and_fst (P.divides n (exact rs f)) _ t in
        sym
        (ap (λ (v : N.Number). E.over v n) (sym (sound rs f (and_snd (P.divides n (exact rs f)) _ t)) ∙ multiple n (exact rs f) d)
        ∙ E.over_times (at (P.divided n (exact rs f))) n (divisor n (exact rs f) d))
    sound rs (held f) t =
        let s : T (P.squares (exact rs f)) = and_fst (P.squares (exact rs f)) _ t in
        square (exact rs f) s
        ∙ sym (E.max0_square (at (P.halved (exact rs f))))
        ∙ ap E.max0 (sym (square (exact rs f) s) ∙ sound rs f (and_snd (P.squares (exact rs f)) _ t))
    sound rs (root f) t =
        let s : T (P.squares (exact rs f)) = and_fst (P.squares (exact rs f)) _ t in
        let t₁ = and_snd (P.squares (exact rs f)) _ t in
        let a : E.AtLeast0 (at (P.halved (exact rs f))) = parameter (P.halved (exact rs f)) (and_fst (P.is_parameter (P.halved (exact rs f))) _ t₁) in
        sym (E.sqrt_square (at (P.halved (exact rs f))) a)
        ∙ ap E.sqrt (sym (square (exact rs f) s) ∙ sound rs f (and_snd (P.is_parameter (P.halved (exact rs f))) _ t₁))

    pub sound_all : (rs : List Polynomial) (fs : List Formula) → T (all_exact rs fs) → map at (map (exact rs) fs) ≡ map (value_of N E (map at rs)) fs
    unfolding all_exact
    sound_all rs [] t = refl
    sound_all rs (f ∷ fs) t = ap₂ ◌∷◌ (sound rs f (and_fst (is_exact rs f) _ t)) (sound_all rs fs (and_snd (is_exact rs f) _ t))

    pub parameters : map at (P.x ∷ P.y ∷ P.z ∷ []) ≡ x ∷ y ∷ z ∷ []
    parameters = λ i. R.at_x N E.ring x y z i ∷ R.at_y N E.ring x y z i ∷ R.at_z N E.ring x y z i ∷ []
