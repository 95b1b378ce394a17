-- A map between numbers that respects their operations respects those of complex numbers and matrices, and so what operation elements do.
use mathlib.Core.Path.{◌≡◌, ap, ap₂, ◌∙◌}
use mathlib.Core.List.{List, [], ◌∷◌}
use lib.Dec.{T}
use Rattle.words.proofs.EveryGate.{and_fst, and_snd}
use Rattle.kraus.specs.Arithmetic.{Arithmetic, Complex, complex, complex_over, Matrix, matrix, matrices_over}
use Rattle.kraus.specs.Formula.{Formula}
use Rattle.kraus.specs.Operators.{Letter, I, X, Y, Z, Factor, pauli, rows, product, Element, Element2}
use Rattle.kraus.specs.Operators.{Operators, of_real, scalar, sigma, factor_of, heisenberg, Operators2, block, tensor, scalar2, heisenberg2}
use Rattle.kraus.proofs.Polynomial.{Polynomial}
use Rattle.kraus.proofs.Reading.{is_exact, factor_exact, elements_exact, elements2_exact}

pub record Hom (A B : Arithmetic) : Type 0 where
  pub f : A.Number → B.Number
  pub f_nought : f A.nought ≡ B.nought
  pub f_unit : f A.unit ≡ B.unit
  pub f_plus : (u v : A.Number) → f (A.plus u v) ≡ B.plus (f u) (f v)
  pub f_times : (u v : A.Number) → f (A.times u v) ≡ B.times (f u) (f v)
  pub f_minus : (u : A.Number) → f (A.minus u) ≡ B.minus (f u)
  pub f_star : (u : A.Number) → f (A.star u) ≡ B.star (f u)

pub matrix_path : {A : Type 0} {p q r s p' q' r' s' : A} → p ≡ p' → q ≡ q' → r ≡ r' → s ≡ s' → matrix p q r s ≡ matrix p' q' r' s'
matrix_path e f g h = λ i. matrix (e i) (f i) (g i) (h i)

pub complex_path : {A : Type 0} {p q p' q' : A} → p ≡ p' → q ≡ q' → complex p q ≡ complex p' q'
complex_path e f = λ i. complex (e i) (f i)

module _ (A B : Arithmetic) (h : Hom A B) where
  abbrev sum_of : (u v : A.Number) {p q : B.Number} → h.f u ≡ p → h.f v ≡ q → h.f (A.plus u v) ≡ B.plus p q
  sum_of u v e g = h.f_plus u v ∙ ap₂ B.plus e g

  abbrev pub on_complex : Hom (complex_over A) (complex_over B)
  on_complex =
      record {
        f = λ u. complex (h.f u.re) (h.f u.im);
        f_nought = complex_path h.f_nought h.f_nought;
        f_unit = complex_path h.f_unit h.f_nought;
        f_plus = λ u v. complex_path (h.f_plus u.re v.re) (h.f_plus u.im v.im);
        f_times = λ u v. complex_path
            (sum_of _ _ (h.f_times u.re v.re) (h.f_minus _ ∙ ap B.minus (h.f_times u.im v.im)))
            (sum_of _ _ (h.f_times u.re v.im) (h.f_times u.im v.re));
        f_minus = λ u. complex_path (h.f_minus u.re) (h.f_minus u.im);
        f_star = λ u. complex_path (h.f_star u.re) (h.f_minus _ ∙ ap B.minus (h.f_star u.im));
      }

  -- w (m† (u m)), of an operation element with the factor m
  sandwich : (w m u : A.Number) {w' m' u' : B.Number} → h.f w ≡ w' → h.f m ≡ m' → h.f u ≡ u'
      → h.f (A.times w (A.times (A.star m) (A.times u m))) ≡ B.times w' (B.times (B.star m') (B.times u' m'))
  sandwich w m u ew em eu =
      h.f_times w _
      ∙ ap₂ B.times ew (h.f_times _ _ ∙ ap₂ B.times (h.f_star m ∙ ap B.star em) (h.f_times u m ∙ ap₂ B.times eu em))

  abbrev dot_of : (u v w z : A.Number) → h.f (A.plus (A.times u v) (A.times w z)) ≡ B.plus (B.times (h.f u) (h.f v)) (B.times (h.f w) (h.f z))
  dot_of u v w z = sum_of _ _ (h.f_times u v) (h.f_times w z)

  abbrev pub on_matrices : Hom (matrices_over A) (matrices_over B)
  on_matrices =
      record {
        f = λ m. matrix (h.f m.a) (h.f m.b) (h.f m.c) (h.f m.d);
        f_nought = matrix_path h.f_nought h.f_nought h.f_nought h.f_nought;
        f_unit = matrix_path h.f_unit h.f_nought h.f_nought h.f_unit;
        f_plus = λ m n. matrix_path (h.f_plus m.a n.a) (h.f_plus m.b n.b) (h.f_plus m.c n.c) (h.f_plus m.d n.d);
        f_times = λ m n. matrix_path
            (dot_of m.a n.a m.b n.c) (dot_of m.a n.b m.b n.d) (dot_of m.c n.a m.d n.c) (dot_of m.c n.b m.d n.d);
        f_minus = λ m. matrix_path (h.f_minus m.a) (h.f_minus m.b) (h.f_minus m.c) (h.f_minus m.d);
        f_star = λ m. matrix_path (h.f_star m.a) (h.f_star m.c) (h.f_star m.b) (h.f_star m.d);
      }

module _ (A B : Arithmetic) (h : Hom A B) where
  abbrev hc : Hom (complex_over A) (complex_over B)
  hc = on_complex A B h

  abbrev pub hm : Hom (Operators A) (Operators B)
  hm = on_matrices (complex_over A) (complex_over B) hc

  abbrev pub hm2 : Hom (Operators2 A) (Operators2 B)
  hm2 = on_matrices (Operators A) (Operators B) hm

  real_of : {u : A.Number} {v : B.Number} → h.f u ≡ v → hc.f (of_real A u) ≡ of_real B v
  real_of e = complex_path e h.f_nought

  nil : hc.f (of_real A A.nought) ≡ of_real B B.nought
  nil = real_of h.f_nought

  pub scalar_of : {u : A.Number} {v : B.Number} → h.f u ≡ v → hm.f (scalar A u) ≡ scalar B v
  scalar_of e = matrix_path (real_of e) nil nil (real_of e)

  pub sigma_of : (l : Letter) → hm.f (sigma A l) ≡ sigma B l
  sigma_of I = matrix_path (real_of h.f_unit) nil nil (real_of h.f_unit)
  sigma_of X = matrix_path nil (real_of h.f_unit) (real_of h.f_unit) nil
  sigma_of Y =
      let n = h.f_nought in
      matrix_path nil (complex_path (h.f_minus _ ∙ ap B.minus n) (h.f_minus _ ∙ ap B.minus h.f_unit)) (complex_path n h.f_unit) nil
  sigma_of Z = matrix_path (real_of h.f_unit) nil nil (real_of (h.f_minus _ ∙ ap B.minus h.f_unit))

  block_of : (v : Complex A.Number) (n : Matrix (Complex A.Number)) → hm.f (block A v n) ≡ block B (hc.f v) (hm.f n)
  block_of v n = matrix_path (hc.f_times v n.a) (hc.f_times v n.b) (hc.f_times v n.c) (hc.f_times v n.d)

  pub tensor_of : (m n : Matrix (Complex A.Number)) → hm2.f (tensor A m n) ≡ tensor B (hm.f m) (hm.f n)
  tensor_of m n = matrix_path (block_of m.a n) (block_of m.b n) (block_of m.c n) (block_of m.d n)

  pub scalar2_of : {u : A.Number} {v : B.Number} → h.f u ≡ v → hm2.f (scalar2 A u) ≡ scalar2 B v
  scalar2_of {u} e = tensor_of (scalar A u) (sigma A I) ∙ ap₂ (tensor B) (scalar_of e) (sigma_of I)

  -- readings of formulas that the map takes to one another, where a test passes
  module _ (p : Formula → A.Number) (q : Formula → B.Number) (rs : List Polynomial) (sound : (f : Formula) → T (is_exact rs f) → h.f (p f) ≡ q f) where
    factor_of_lem : (m : Factor) → T (factor_exact rs m) → hm.f (factor_of A p m) ≡ factor_of B q m
    factor_of_lem (pauli l) t = sigma_of l
    factor_of_lem (rows f g k l) t =
        let t₁ = and_snd (is_exact rs f) _ t in
        let t₂ = and_snd (is_exact rs g) _ t₁ in
        matrix_path
        (real_of (sound f (and_fst (is_exact rs f) _ t)))
        (real_of (sound g (and_fst (is_exact rs g) _ t₁)))
        (real_of (sound k (and_fst (is_exact rs k) _ t₂)))
        (real_of (sound l (and_snd (is_exact rs k) _ t₂)))
    factor_of_lem (product m n) t =
        hm.f_times (factor_of A p m) (factor_of A p n)
        ∙ ap₂ (Operators B).times (factor_of_lem m (and_fst (factor_exact rs m) _ t)) (factor_of_lem n (and_snd (factor_exact rs m) _ t))

    pub heisenberg_of : (es : List Element) → T (elements_exact rs es) → (u : (Operators A).Number) {u' : (Operators B).Number} → hm.f u ≡ u'
        → hm.f (heisenberg A p es u) ≡ heisenberg B q es u'
    unfolding heisenberg elements_exact
    heisenberg_of [] t u e = hm.f_nought
    heisenberg_of (k ∷ es) t u e =
        let t₁ = and_snd (is_exact rs k.weight) _ t in
        hm.f_plus _ _
        ∙ ap₂ (Operators B).plus
        (sandwich (Operators A) (Operators B) hm _ _ u (scalar_of (sound k.weight (and_fst (is_exact rs k.weight) _ t))) (factor_of_lem k.factor (and_fst (factor_exact rs k.factor) _ t₁)) e)
        (heisenberg_of es (and_snd (factor_exact rs k.factor) _ t₁) u e)

    pub heisenberg2_of : (es : List Element2) → T (elements2_exact rs es) → (u : (Operators2 A).Number) {u' : (Operators2 B).Number} → hm2.f u ≡ u'
        → hm2.f (heisenberg2 A p es u) ≡ heisenberg2 B q es u'
    unfolding heisenberg2 elements2_exact
    heisenberg2_of [] t u e = hm2.f_nought
    heisenberg2_of (k ∷ es) t u e =
        hm2.f_plus _ _
        ∙ ap₂ (Operators2 B).plus
        (sandwich (Operators2 A) (Operators2 B) hm2 _ _ u
        (scalar2_of (sound k.weight (and_fst (is_exact rs k.weight) _ t)))
        (tensor_of (sigma A k.first) (sigma A k.second) ∙ ap₂ (tensor B) (sigma_of k.first) (sigma_of k.second))
        e)
        (heisenberg2_of es (and_snd (is_exact rs k.weight) _ t) u e)
