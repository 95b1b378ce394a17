-- The operation elements of each channel give the multipliers and the identity branch, of each letter: an identity of polynomials in the parameters, which
-- antt computes, and so one of the values in any exact numbers. Assumes nothing.
use mathlib.Core.Path.{◌≡◌, sym, ap, ap₂, ◌∙◌, subst}
use mathlib.Core.Bool.{Bool, ◌&&◌}
use mathlib.Core.List.{List, [], ◌∷◌, map}
use lib.Dec.{T}
use Rattle.words.proofs.EveryGate.{and_fst, and_snd}
use Rattle.kraus.specs.Arithmetic.{Arithmetic, Complex, Matrix}
use Rattle.kraus.specs.Formula.{Formula, number, real, ◌⊟◌}
use Rattle.kraus.specs.Exact.{Exact, value_of}
use Rattle.kraus.specs.Operators as O
use Rattle.kraus.specs.Operators.{Letter, I, X, Y, Z, Operators, sigma, Operators2, tensor}
use Rattle.kraus.specs.Channels.{Channel, Pauli, Depol, Damp, Phase, Thermal, elements, reals, multiplier, identity_of, image, due, Published}
use Rattle.kraus.specs.Channels.{followed_by, phase_elements, general_elements}
use Rattle.kraus.specs.Channels.{depol2_elements, reals2, multiplier2, image2, due2, Published2}
use Rattle.kraus.proofs.Polynomial as P
use Rattle.kraus.proofs.Polynomial.{Polynomial, polynomials}
use Rattle.kraus.proofs.Reading.{exact, is_exact, all_exact, elements_exact, elements2_exact}
use Rattle.kraus.proofs.RingLaws as R
use Rattle.kraus.proofs.Homomorphisms.{Hom, matrix_path, complex_path, hm, hm2, scalar_of, sigma_of, heisenberg_of, tensor_of, scalar2_of, heisenberg2_of}
use Rattle.kraus.proofs.ReadingLaws as L

-- ---- over polynomials

abbrev parameters : List Polynomial
parameters = P.x ∷ P.y ∷ P.z ∷ []

-- the reals of a channel as polynomials
abbrev pub given : List Formula → List Polynomial
given fs = map (exact parameters) fs

abbrev Operator : Type 0
Operator = Matrix (Complex Polynomial)

abbrev same_complex : Complex Polynomial → Complex Polynomial → Bool
same_complex u v = P.same u.re v.re && P.same u.im v.im

abbrev pub same : Operator → Operator → Bool
same m n = same_complex m.a n.a && (same_complex m.b n.b && (same_complex m.c n.c && same_complex m.d n.d))

abbrev same2 : Matrix Operator → Matrix Operator → Bool
same2 m n = same m.a n.a && (same m.b n.b && (same m.c n.c && same m.d n.d))

abbrev every_letter : (Letter → Bool) → Bool
every_letter p = p I && (p X && (p Y && p Z))

at_letter : (p : Letter → Bool) → T (every_letter p) → (l : Letter) → T (p l)
at_letter p t I = and_fst (p I) _ t
at_letter p t X = and_fst (p X) _ (and_snd (p I) _ t)
at_letter p t Y = and_fst (p Y) _ (and_snd (p X) _ (and_snd (p I) _ t))
at_letter p t Z = and_snd (p Y) _ (and_snd (p X) _ (and_snd (p I) _ t))

-- a channel's formulas have a reading
abbrev is_read : Channel → Bool
is_read c = all_exact parameters (reals c) && elements_exact (given (reals c)) (elements c)

abbrev is_read_at : Channel → Letter → Bool
is_read_at c l = is_exact (given (reals c)) (multiplier c l) && is_exact (given (reals c)) (identity_of c l)

-- the sum of E† P E is what it is to be
abbrev is_due : Channel → Letter → Bool
is_due c l = let p = exact (given (reals c)) in same (image polynomials p c l) (due polynomials p c l)

computed : (c : Channel) → T (is_read c && (every_letter (is_read_at c) && every_letter (is_due c)))
unfolding O.heisenberg exact is_exact all_exact P.same elements_exact followed_by
computed Pauli = tt
computed Depol = tt
computed Damp = tt
computed Phase = tt
computed Thermal = tt

read : (c : Channel) → T (is_read c)
read c = and_fst (is_read c) _ (computed c)

read_at : (c : Channel) (l : Letter) → T (is_read_at c l)
read_at c = at_letter (is_read_at c) (and_fst (every_letter (is_read_at c)) _ (and_snd (is_read c) _ (computed c)))

is_due_lem : (c : Channel) (l : Letter) → T (is_due c l)
is_due_lem c = at_letter (is_due c) (and_snd (every_letter (is_read_at c)) _ (and_snd (is_read c) _ (computed c)))

-- thermal relaxation with the phase damped first
phase_first : let p = exact (given (reals Thermal)) in
    let es = followed_by (phase_elements (real 1)) (general_elements (real 0) (number 1 ⊟ real 2)) in
    T (every_letter (λ l. same (O.heisenberg polynomials p es (sigma polynomials l)) (due polynomials p Thermal l)))
unfolding O.heisenberg exact P.same followed_by
phase_first = tt

-- depol2
read2 : T (all_exact parameters reals2 && elements2_exact (given reals2) depol2_elements)
unfolding exact is_exact all_exact elements2_exact
read2 = tt

read2_at : (l m : Letter) → T (is_exact (given reals2) (multiplier2 l m))
unfolding exact is_exact
read2_at l m = at_letter (λ m. is_exact (given reals2) (multiplier2 l m)) (at_letter (λ l. every_letter (λ m. is_exact (given reals2) (multiplier2 l m))) tt l) m

abbrev is_due2 : Letter → Letter → Bool
is_due2 l m = let p = exact (given reals2) in same2 (image2 polynomials p l m) (due2 polynomials p l m)

is_due2_lem : (l m : Letter) → T (is_due2 l m)
unfolding O.heisenberg2 exact P.same
is_due2_lem l m = at_letter (is_due2 l) (at_letter (λ l. every_letter (is_due2 l)) tt l) m

-- ---- in any exact numbers

module _ (N : Arithmetic) (E : Exact N) (x y z : N.Number) (x0 : E.AtLeast0 x) (y0 : E.AtLeast0 y) (z0 : E.AtLeast0 z) where
  abbrev hom : Hom polynomials N
  hom = L.hom N E x y z

  abbrev on_operators : Operator → (Operators N).Number
  on_operators m = (hm polynomials N hom).f m

  abbrev on_pairs : Matrix Operator → (Operators2 N).Number
  on_pairs m = (hm2 polynomials N hom).f m

  complex_same : (u v : Complex Polynomial) → T (same_complex u v)
      → ◌≡◌ {A = Complex N.Number} (record { re = hom.f u.re; im = hom.f u.im }) (record { re = hom.f v.re; im = hom.f v.im })
  complex_same u v t =
      complex_path
      (R.at_same N E.ring x y z u.re v.re (and_fst (P.same u.re v.re) _ t))
      (R.at_same N E.ring x y z u.im v.im (and_snd (P.same u.re v.re) _ t))

  operator_same : (m n : Operator) → T (same m n) → on_operators m ≡ on_operators n
  operator_same m n t =
      let t₁ = and_snd (same_complex m.a n.a) _ t in
      let t₂ = and_snd (same_complex m.b n.b) _ t₁ in
      matrix_path
      (complex_same m.a n.a (and_fst (same_complex m.a n.a) _ t))
      (complex_same m.b n.b (and_fst (same_complex m.b n.b) _ t₁))
      (complex_same m.c n.c (and_fst (same_complex m.c n.c) _ t₂))
      (complex_same m.d n.d (and_snd (same_complex m.c n.c) _ t₂))

  pair_same : (m n : Matrix Operator) → T (same2 m n) → on_pairs m ≡ on_pairs n
  pair_same m n t =
      let t₁ = and_snd (same m.a n.a) _ t in
      let t₂ = and_snd (same m.b n.b) _ t₁ in
      matrix_path
      (operator_same m.a n.a (and_fst (same m.a n.a) _ t))
      (operator_same m.b n.b (and_fst (same m.b n.b) _ t₁))
      (operator_same m.c n.c (and_fst (same m.c n.c) _ t₂))
      (operator_same m.d n.d (and_snd (same m.c n.c) _ t₂))

  -- a channel's reals as polynomials have the values that its formulas have
  abbrev valued : List Formula → Formula → N.Number
  valued fs f = value_of N E (map (L.at N E x y z) (given fs)) f

  values : (fs : List Formula) → T (all_exact parameters fs) → map (L.at N E x y z) (given fs) ≡ map (value_of N E (x ∷ y ∷ z ∷ [])) fs
  values fs t =
      L.sound_all N E x y z x0 y0 z0 parameters fs t
      ∙ ap (λ (vs : List N.Number). map (value_of N E vs) fs) (L.parameters N E x y z x0 y0 z0)

  sound : (fs : List Formula) (f : Formula) → T (is_exact (given fs) f) → hom.f (exact (given fs) f) ≡ valued fs f
  sound fs f t = L.sound N E x y z x0 y0 z0 (given fs) f t

  one_qubit : (c : Channel) (l : Letter) → image N (valued (reals c)) c l ≡ due N (valued (reals c)) c l
  one_qubit c l =
      let p = exact (given (reals c)) in
      let ops = hm polynomials N hom in
      let s = sigma_of polynomials N hom l in
      let es = and_snd (all_exact parameters (reals c)) _ (read c) in
      let m = and_fst (is_exact (given (reals c)) (multiplier c l)) _ (read_at c l) in
      let n = and_snd (is_exact (given (reals c)) (multiplier c l)) _ (read_at c l) in
      sym (heisenberg_of polynomials N hom p (valued (reals c)) (given (reals c)) (sound (reals c)) (elements c) es (sigma polynomials l) s)
      ∙ operator_same (image polynomials p c l) (due polynomials p c l) (is_due_lem c l)
      ∙ ops.f_plus _ _
      ∙ ap₂ (Operators N).plus
      (ops.f_times _ _ ∙ ap₂ (Operators N).times (scalar_of polynomials N hom (sound (reals c) (multiplier c l) m)) s)
      (scalar_of polynomials N hom (sound (reals c) (identity_of c l) n))

  two_qubits : (l m : Letter) → image2 N (valued reals2) l m ≡ due2 N (valued reals2) l m
  two_qubits l m =
      let p = exact (given reals2) in
      let ops = hm2 polynomials N hom in
      let s : on_pairs (tensor polynomials (sigma polynomials l) (sigma polynomials m)) ≡ tensor N (sigma N l) (sigma N m)
      = tensor_of polynomials N hom _ _ ∙ ap₂ (tensor N) (sigma_of polynomials N hom l) (sigma_of polynomials N hom m) in
      let es = and_snd (all_exact parameters reals2) _ read2 in
      sym (heisenberg2_of polynomials N hom p (valued reals2) (given reals2) (sound reals2) depol2_elements es _ s)
      ∙ pair_same (image2 polynomials p l m) (due2 polynomials p l m) (is_due2_lem l m)
      ∙ ops.f_times _ _
      ∙ ap₂ (Operators2 N).times (scalar2_of polynomials N hom (sound reals2 (multiplier2 l m) (read2_at l m))) s

pub published : (c : Channel) (l : Letter) → Published c l
published c l N E x y z x0 y0 z0 =
    subst (λ (vs : List N.Number). image N (value_of N E vs) c l ≡ due N (value_of N E vs) c l)
    (values N E x y z x0 y0 z0 (reals c) (and_fst (all_exact parameters (reals c)) _ (read c)))
    (one_qubit N E x y z x0 y0 z0 c l)

pub published2 : (l m : Letter) → Published2 l m
published2 l m N E x y z x0 y0 z0 =
    subst (λ (vs : List N.Number). image2 N (value_of N E vs) l m ≡ due2 N (value_of N E vs) l m)
    (values N E x y z x0 y0 z0 reals2 (and_fst (all_exact parameters reals2) _ read2))
    (two_qubits N E x y z x0 y0 z0 l m)
