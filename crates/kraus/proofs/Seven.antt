-- The field of seven elements as exact numbers: an instance of Exact in which 0 and 1 differ. It is finite, so that its laws are computed. -1 is not among
-- its squares, as in the real numbers. Assumes nothing.
use Prim.Native.Nat.{ℕ, ◌+◌, ◌-◌, ◌*◌, ◌%◌, ◌^◌}
use mathlib.Core.Path.{◌≡◌, refl, sym, ap, ◌∙◌}
use mathlib.Core.Bool.{Bool, true, false, not, ◌&&◌, ◌||◌}
use mathlib.Core.List.{List, [], ◌∷◌}
use lib.Dec.{T, eqb, eqb→eq}
use lib.ListN.{get_or}
use Rattle.words.proofs.EveryGate.{and_fst, and_snd}
use Rattle.kraus.specs.Arithmetic.{Arithmetic, complex, matrix}
use Rattle.kraus.specs.Formula.{Formula}
use Rattle.kraus.specs.Exact.{numeral, Ring, Divisor, three, fifteen, Exact, value_of}
use Rattle.kraus.specs.Operators as O
use Rattle.kraus.specs.Operators.{X, Y, Z, Operators, Operators2, sigma, scalar2, tensor}
use Rattle.kraus.specs.Channels.{Damp, reals, image, due, reals2, image2, due2, read_by}
use Rattle.kraus.proofs.Heisenberg.{published, published2}

pub data Seven : Type 0 where
  s0 s1 s2 s3 s4 s5 s6 : Seven

-- ---- the operations, on remainders modulo 7

abbrev pub remainder : Seven → ℕ
remainder s0 = 0
remainder s1 = 1
remainder s2 = 2
remainder s3 = 3
remainder s4 = 4
remainder s5 = 5
remainder s6 = 6

abbrev pub modulo : ℕ → Seven
modulo n = get_or (s0 ∷ s1 ∷ s2 ∷ s3 ∷ s4 ∷ s5 ∷ s6 ∷ []) (n % 7) s0

abbrev pub seven : Arithmetic
seven =
    record {
      Number = Seven;
      nought = s0;
      unit = s1;
      plus = λ u v. modulo (remainder u + remainder v);
      times = λ u v. modulo (remainder u * remainder v);
      minus = λ u. modulo (7 - remainder u);
      star = λ u. u;
    }

-- n⁵ is 1 divided by n, as n⁶ is 1 where 7 does not divide n: for 3 it is 5, for 15 it is 1
abbrev pub over : Seven → ℕ → Seven
over u n = seven.times (modulo (n ^ 5)) u

-- the squares 0, 1, 2 and 4: each is the square of exactly one of them
abbrev pub is_square : Seven → Bool
is_square s0 = true
is_square s1 = true
is_square s2 = true
is_square s3 = false
is_square s4 = true
is_square s5 = false
is_square s6 = false

-- that one; 3, 5 and 6 have no root
abbrev pub sqrt : Seven → Seven
sqrt s0 = s0
sqrt s1 = s1
sqrt s2 = s4
sqrt s3 = s0
sqrt s4 = s2
sqrt s5 = s0
sqrt s6 = s0

-- ---- a test of every element, of every two and of every three, which antt computes, holds of each

abbrev every : (Seven → Bool) → Bool
every p = p s0 && (p s1 && (p s2 && (p s3 && (p s4 && (p s5 && p s6)))))

abbrev every2 : (Seven → Seven → Bool) → Bool
every2 p = every (λ u. every (p u))

abbrev every3 : (Seven → Seven → Seven → Bool) → Bool
every3 p = every (λ u. every2 (p u))

at_each : (p : Seven → Bool) → T (every p) → (u : Seven) → T (p u)
at_each p t u =
    let t₁ = and_snd (p s0) _ t in
    let t₂ = and_snd (p s1) _ t₁ in
    let t₃ = and_snd (p s2) _ t₂ in
    let t₄ = and_snd (p s3) _ t₃ in
    let t₅ = and_snd (p s4) _ t₄ in
    elim u as (λ (u : Seven). T (p u)) [
      | s0 ↦ and_fst (p s0) _ t
      | s1 ↦ and_fst (p s1) _ t₁
      | s2 ↦ and_fst (p s2) _ t₂
      | s3 ↦ and_fst (p s3) _ t₃
      | s4 ↦ and_fst (p s4) _ t₄
      | s5 ↦ and_fst (p s5) _ t₅
      | s6 ↦ and_snd (p s5) _ t₅
    ]

at_each2 : (p : Seven → Seven → Bool) → T (every2 p) → (u v : Seven) → T (p u v)
at_each2 p t u v = at_each (p u) (at_each (λ u. every (p u)) t u) v

at_each3 : (p : Seven → Seven → Seven → Bool) → T (every3 p) → (u v w : Seven) → T (p u v w)
at_each3 p t u v w = at_each2 (p u) (at_each (λ u. every2 (p u)) t u) v w

abbrev same : Seven → Seven → Bool
same u v = eqb (remainder u) (remainder v)

modulo_remainder : (u : Seven) → modulo (remainder u) ≡ u
modulo_remainder s0 = refl
modulo_remainder s1 = refl
modulo_remainder s2 = refl
modulo_remainder s3 = refl
modulo_remainder s4 = refl
modulo_remainder s5 = refl
modulo_remainder s6 = refl

same→eq : (u v : Seven) → T (same u v) → u ≡ v
same→eq u v t = sym (modulo_remainder u) ∙ ap modulo (eqb→eq (remainder u) (remainder v) t) ∙ modulo_remainder v

-- an equation of two functions of one, two or three elements, by its test
law : (f g : Seven → Seven) → T (every (λ u. same (f u) (g u))) → (u : Seven) → f u ≡ g u
law f g t u = same→eq (f u) (g u) (at_each (λ u. same (f u) (g u)) t u)

law2 : (f g : Seven → Seven → Seven) → T (every2 (λ u v. same (f u v) (g u v))) → (u v : Seven) → f u v ≡ g u v
law2 f g t u v = same→eq (f u v) (g u v) (at_each2 (λ u v. same (f u v) (g u v)) t u v)

law3 : (f g : Seven → Seven → Seven → Seven) → T (every3 (λ u v w. same (f u v w) (g u v w))) → (u v w : Seven) → f u v w ≡ g u v w
law3 f g t u v w = same→eq (f u v w) (g u v w) (at_each3 (λ u v w. same (f u v w) (g u v w)) t u v w)

-- ---- the laws

pub ring : Ring seven
ring =
    let ◌⊕◌ = seven.plus in
    let ◌⊗◌ = seven.times in
    record {
      plus_assoc = law3 (λ u v w. ◌⊕◌ (◌⊕◌ u v) w) (λ u v w. ◌⊕◌ u (◌⊕◌ v w)) tt;
      plus_comm = law2 (λ u v. ◌⊕◌ u v) (λ u v. ◌⊕◌ v u) tt;
      plus_nought = law (λ u. ◌⊕◌ u s0) (λ u. u) tt;
      plus_minus = law (λ u. ◌⊕◌ u (seven.minus u)) (λ u. s0) tt;
      times_assoc = law3 (λ u v w. ◌⊗◌ (◌⊗◌ u v) w) (λ u v w. ◌⊗◌ u (◌⊗◌ v w)) tt;
      times_comm = law2 (λ u v. ◌⊗◌ u v) (λ u v. ◌⊗◌ v u) tt;
      times_unit = law (λ u. ◌⊗◌ u s1) (λ u. u) tt;
      times_plus = law3 (λ u v w. ◌⊗◌ u (◌⊕◌ v w)) (λ u v w. ◌⊕◌ (◌⊗◌ u v) (◌⊗◌ u w)) tt;
      star_same = λ u. refl;
    }

pub over_times : (u : Seven) (n : ℕ) → Divisor n → over (seven.times (numeral seven n) u) n ≡ u
unfolding numeral
over_times u _ three = law (λ u. over (seven.times (numeral seven 3) u) 3) (λ u. u) tt u
over_times u _ fifteen = law (λ u. over (seven.times (numeral seven 15) u) 15) (λ u. u) tt u

-- where the first is true, the second is
implied : (a b : Bool) → T (not a || b) → T a → T b
implied true b t s = t
implied false b t s = absurd s

pub sqrt_square : (u : Seven) → T (is_square u) → sqrt (seven.times u u) ≡ u
sqrt_square u s =
    same→eq (sqrt (seven.times u u)) u
    (implied (is_square u) _ (at_each (λ u. not (is_square u) || same (sqrt (seven.times u u)) u) tt u) s)

-- the laws ask for max0 of squares alone
abbrev pub exactly : Exact seven
exactly =
    record {
      ring = ring;
      over = over;
      over_times = over_times;
      max0 = λ u. u;
      max0_square = λ u. refl;
      AtLeast0 = λ u. T (is_square u);
      sqrt = sqrt;
      sqrt_square = sqrt_square;
    }

-- ---- `published` and `published2` there, and what their two sides are, computed

-- a formula's value where each parameter is x
abbrev value : List Formula → Seven → Formula → Seven
value fs x f = read_by seven exactly fs x x x f

-- the matrix with the real rows (p q) and (r s)
abbrev entries : Seven → Seven → Seven → Seven → (Operators seven).Number
entries p q r s = matrix (complex p s0) (complex q s0) (complex r s0) (complex s s0)

-- √(1-gamma) = 4, so 1-gamma = 16 = 2 and gamma = -1 = 6: Z goes to 2 Z + 6 I, which has 2 + 6 = 1 and -2 + 6 = 4
pub damp : image seven (value (reals Damp) s4) Damp Z ≡ due seven (value (reals Damp) s4) Damp Z
damp = published Damp Z seven exactly s4 s4 s4 tt tt tt

damp_image : image seven (value (reals Damp) s4) Damp Z ≡ entries s1 s0 s0 s4
unfolding O.heisenberg value_of
damp_image = refl

damp_due : due seven (value (reals Damp) s4) Damp Z ≡ entries s1 s0 s0 s4
unfolding value_of
damp_due = refl

-- each of the fifteen pairs with 2: XY goes to 1 - 16 · 2 = -31 = 4 times XY
abbrev fourfold : (Operators2 seven).Number
fourfold = (Operators2 seven).times (scalar2 seven s4) (tensor seven (sigma seven X) (sigma seven Y))

pub depol2 : image2 seven (value reals2 s2) X Y ≡ due2 seven (value reals2 s2) X Y
depol2 = published2 X Y seven exactly s2 s2 s2 tt tt tt

depol2_image : image2 seven (value reals2 s2) X Y ≡ fourfold
unfolding O.heisenberg2 value_of
depol2_image = refl

depol2_due : due2 seven (value reals2 s2) X Y ≡ fourfold
unfolding value_of
depol2_due = refl
