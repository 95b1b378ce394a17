-- In a commutative ring the value of a polynomial is a homomorphism: sums, products and signs of polynomials are those of their values.
use Prim.Native.Nat.{ℕ, zero, suc, ◌+◌, ◌*◌}
use native.Mathlib.Omega.{arith}
use mathlib.Core.Path.{◌≡◌, refl, sym, ap, ap₂, ◌∙◌}
use mathlib.Core.Bool.{Bool, true, false, cond}
use mathlib.Core.List.{[], ◌∷◌}
use lib.Dec.{T, eqb, eqb→eq}
use Rattle.words.proofs.EveryGate.{and_fst, and_snd}
use Rattle.kraus.specs.Arithmetic.{Arithmetic}
use Rattle.kraus.specs.Exact.{numeral, Ring}
use Rattle.kraus.proofs.Polynomial as P
use Rattle.kraus.proofs.Polynomial.{Monomial, Polynomial, alike, joined, opposite, product}

-- a sum of two sums, of a commutative and associative operation
module _ {A : Type 0} (◌·◌ : A → A → A) (assoc : (u v w : A) → ◌·◌ (◌·◌ u v) w ≡ ◌·◌ u (◌·◌ v w)) (comm : (u v : A) → ◌·◌ u v ≡ ◌·◌ v u) where
  infixl 40 ◌·◌
  swapped : (a b c d : A) → (a · b) · (c · d) ≡ (a · c) · (b · d)
  swapped a b c d =
      assoc a b (c · d) ∙ ap (λ (v : A). a · v) (sym (assoc b c d) ∙ ap (λ (v : A). v · d) (comm b c) ∙ assoc c b d) ∙ sym (assoc a c (b · d))

module _ (N : Arithmetic) (R : Ring N) where
  open N use {nought, unit, plus as ◌⊹◌, times as ◌·◌, minus as neg}

  infixl 30 ◌⊹◌
  infixl 40 ◌·◌
  abbrev Num : Type 0
  Num = N.Number

  nought_plus : (u : Num) → nought ⊹ u ≡ u
  nought_plus u = R.plus_comm nought u ∙ R.plus_nought u

  unit_times : (u : Num) → unit · u ≡ u
  unit_times u = R.times_comm unit u ∙ R.times_unit u

  plus_times : (u v w : Num) → (u ⊹ v) · w ≡ u · w ⊹ v · w
  plus_times u v w = R.times_comm (u ⊹ v) w ∙ R.times_plus w u v ∙ ap₂ ◌⊹◌ (R.times_comm w u) (R.times_comm w v)

  swap+ : (a b c d : Num) → (a ⊹ b) ⊹ (c ⊹ d) ≡ (a ⊹ c) ⊹ (b ⊹ d)
  swap+ = swapped ◌⊹◌ R.plus_assoc R.plus_comm

  swap* : (a b c d : Num) → (a · b) · (c · d) ≡ (a · c) · (b · d)
  swap* = swapped ◌·◌ R.times_assoc R.times_comm

  -- ---- signs

  neg_unique : (a b : Num) → a ⊹ b ≡ nought → b ≡ neg a
  neg_unique a b h =
      sym (nought_plus b)
      ∙ ap (λ (v : Num). v ⊹ b) (sym (R.plus_minus a) ∙ R.plus_comm a (neg a))
      ∙ R.plus_assoc (neg a) a b
      ∙ ap (λ (v : Num). neg a ⊹ v) h
      ∙ R.plus_nought (neg a)

  neg_nought : neg nought ≡ nought
  neg_nought = sym (neg_unique nought nought (R.plus_nought nought))

  neg_plus : (a b : Num) → neg (a ⊹ b) ≡ neg a ⊹ neg b
  neg_plus a b =
      sym (neg_unique (a ⊹ b) (neg a ⊹ neg b) (swap+ a b (neg a) (neg b) ∙ ap₂ ◌⊹◌ (R.plus_minus a) (R.plus_minus b) ∙ R.plus_nought nought))

  neg_neg : (a : Num) → neg (neg a) ≡ a
  neg_neg a = sym (neg_unique (neg a) a (R.plus_comm (neg a) a ∙ R.plus_minus a))

  twice_nought : (u : Num) → u ⊹ u ≡ u → u ≡ nought
  twice_nought u h =
      sym (R.plus_nought u)
      ∙ ap (λ (v : Num). u ⊹ v) (sym (R.plus_minus u))
      ∙ sym (R.plus_assoc u u (neg u))
      ∙ ap (λ (v : Num). v ⊹ neg u) h
      ∙ R.plus_minus u

  nought_times : (b : Num) → nought · b ≡ nought
  nought_times b = twice_nought (nought · b) (sym (plus_times nought nought b) ∙ ap (λ (v : Num). v · b) (R.plus_nought nought))

  neg_times : (a b : Num) → neg a · b ≡ neg (a · b)
  neg_times a b =
      neg_unique (a · b) (neg a · b) (sym (plus_times a (neg a) b) ∙ ap (λ (v : Num). v · b) (R.plus_minus a) ∙ nought_times b)

  times_neg : (a b : Num) → a · neg b ≡ neg (a · b)
  times_neg a b = R.times_comm a (neg b) ∙ neg_times b a ∙ ap neg (R.times_comm b a)

  -- ---- whole numbers

  abbrev num : ℕ → Num
  num n = numeral N n

  num_plus : (a b : ℕ) → num (a + b) ≡ num a ⊹ num b
  unfolding numeral
  num_plus zero b = let e : 0 + b ≡ b = omega arith in ap num e ∙ sym (nought_plus (num b))
  num_plus (suc a) b =
      let e : suc a + b ≡ suc (a + b) = omega arith in
      ap num e ∙ ap (λ (v : Num). unit ⊹ v) (num_plus a b) ∙ sym (R.plus_assoc unit (num a) (num b))

  num_times : (a b : ℕ) → num (a * b) ≡ num a · num b
  unfolding numeral
  num_times zero b = let e : 0 * b ≡ 0 = omega arith in ap num e ∙ sym (nought_times (num b))
  num_times (suc a) b =
      let e : suc a * b ≡ b + a * b = omega arith in
      ap num e ∙ num_plus b (a * b) ∙ ap₂ ◌⊹◌ (sym (unit_times (num b))) (num_times a b) ∙ sym (plus_times unit (num a) (num b))

  -- a difference, and sums and products of such
  abbrev diff : ℕ → ℕ → Num
  diff a b = num a ⊹ neg (num b)

  diff_plus : (a b c d : ℕ) → diff (a + c) (b + d) ≡ diff a b ⊹ diff c d
  diff_plus a b c d =
      ap₂ (λ (u v : Num). u ⊹ neg v) (num_plus a c) (num_plus b d)
      ∙ ap (λ (v : Num). (num a ⊹ num c) ⊹ v) (neg_plus (num b) (num d))
      ∙ swap+ (num a) (num c) (neg (num b)) (neg (num d))

  diff_neg : (a b : ℕ) → diff b a ≡ neg (diff a b)
  diff_neg a b = sym (neg_plus (num a) (neg (num b)) ∙ ap (λ (v : Num). neg (num a) ⊹ v) (neg_neg (num b)) ∙ R.plus_comm (neg (num a)) (num b))

  diff_same : (a : ℕ) → diff a a ≡ nought
  diff_same a = R.plus_minus (num a)

  products : (p m q l : Num) → (p ⊹ neg m) · (q ⊹ neg l) ≡ (p · q ⊹ m · l) ⊹ neg (p · l ⊹ m · q)
  products p m q l =
      plus_times p (neg m) (q ⊹ neg l)
      ∙ ap₂ ◌⊹◌
      (R.times_plus p q (neg l) ∙ ap (λ (v : Num). p · q ⊹ v) (times_neg p l))
      (R.times_plus (neg m) q (neg l) ∙ ap₂ ◌⊹◌ (neg_times m q) (neg_times m (neg l) ∙ ap neg (times_neg m l) ∙ neg_neg (m · l)) ∙ R.plus_comm (neg (m · q)) (m · l))
      ∙ swap+ (p · q) (neg (p · l)) (m · l) (neg (m · q))
      ∙ ap (λ (v : Num). (p · q ⊹ m · l) ⊹ v) (sym (neg_plus (p · l) (m · q)))

  diff_times : (p m q l : ℕ) → diff (p * q + m * l) (p * l + m * q) ≡ diff p m · diff q l
  diff_times p m q l =
      ap₂ (λ (u v : Num). u ⊹ neg v)
      (num_plus (p * q) (m * l) ∙ ap₂ ◌⊹◌ (num_times p q) (num_times m l))
      (num_plus (p * l) (m * q) ∙ ap₂ ◌⊹◌ (num_times p l) (num_times m q))
      ∙ sym (products (num p) (num m) (num q) (num l))

  -- ---- powers
  unfoldable pub power : Num → ℕ → Num
  power v zero = unit
  power v (suc n) = v · power v n

  power_plus : (v : Num) (a b : ℕ) → power v (a + b) ≡ power v a · power v b
  unfolding power
  power_plus v zero b = let e : 0 + b ≡ b = omega arith in ap (power v) e ∙ sym (unit_times (power v b))
  power_plus v (suc a) b =
      let e : suc a + b ≡ suc (a + b) = omega arith in
      ap (power v) e ∙ ap (λ (u : Num). v · u) (power_plus v a b) ∙ sym (R.times_assoc v (power v a) (power v b))

  -- ---- the value of a polynomial where the parameters have the values x, y, z
  module _ (x y z : Num) where
    abbrev powers : ℕ → ℕ → ℕ → Num
    powers a b c = power x a · (power y b · power z c)

    powers_plus : (a b c a' b' c' : ℕ) → powers (a + a') (b + b') (c + c') ≡ powers a b c · powers a' b' c'
    powers_plus a b c a' b' c' =
        ap₂ ◌·◌ (power_plus x a a') (ap₂ ◌·◌ (power_plus y b b') (power_plus z c c') ∙ swap* (power y b) (power y b') (power z c) (power z c'))
        ∙ swap* (power x a) (power x a') (power y b · power z c) (power y b' · power z c')

    abbrev term : Monomial → Num
    term m = diff m.more m.less · powers m.i m.j m.k

    unfoldable pub at : Polynomial → Num
    at [] = nought
    at (m ∷ p) = term m ⊹ at p

    term_joined : (m n : Monomial) → T (alike m n) → term (joined m n) ≡ term m ⊹ term n
    term_joined m n h =
        let ei : m.i ≡ n.i = eqb→eq m.i n.i (and_fst (eqb m.i n.i) _ h) in
        let h' = and_snd (eqb m.i n.i) _ h in
        let ej : m.j ≡ n.j = eqb→eq m.j n.j (and_fst (eqb m.j n.j) _ h') in
        let ek : m.k ≡ n.k = eqb→eq m.k n.k (and_snd (eqb m.j n.j) _ h') in
        let e : powers m.i m.j m.k ≡ powers n.i n.j n.k = cc in
        ap (λ (v : Num). v · powers n.i n.j n.k) (diff_plus m.more m.less n.more n.less)
        ∙ plus_times (diff m.more m.less) (diff n.more n.less) (powers n.i n.j n.k)
        ∙ ap (λ (v : Num). diff m.more m.less · v ⊹ term n) (sym e)

    at_add : (m : Monomial) (p : Polynomial) → at (P.add m p) ≡ term m ⊹ at p
    unfolding at P.add
    at_add m [] = refl
    at_add m (n ∷ p) = go (alike m n) refl (at_add m p)
      where
        go : (b : Bool) → alike m n ≡ b → at (P.add m p) ≡ term m ⊹ at p → at (cond b (joined m n ∷ p) (n ∷ P.add m p)) ≡ term m ⊹ (term n ⊹ at p)
        go true e h = let t : T (alike m n) = rw e tt in ap (λ (v : Num). v ⊹ at p) (term_joined m n t) ∙ R.plus_assoc (term m) (term n) (at p)
        go false e h =
            ap (λ (v : Num). term n ⊹ v) h
            ∙ sym (R.plus_assoc (term n) (term m) (at p))
            ∙ ap (λ (v : Num). v ⊹ at p) (R.plus_comm (term n) (term m))
            ∙ R.plus_assoc (term m) (term n) (at p)

    pub at_plus : (p q : Polynomial) → at (P.plus p q) ≡ at p ⊹ at q
    unfolding at P.plus
    at_plus [] q = sym (nought_plus (at q))
    at_plus (m ∷ p) q = at_add m (P.plus p q) ∙ ap (λ (v : Num). term m ⊹ v) (at_plus p q) ∙ sym (R.plus_assoc (term m) (at p) (at q))

    term_opposite : (m : Monomial) → term (opposite m) ≡ neg (term m)
    term_opposite m = ap (λ (v : Num). v · powers m.i m.j m.k) (diff_neg m.more m.less) ∙ neg_times (diff m.more m.less) (powers m.i m.j m.k)

    pub at_minus : (p : Polynomial) → at (P.minus p) ≡ neg (at p)
    unfolding at P.minus
    at_minus [] = sym neg_nought
    at_minus (m ∷ p) = ap₂ ◌⊹◌ (term_opposite m) (at_minus p) ∙ sym (neg_plus (term m) (at p))

    term_product : (m n : Monomial) → term (product m n) ≡ term m · term n
    term_product m n =
        ap₂ ◌·◌ (diff_times m.more m.less n.more n.less) (powers_plus m.i m.j m.k n.i n.j n.k)
        ∙ swap* (diff m.more m.less) (diff n.more n.less) (powers m.i m.j m.k) (powers n.i n.j n.k)

    times_nought : (u : Num) → u · nought ≡ nought
    times_nought u = R.times_comm u nought ∙ nought_times u

    at_by : (m : Monomial) (q : Polynomial) → at (P.by m q) ≡ term m · at q
    unfolding at P.by
    at_by m [] = sym (times_nought (term m))
    at_by m (n ∷ q) = ap₂ ◌⊹◌ (term_product m n) (at_by m q) ∙ sym (R.times_plus (term m) (term n) (at q))

    pub at_times : (p q : Polynomial) → at (P.times p q) ≡ at p · at q
    unfolding at P.times
    at_times [] q = sym (nought_times (at q))
    at_times (m ∷ p) q = at_plus (P.by m q) (P.times p q) ∙ ap₂ ◌⊹◌ (at_by m q) (at_times p q) ∙ sym (plus_times (term m) (at p) (at q))

    -- numerals and parameters
    powers_none : powers 0 0 0 ≡ unit
    unfolding power
    powers_none = ap (λ (v : Num). unit · v) (R.times_unit unit) ∙ R.times_unit unit

    diff_none : (n : ℕ) → diff n 0 ≡ num n
    unfolding numeral
    diff_none n = ap (λ (v : Num). num n ⊹ v) neg_nought ∙ R.plus_nought (num n)

    pub at_whole : (n : ℕ) → at (P.whole n) ≡ num n
    unfolding at
    at_whole n = R.plus_nought _ ∙ ap₂ ◌·◌ (diff_none n) powers_none ∙ R.times_unit (num n)

    one : diff 1 0 ≡ unit
    unfolding numeral
    one = diff_none 1 ∙ R.plus_nought unit

    pub at_x : at P.x ≡ x
    unfolding at power
    at_x = R.plus_nought _ ∙ ap₂ ◌·◌ one (ap₂ ◌·◌ (R.times_unit x) (R.times_unit unit) ∙ R.times_unit x) ∙ unit_times x

    pub at_y : at P.y ≡ y
    unfolding at power
    at_y = R.plus_nought _ ∙ ap₂ ◌·◌ one (unit_times _ ∙ ap₂ ◌·◌ (R.times_unit y) refl ∙ R.times_unit y) ∙ unit_times y

    pub at_z : at P.z ≡ z
    unfolding at power
    at_z = R.plus_nought _ ∙ ap₂ ◌·◌ one (unit_times _ ∙ unit_times _ ∙ R.times_unit z) ∙ unit_times z

    -- equal polynomials have equal values
    at_nought : (p : Polynomial) → T (P.is_nought p) → at p ≡ nought
    unfolding at P.is_nought
    at_nought [] h = refl
    at_nought (m ∷ p) h =
        let e : m.more ≡ m.less = eqb→eq m.more m.less (and_fst (eqb m.more m.less) _ h) in
        ap₂ ◌⊹◌
        (ap (λ (n : ℕ). diff n m.less · powers m.i m.j m.k) e ∙ ap (λ (v : Num). v · powers m.i m.j m.k) (diff_same m.less) ∙ nought_times _)
        (at_nought p (and_snd (eqb m.more m.less) _ h))
        ∙ R.plus_nought nought

    pub at_same : (p q : Polynomial) → T (P.same p q) → at p ≡ at q
    unfolding P.same
    at_same p q h =
        let e : at p ⊹ neg (at q) ≡ nought = ap (λ (v : Num). at p ⊹ v) (sym (at_minus q)) ∙ sym (at_plus p (P.minus q)) ∙ at_nought (P.plus p (P.minus q)) h in
        sym (neg_neg (at p)) ∙ ap neg (sym (neg_unique (at p) (neg (at q)) e)) ∙ neg_neg (at q)
