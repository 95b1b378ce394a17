-- A rotation by a pair that is an angle keeps the exact sum of squares, as specs/Norm.antt states it (`angles_keep_norm`). Assumes nothing.
use mathlib.Core.Path.{◌≡◌, refl, sym, ap, ap₂, ◌∙◌, subst}
use Prim.Native.Nat.{ℕ, suc, ◌+◌, ◌-◌, ◌*◌, ◌^◌, ◌≤◌, ◌<◌}
use native.Mathlib.Nat.{le_of_eq, le_of_lt, le_trans, mul-le-mul}
use native.Mathlib.Omega.{arith}
use mathlib.Core.Bool.{Bool, true, false, cond, ◌&&◌}
use lib.Dec.{leb}
use lib.IntN.{ℤ}
use lib.Ieee.{nan, inf, fin, up, down}
use borrow.Author.Tests.{leb-true, leb-false}
use Rattle.numbers.specs.Angle.{most, cut_of, is_angle}
use Rattle.numbers.specs.Norm.{square, apart, KeepsNorm, AnglesKeepNorm}
use Rattle.numbers.proofs.CutLaws.{cut_floor, far, swapped}

same : (n : ℕ) → n ≤ n
same n = le_of_eq refl

-- a number whose square is near 2^120
not_most : (a : ℕ) → a * a ≤ 2 ^ 120 + 2 ^ 70 → a ≤ 2 ^ 61
not_most a h = go (leb a (2 ^ 61)) refl
  where
    go : (t : Bool) → leb a (2 ^ 61) ≡ t → a ≤ 2 ^ 61
    go true e = leb-true a (2 ^ 61) e
    go false e =
        let l : 2 ^ 61 ≤ a = le_of_lt (leb-false a (2 ^ 61) e) in
        let q : 2 ^ 61 * 2 ^ 61 ≤ a * a = mul-le-mul l l in
        absurd (omega arith)

-- ---- sums of squares in multiples of 2^-120: p and q those of the cuts, i and j their mixed parts, s and c those of the sizes, x that of 1
few : (x y i j : ℕ) → i ≤ y → j ≤ y → x ≤ y → 2 * i + 2 * j + 2 * x ≤ 8 * y
few x y i j h k l = omega arith

widened : (x : ℕ) → 8 * (2 ^ 61 * x) ≤ 2 ^ 70 * x
widened x = omega arith

wider : (x : ℕ) → x ≤ 2 ^ 61 * x
wider x = omega arith

summed : (x p q i j s c : ℕ) → p + q ≤ (2 ^ 120 + 2 ^ 70) * x → 2 * i + 2 * j + 2 * x ≤ 2 ^ 70 * x → 2 ^ 120 * s ≤ p + 2 * i + x → 2 ^ 120 * c ≤ q + 2 * j + x
    → 2 ^ 120 * (s + c) ≤ (2 ^ 120 + 2 ^ 71) * x
summed x p q i j s c h k v w = omega arith

cancelled : (x y : ℕ) → 2 ^ 120 * y ≤ (2 ^ 120 + 2 ^ 71) * x → 2 ^ 49 * y ≤ (2 ^ 49 + 1) * x
cancelled x y h = omega arith

-- ---- a size m / d, cut to A multiples of 2^-60, in parts of 1 / (d * f)
size_least : (m d f A : ℕ) → A * d ≤ m * 2 ^ 60 → A * A * (d * f * (d * f)) ≤ 2 ^ 120 * (m * f * (m * f))
size_least m d f A h =
    let k : A * d * f ≤ m * 2 ^ 60 * f = mul-le-mul h (same f) in
    let q : A * d * f * (A * d * f) ≤ m * 2 ^ 60 * f * (m * 2 ^ 60 * f) = mul-le-mul k k in
    omega arith

size_most : (m d f A : ℕ) → m * 2 ^ 60 ≤ suc A * d → 2 ^ 120 * (m * f * (m * f)) ≤ A * A * (d * f * (d * f)) + 2 * (A * (d * f * (d * f))) + d * f * (d * f)
size_most m d f A h =
    let k : m * 2 ^ 60 * f ≤ suc A * d * f = mul-le-mul h (same f) in
    let q : m * 2 ^ 60 * f * (m * 2 ^ 60 * f) ≤ suc A * d * f * (suc A * d * f) = mul-le-mul k k in
    omega arith

-- ---- sizes m / d and n / f, cut to A and B multiples of 2^-60
module _ (m d n f A B : ℕ)
    (a₁ : A * d ≤ m * 2 ^ 60) (a₂ : m * 2 ^ 60 ≤ suc A * d) (b₁ : B * f ≤ n * 2 ^ 60) (b₂ : n * 2 ^ 60 ≤ suc B * f)
    (lo : 2 ^ 120 ≤ A * A + B * B + 2 ^ 70) (hi : A * A + B * B ≤ 2 ^ 120 + 2 ^ 70) where
  abbrev S : ℕ
  S = m * f

  abbrev C : ℕ
  C = n * d

  abbrev X : ℕ
  X = d * f * (d * f)

  cosine_least : B * B * X ≤ 2 ^ 120 * (C * C)
  cosine_least = let k = size_least n f d B b₁ in omega (arith, k)

  cosine_most : 2 ^ 120 * (C * C) ≤ B * B * X + 2 * (B * X) + X
  cosine_most = let k = size_most n f d B b₂ in omega (arith, k)

  sum_least : (2 ^ 50 - 1) * X ≤ 2 ^ 50 * (S * S + C * C)
  sum_least =
      let k : 2 ^ 120 * X ≤ (A * A + B * B + 2 ^ 70) * X = mul-le-mul lo (same X) in
      scaled X (A * A * X) (B * B * X) (S * S) (C * C) (omega arith) (size_least m d f A a₁) cosine_least
    where
      scaled : (x p q s c : ℕ) → 2 ^ 120 * x ≤ p + q + 2 ^ 70 * x → p ≤ 2 ^ 120 * s → q ≤ 2 ^ 120 * c → (2 ^ 50 - 1) * x ≤ 2 ^ 50 * (s + c)
      scaled x p q s c h i j = omega arith

  sum_most : 2 ^ 49 * (S * S + C * C) ≤ (2 ^ 49 + 1) * X
  sum_most =
      let k : (A * A + B * B) * X ≤ (2 ^ 120 + 2 ^ 70) * X = mul-le-mul hi (same X) in
      let i : A * X ≤ 2 ^ 61 * X = mul-le-mul (not_most A (omega arith)) (same X) in
      let j : B * X ≤ 2 ^ 61 * X = mul-le-mul (not_most B (omega arith)) (same X) in
      cancelled X (S * S + C * C) (summed X (A * A * X) (B * B * X) (A * X) (B * X) (S * S) (C * C) (omega arith) (le_trans (few X (2 ^ 61 * X) (A * X) (B * X) i j (wider X)) (widened X)) (size_most m d f A a₂) cosine_most)

-- ---- the squares of two partners after a turn: (a c + b s)² + (a s - b c)² = (a² + b²) (c² + s²)
ordered : (a b s c k : ℕ) → k + b * c ≡ a * s → square (a * c + b * s) + k * k ≡ (square a + square b) * (square s + square c)
ordered a b s c k e =
    let p : (k + b * c) * (k + b * c) ≡ a * s * (a * s) = ap₂ ◌*◌ e e in
    let q : (k + b * c) * (b * c) ≡ a * s * (b * c) = ap (λ (n : ℕ). n * (b * c)) e in
    omega arith

turned_norm : (a b s c : ℕ) → square (a * c + b * s) + square (apart (a * s) (b * c)) ≡ (square a + square b) * (square s + square c)
turned_norm a b s c = go (leb (b * c) (a * s)) refl
  where
    less : (x y : ℕ) → y ≤ x → apart x y ≡ x - y
    less x y h = omega arith

    more : (x y : ℕ) → x < y → apart x y ≡ y - x
    more x y h = omega arith

    back : (x y : ℕ) → y ≤ x → (x - y) + y ≡ x
    back x y h = omega arith

    go : (t : Bool) → leb (b * c) (a * s) ≡ t → square (a * c + b * s) + square (apart (a * s) (b * c)) ≡ (square a + square b) * (square s + square c)
    go true e =
        let h = leb-true (b * c) (a * s) e in
        ap (λ (n : ℕ). square (a * c + b * s) + square n) (less (a * s) (b * c) h) ∙ ordered a b s c (a * s - b * c) (back (a * s) (b * c) h)
    go false e =
        let h = leb-false (b * c) (a * s) e in
        ap (λ (n : ℕ). square (a * c + b * s) + square n) (more (a * s) (b * c) h)
        ∙ exchange (a * c) (b * s) (square (b * c - a * s)) ∙ ordered b a c s (b * c - a * s) (back (b * c) (a * s) (le_of_lt h))
        ∙ flipped (square a) (square b) (square s) (square c)
      where
        exchange : (x y z : ℕ) → square (x + y) + z ≡ square (y + x) + z
        exchange x y z = omega arith

        flipped : (x y z w : ℕ) → (y + x) * (w + z) ≡ (x + y) * (z + w)
        flipped x y z w = omega arith

-- a bound on the norm bounds the turn, either way
moved : (p q r n x : ℕ) → r * (p * n) ≤ r * (q * x) → p * (r * n) ≤ q * (x * r)
moved p q r n x h = omega arith

moved_back : (p q r n x : ℕ) → r * (q * x) ≤ r * (p * n) → q * (x * r) ≤ p * (r * n)
moved_back p q r n x h = omega arith

module _ (p q a b s c x : ℕ) where
  abbrev after : ℕ
  after = square (a * c + b * s) + square (apart (a * s) (b * c))

  turned_most : p * (square s + square c) ≤ q * x → p * after ≤ q * (x * (square a + square b))
  turned_most h =
      let r = square a + square b in
      subst (λ (n : ℕ). p * n ≤ q * (x * r)) (sym (turned_norm a b s c)) (moved p q r (square s + square c) x (mul-le-mul (same r) h))

  turned_few : q * x ≤ p * (square s + square c) → q * (x * (square a + square b)) ≤ p * after
  turned_few h =
      let r = square a + square b in
      subst (λ (n : ℕ). q * (x * r) ≤ p * n) (sym (turned_norm a b s c)) (moved_back p q r (square s + square c) x (mul-le-mul (same r) h))

-- ---- of pairs
clash : false ≡ true → ⊥
clash e = let z : ◌≡◌ {A = ℕ} 0 1 = ap (λ (b : Bool). cond b 1 0) e in omega arith

both_of : (x y : Bool) → (x && y) ≡ true → (x ≡ true) × (y ≡ true)
both_of true true h = (refl, refl)
both_of true false h = (refl, h)
both_of false y h = (h, absurd (clash h))

finite_norm : (s t : Bool) (m n : ℕ) (e f : ℤ) → is_angle (fin s m e) (fin t n f) ≡ true → KeepsNorm (fin s m e) (fin t n f)
finite_norm s t m n e f h =
    let A = (cut_of (fin s m e)).size in
    let B = (cut_of (fin t n f)).size in
    let p = both_of (leb (2 ^ 120) (A * A + B * B + 2 ^ 70)) (leb (A * A + B * B) (2 ^ 120 + 2 ^ 70)) h in
    let lo = leb-true (2 ^ 120) (A * A + B * B + 2 ^ 70) p.0 in
    let hi = leb-true (A * A + B * B) (2 ^ 120 + 2 ^ 70) p.1 in
    let a = cut_floor s m e in
    let b = cut_floor t n f in
    let greatest = sum_most (m * up e) (down e) (n * up f) (down f) A B a.0 (le_of_lt a.1) b.0 (le_of_lt b.1) lo hi in
    let least = sum_least (m * up e) (down e) (n * up f) (down f) A B a.0 (le_of_lt a.1) b.0 (le_of_lt b.1) lo hi in
    let S = m * up e * down f in
    let C = n * up f * down e in
    let X = square (down e * down f) in
    record {
      least = least;
      greatest = greatest;
      turned_least = λ x y. turned_few (2 ^ 50) (2 ^ 50 - 1) x y S C X least;
      turned_greatest = λ x y. turned_most (2 ^ 49) (2 ^ 49 + 1) x y S C X greatest;
    }

pub angles_keep_norm : AnglesKeepNorm
unfolding cut_of
angles_keep_norm (fin s m e) (fin t n f) h = finite_norm s t m n e f h
angles_keep_norm nan c h = absurd (clash (sym (far most (cut_of c).size (same most)) ∙ h))
angles_keep_norm (inf t) c h = absurd (clash (sym (far most (cut_of c).size (same most)) ∙ h))
angles_keep_norm (fin s m e) nan h = absurd (clash (sym (swapped (cut_of (fin s m e)).size most ∙ far most (cut_of (fin s m e)).size (same most)) ∙ h))
angles_keep_norm (fin s m e) (inf t) h = absurd (clash (sym (swapped (cut_of (fin s m e)).size most ∙ far most (cut_of (fin s m e)).size (same most)) ∙ h))
