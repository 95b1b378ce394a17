-- The root that std promises of `f64::sqrt` is `sqrt_of`. Std takes the root of a number times 4 ^ 1197 to a whole number, doubles it, adds one where it is not
-- exact, and rounds that once: each binary64 and each middle between two is a whole number of such places, so it lies on the same side of them as the root.
use mathlib.Core.Path.{◌≡◌, refl, sym, ap, ap₂, ◌∙◌, subst, subst₂}
use Prim.Native.Nat.{ℕ, zero, suc, ◌+◌, ◌-◌, ◌*◌, ◌/◌, ◌%◌, ◌^◌, ◌≤◌, ◌<◌, compare, Ordering}
use native.Mathlib.Nat.{le_trans, le_of_eq, lt_of_lt_of_le, lt_of_le_of_lt, eq-or-lt_of_le, mul_assoc, mul_right_comm, mul-le-mul_right, mul-lt-mul_of_pos_right, mul-div_cancel, div-eq_of_lt-le, div-add-mod'}
use native.Mathlib.Omega.{arith}
use native.Mathlib.Decide.{dec_lt}
use mathlib.Core.Bool.{Bool, true, false, cond}
use mathlib.Core.Logic.{inl, inr}
use lib.Dec.{T, eqb}
use lib.IntN.{pos}
use lib.Pow.{pow-add, pow_pos, shr-shr}
use lib.Ieee.{Float, nan, inf, fin, binary64, up, down, size, nearest, units, round, root_below, root_twice, sqrt, fits}
use lib.Ieee.Fits.{down_pos}
use lib.Ieee.Nearest.{div_same}
use lib.Ieee.Root.{whole_part}
use borrow.Author.Tests.{eq-eqb, ne_eqb}
use Rattle.numbers.specs.Root.{square, whole_root, nearest_root, sqrt_of}
use Rattle.numbers.proofs.ValueLaws.{digits_of}
use Rattle.numbers.proofs.TestLaws.{equal_zero, zero_equal}
use Rattle.numbers.proofs.Squares.{square_lt, whole_root_cut}
use Rattle.numbers.proofs.Rounded.{compare_lt, compare_eq, compare_gt, four_is, square_shift, nearest_root_is, joined}

-- ---- two comparisons that come out alike

same_compare : (a b c d : ℕ) → (a < b → c < d) → (a ≡ b → c ≡ d) → (b < a → d < c) → compare a b ≡ compare c d
same_compare a b c d l e g = go (dec_lt a b)
  where
    go : Dec (a < b) → compare a b ≡ compare c d
    go (yes h) = compare_lt a b h ∙ sym (compare_lt c d (l h))
    go (no n) =
        let p : b ≤ a = omega arith in
        elim (eq-or-lt_of_le p) [
          | inl h ↦ compare_eq a b (sym h) ∙ sym (compare_eq c d (e (sym h)))
          | inr h ↦ compare_gt a b h ∙ sym (compare_gt c d (g h))
        ]

-- ---- twice a root, and one more where it is not whole, beside an even number

module _ (M R h t : ℕ) (lo : R * R ≤ M) (hi : M < (R + 1) * (R + 1)) (is : t ≡ 2 * R + cond (eqb (R * R) M) 0 1) where
  at_most : t ≤ 2 * R + 1
  at_most = le_trans (le_of_eq is) (go (eqb (R * R) M))
    where
      go : (b : Bool) → 2 * R + cond b 0 1 ≤ 2 * R + 1
      go true = omega arith
      go false = omega arith

  at_least : 2 * R ≤ t
  at_least = le_trans (go (eqb (R * R) M)) (le_of_eq (sym is))
    where
      go : (b : Bool) → 2 * R ≤ 2 * R + cond b 0 1
      go true = omega arith
      go false = omega arith

  twice_lt : M < h * h → t < 2 * h
  twice_lt l = let r : R < h = square_lt (lt_of_le_of_lt lo l) in omega (arith, at_most)

  twice_eq : M ≡ h * h → t ≡ 2 * h
  twice_eq e =
      let a : h < R + 1 = square_lt {a = h} {b = R + 1} (lt_of_le_of_lt (le_of_eq (sym e)) hi) in
      let b : R < h + 1 = square_lt {a = R} {b = h + 1} (lt_of_le_of_lt (le_trans lo (le_of_eq e)) (omega arith)) in
      let r : R ≡ h = omega arith in
      is ∙ ap (λ (b : Bool). 2 * R + cond b 0 1) (eq-eqb (R * R) M (ap (λ (z : ℕ). z * z) r ∙ sym e)) ∙ omega arith

  twice_gt : h * h < M → 2 * h < t
  twice_gt g =
      let a : h < R + 1 = square_lt {a = h} {b = R + 1} (lt_of_lt_of_le g (omega arith)) in
      let p : h ≤ R = omega arith in
      elim (eq-or-lt_of_le p) [
        | inl e ↦
            let n : R * R ≡ M → ⊥ = λ (s : R * R ≡ M). differ (ap (λ (z : ℕ). z * z) e ∙ s) in
            let o : t ≡ 2 * R + 1 = is ∙ ap (λ (b : Bool). 2 * R + cond b 0 1) (ne_eqb (R * R) M n) in
            omega arith
        | inr l ↦ omega (arith, at_least)
      ]
    where
      differ : h * h ≡ M → ⊥
      differ s = omega arith

-- ---- the root of N, and that of N * 4 ^ c

module _ (N c : ℕ) where
  abbrev M : ℕ
  M = N * 4 ^ c

  abbrev R : ℕ
  R = root_below (size M) M

  abbrev t : ℕ
  t = root_twice M

  abbrev r : ℕ
  r = whole_root N

  t_is : t ≡ 2 * R + cond (eqb (R * R) M) 0 1
  unfolding root_twice
  t_is = refl

  doubled : (a : ℕ) → a * 2 ^ (c + 1) ≡ 2 * (a * 2 ^ c)
  doubled a = sym (joined a c 1 (c + 1) refl) ∙ turn (a * 2 ^ c)
    where
      turn : (b : ℕ) → b * 2 ^ 1 ≡ 2 * b
      turn b = omega arith

  whole : t / 2 ^ (c + 1) ≡ r
  whole = div-eq_of_lt-le (2 ^ (c + 1)) from to
    where
      below : r * 2 ^ c < R + 1
      below = square_lt (lt_of_le_of_lt (le_trans (le_of_eq (square_shift r c)) (mul-le-mul_right (4 ^ c) (whole_root_cut N).0)) (whole_part M).1)

      above : R < (r + 1) * 2 ^ c
      above = square_lt (lt_of_le_of_lt (whole_part M).0 (lt_of_lt_of_le (mul-lt-mul_of_pos_right (whole_root_cut N).1 (four_pos c)) (le_of_eq (sym (square_shift (r + 1) c)))))
        where
          four_pos : (c : ℕ) → 0 < 4 ^ c
          four_pos c = subst (λ (z : ℕ). 0 < z) (sym (four_is c)) (pow_pos (c + c))

      from : r * 2 ^ (c + 1) ≤ t
      from = le_trans (le_of_eq (doubled r)) (le_trans (twice (r * 2 ^ c) R below) (at_least M R 0 t (whole_part M).0 (whole_part M).1 t_is))
        where
          twice : (a b : ℕ) → a < b + 1 → 2 * a ≤ 2 * b
          twice a b h = omega arith

      to : t < (r + 1) * 2 ^ (c + 1)
      to = lt_of_le_of_lt (at_most M R 0 t (whole_part M).0 (whole_part M).1 t_is) (lt_of_lt_of_le (twice R ((r + 1) * 2 ^ c) above) (le_of_eq (sym (doubled (r + 1)))))
        where
          twice : (a b : ℕ) → a < b → 2 * a + 1 < 2 * b
          twice a b h = omega arith

-- ---- std's rounding of it

round_is : (t : ℕ) → let n = t * 2 ^ 1074 in let k = size (n / 2 ^ 2272) - 53 in let u = 2 ^ 2272 * 2 ^ k in
    round binary64 false t (2 ^ 2272) ≡ units binary64 false (nearest (n / u) (compare (n % u * 2) u)) k
unfolding round
round_is t = refl

module _ (N : ℕ) where
  abbrev k : ℕ
  k = size (r N 1197) - 53

  abbrev q : ℕ
  q = r N 1197 / 2 ^ k

  abbrev n : ℕ
  n = t N 1197 * 2 ^ 1074

  abbrev u : ℕ
  u = 2 ^ 2272 * 2 ^ k

  -- half the odd number between 2 * q and 2 * (q + 1), in places of the root that std takes
  abbrev h : ℕ
  h = (2 * q + 1) * 2 ^ (k + 1196)

  cut : n / 2 ^ 2272 ≡ r N 1197
  cut = div_same n (2 ^ 2272) (t N 1197) (2 ^ 1198) (pow_pos 2272) (pow_pos 1198) (joined (t N 1197) 1074 1198 2272 refl) ∙ whole N 1197

  quotient : n / u ≡ q
  quotient =
      ap (λ (d : ℕ). n / d) (sym (pow-add 2 2272 k)) ∙ sym (shr-shr n 2272 k) ∙ ap (λ (x : ℕ). x / 2 ^ k) cut

  -- the square of the middle is on the side of 4 * N where h * h is of the number whose root std takes
  four_times : 4 * M N 1197 ≡ 4 * N * 4 ^ 1197
  four_times = sym (mul_assoc 4 N (4 ^ 1197))

  four_squares : 4 * (h * h) ≡ square ((2 * q + 1) * 2 ^ k) * 4 ^ 1197
  four_squares =
      let o = (2 * q + 1) * (2 * q + 1) in
      ap (λ (x : ℕ). 4 * x) (square_shift (2 * q + 1) (k + 1196) ∙ ap (λ (x : ℕ). o * x) (pow-add 4 k 1196))
      ∙ regroup o (4 ^ k) (4 ^ 1196) ∙ ap (λ (x : ℕ). o * 4 ^ k * x) (sym (pow-add 4 1196 1)) ∙ ap (λ (x : ℕ). x * 4 ^ 1197) (sym (square_shift (2 * q + 1) k))
    where
      regroup : (o a b : ℕ) → 4 * (o * (a * b)) ≡ o * a * (b * 4)
      regroup o a b = omega arith

  sides : (4 * N < square ((2 * q + 1) * 2 ^ k) → t N 1197 < 2 * h)
      × (4 * N ≡ square ((2 * q + 1) * 2 ^ k) → t N 1197 ≡ 2 * h)
      × (square ((2 * q + 1) * 2 ^ k) < 4 * N → 2 * h < t N 1197)
  sides =
      let lo = (whole_part (M N 1197)).0 in
      let hi = (whole_part (M N 1197)).1 in
      let is = t_is N 1197 in (
        λ l. twice_lt (M N 1197) (R N 1197) h (t N 1197) lo hi is
            (less (M N 1197) (h * h) (subst₂ (λ (a b : ℕ). a < b) (sym four_times) (sym four_squares) (mul-lt-mul_of_pos_right l (pow_pos 2394)))),
        λ e. twice_eq (M N 1197) (R N 1197) h (t N 1197) lo hi is
            (equal (M N 1197) (h * h) (four_times ∙ ap (λ (x : ℕ). x * 4 ^ 1197) e ∙ sym four_squares)),
        λ g. twice_gt (M N 1197) (R N 1197) h (t N 1197) lo hi is
            (less (h * h) (M N 1197) (subst₂ (λ (a b : ℕ). a < b) (sym four_squares) (sym four_times) (mul-lt-mul_of_pos_right g (pow_pos 2394)))),
      )
    where
      less : (a b : ℕ) → 4 * a < 4 * b → a < b
      less a b h = omega arith

      equal : (a b : ℕ) → 4 * a ≡ 4 * b → a ≡ b
      equal a b e = omega arith

  middle : compare (n % u * 2) u ≡ compare (4 * N) (square ((2 * q + 1) * 2 ^ k))
  middle =
      sym (same_compare (4 * N) (square ((2 * q + 1) * 2 ^ k)) (n % u * 2) u
      (λ l. under q u (n % u) n (2 * h * 2 ^ 1074) rest odd (mul-lt-mul_of_pos_right (sides.0 l) (pow_pos 1074)))
      (λ e. same q u (n % u) n (2 * h * 2 ^ 1074) rest odd (ap (λ (x : ℕ). x * 2 ^ 1074) (sides.1 e)))
      (λ g. over q u (n % u) n (2 * h * 2 ^ 1074) rest odd (mul-lt-mul_of_pos_right (sides.2 g) (pow_pos 1074))))
    where
      rest : q * u + n % u ≡ n
      rest = ap (λ (x : ℕ). x * u + n % u) (sym quotient) ∙ div-add-mod' n u

      odd : 2 * (2 * h * 2 ^ 1074) ≡ (2 * q + 1) * u
      odd =
          ap (λ (x : ℕ). 2 * (2 * ((2 * q + 1) * x) * 2 ^ 1074)) (pow-add 2 k 1196)
          ∙ regroup (2 * q + 1) (2 ^ k) (2 ^ 1196) (2 ^ 1074) ∙ ap (λ (x : ℕ). (2 * q + 1) * (x * 2 ^ k)) (sym (pow-add 2 1196 1076))
        where
          regroup : (o a b p : ℕ) → 2 * (2 * (o * (a * b)) * p) ≡ o * (b * (4 * p) * a)
          regroup o a b p = omega arith

      under : (q u m n w : ℕ) → q * u + m ≡ n → 2 * w ≡ (2 * q + 1) * u → n < w → m * 2 < u
      under q u m n w e o l = omega arith

      same : (q u m n w : ℕ) → q * u + m ≡ n → 2 * w ≡ (2 * q + 1) * u → n ≡ w → m * 2 ≡ u
      same q u m n w e o l = omega arith

      over : (q u m n w : ℕ) → q * u + m ≡ n → 2 * w ≡ (2 * q + 1) * u → w < n → u < m * 2
      over q u m n w e o l = omega arith

  std_root : round binary64 false (root_twice (N * 4 ^ 1197)) (2 ^ 2272) ≡ nearest_root N
  std_root =
      round_is (t N 1197)
      ∙ ap (λ (x : ℕ). let j = size x - 53 in units binary64 false (nearest (n / (2 ^ 2272 * 2 ^ j)) (compare (n % (2 ^ 2272 * 2 ^ j) * 2) (2 ^ 2272 * 2 ^ j))) j) cut
      ∙ ap₂ (λ (p : ℕ) (o : Ordering). units binary64 false (nearest p o) k) quotient middle
      ∙ sym (nearest_root_is N)

-- ---- the theorem

-- a number of w smallest values: its root is taken of w * 2 ^ 1074, and std takes that of w * 2 ^ 3468
in_places : (n d w a b : ℕ) → 0 < d → n * 2 ^ 1074 ≡ w * d → 1074 + a ≡ b → n * 2 ^ b / d ≡ w * 2 ^ a
in_places n d w a b p h e =
    ap (λ (x : ℕ). x / d) (sym (joined n 1074 a b e) ∙ ap (λ (x : ℕ). x * 2 ^ a) h ∙ mul_right_comm w d (2 ^ a)) ∙ mul-div_cancel (w * 2 ^ a) p

abbrev without_power : Float → Float
without_power nan = nan
without_power (inf s) = inf s
without_power (fin s m e) = fin s m (pos 0)

pub sqrt_same : (x : Float) → T (fits binary64 x) → sqrt binary64 x ≡ sqrt_of x
unfolding sqrt sqrt_of
sqrt_same nan f = refl
sqrt_same (inf true) f = refl
sqrt_same (inf false) f = refl
sqrt_same (fin s zero e) f = let z = (equal_zero (fin s 0 e) f (zero_equal s e)).1 in ap without_power z ∙ sym z
sqrt_same (fin true (suc m) e) f = refl
sqrt_same (fin false (suc m) e) f =
    let d = digits_of binary64 false m e f in
    let w = suc m * 2 ^ d.power in
    ap (λ (x : ℕ). round binary64 false (root_twice x) (2 ^ 2272))
    (in_places (suc m * up e) (down e) w 3468 4542 (down_pos e) d.value refl ∙ sym (joined w 1074 2394 3468 refl) ∙ ap (λ (x : ℕ). w * 2 ^ 1074 * x) (sym (four_is 1197)))
    ∙ std_root (w * 2 ^ 1074)
    ∙ ap nearest_root (sym (in_places (suc m * up e) (down e) w 1074 2148 (down_pos e) d.value refl))
