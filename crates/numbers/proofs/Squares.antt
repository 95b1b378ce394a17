-- Powers, squares and whole roots of natural numbers.
use mathlib.Core.Path.{subst}
use Prim.Native.Nat.{ℕ, zero, suc, ◌+◌, ◌*◌, ◌/◌, ◌^◌, ◌≤◌, ◌<◌, zero-le}
use native.Mathlib.Nat.{lt_irrefl, zero-lt-suc, pow-suc, pow-le-pow_left, div-lt_iff_lt-mul, lt_of_lt_of_le, lt_of_not-le, not-le_of_lt, mul-le-mul}
use native.Mathlib.Omega.{arith}
use lib.Pow.{pow_mono}
use mathlib.Core.Bool.{Bool, true, false, not, cond}
use lib.Dec.{T, leb, leb→le, nleb→lt, lit≤}
use lib.Ieee.{size}
use lib.Ieee.Digits.{size-lt}
use Rattle.numbers.specs.Root.{root, whole_root, Cut}

-- the order of powers is that of the exponents
pub pow_lt_back : (i p : ℕ) → 2 ^ i < 2 ^ p → i < p
pow_lt_back i p h = lt_of_not-le (λ (g : p ≤ i). lt_irrefl (2 ^ i) (lt_of_lt_of_le h (pow_mono g)))

-- the order of squares is that of the numbers
pub square_lt : {a b : ℕ} → a * a < b * b → a < b
square_lt {a} {b} h = lt_of_not-le (λ (g : b ≤ a). not-le_of_lt h (mul-le-mul g g))

-- ---- the definition's root

-- from the root s of n / 4 to that of n
grow : (n s : ℕ) (b : Bool) → (T b → (2 * s + 1) * (2 * s + 1) ≤ n) → (T (not b) → n < (2 * s + 1) * (2 * s + 1)) → Cut (n / 4) s → Cut n (cond b (2 * s + 1) (2 * s))
grow n s true y m ih = let h = ih.1 in (y tt, omega arith)
grow n s false y m ih = let h = ih.0 in (omega arith, m tt)

pub root_cut : (d n : ℕ) → n < 4 ^ d → Cut n (root d n)
unfolding root
root_cut zero n h = (zero-le, omega arith)
root_cut (suc d) n h =
    let s = root d (n / 4) in
    let m = (2 * s + 1) * (2 * s + 1) in
    grow n s (leb m n) (leb→le m n) (nleb→lt m n) (root_cut d (n / 4) ((div-lt_iff_lt-mul (zero-lt-suc 3)).1 (subst (λ (x : ℕ). n < x) (pow-suc 4 d) h)))

pub whole_root_cut : (n : ℕ) → Cut n (whole_root n)
unfolding whole_root
whole_root_cut n = root_cut (size n) n (lt_of_lt_of_le (size-lt n) (pow-le-pow_left (lit≤ tt) (size n)))
