-- "Square roots are the nearest binary64, ties to even, defined by comparing integer squares."
-- There are no real numbers here: a root is compared with a number by comparing squares, which are whole numbers.
use Prim.Native.Nat.{ℕ, zero, suc, ◌+◌, ◌-◌, ◌*◌, ◌/◌, ◌^◌, ◌≤◌, ◌<◌, compare}
use Rattle.std.specs.Prelude.{◌≡◌, true, false, cond, T, leb, Float}
use Rattle.std.specs.Float.{nan, inf, fin, binary64}
use Rattle.std.specs.Float.Ieee.{up, down, size, nearest, units, le, fits}
use Rattle.numbers.specs.Constants.{zero64}
use Rattle.numbers.specs.Tests.{is_finite}

abbrev pub square : ℕ → ℕ
square n = n * n

-- The largest r with r * r ≤ n, for an n below 4 ^ d: twice the root of n / 4, or one more if its square is still at most n.
unfoldable pub root : ℕ → ℕ → ℕ
root zero n = 0
root (suc d) n = let r = 2 * root d (n / 4) in cond (leb (square (r + 1)) n) (r + 1) r

-- The largest r with r * r ≤ n: n has `size n` binary digits, so it is below 4 ^ size n.
unfoldable pub whole_root : ℕ → ℕ
unfolding root size
whole_root n = root (size n) n

-- The binary64 nearest to the root of n, in units of the smallest value, 2 ^ -1074, as lib.Ieee's `round` does for a fraction. Of the root's whole
-- part r the 53 leading digits are kept, q, and k are dropped. The root lies from q * 2 ^ k up to (q + 1) * 2 ^ k, and it is compared with the
-- middle, (q + 1 / 2) * 2 ^ k: four times n with the square of (2 * q + 1) * 2 ^ k.
unfoldable pub nearest_root : ℕ → Float
unfolding whole_root size units
nearest_root n =
    let r = whole_root n in
    let k = size r - 53 in
    let q = r / 2 ^ k in
    units binary64 false (nearest q (compare (4 * n) (square ((2 * q + 1) * 2 ^ k)))) k

-- IEEE 754, 5.4.1 and 7.2: a zero is its own root, -0 too; what is below zero has none; +∞ is its own.
-- In units of 2 ^ -1074 squared, m * 2 ^ e is a whole number for every value that binary64 holds.
unfoldable pub sqrt_of : Float → Float
unfolding nearest_root
sqrt_of nan = nan
sqrt_of (inf true) = nan
sqrt_of (inf false) = inf false
sqrt_of (fin s zero e) = fin s zero e
sqrt_of (fin true (suc m) e) = nan
sqrt_of (fin false (suc m) e) = nearest_root (suc m * up e * 2 ^ 2148 / down e)

-- ---- what these definitions come to, proved in proofs/RootNearest.antt

-- r is the root of n cut to a whole number
abbrev pub Cut : ℕ → ℕ → Type 0
Cut n r = (square r ≤ n) × (n < square (r + 1))

-- The size of a finite value in units of the smallest, 2 ^ -1074: a whole number, for every value that binary64 holds.
abbrev pub units_of : Float → ℕ
units_of nan = 0
units_of (inf s) = 0
units_of (fin s m e) = m * up e * 2 ^ 1074 / down e

-- r is the binary64 nearest to the root of x, and no other is as near. Let the sizes of x, r and y be n, a and u units. The root of x is that of
-- n * 2 ^ 1074, in units. A y above r is farther from it than r where twice the root is below a + u, and a y below r where it is above.
-- Of y only the size counts: below zero it is farther still.
pub record Nearest (x r : Float) : Type 0 where
  pub held : T (fits binary64 r)
  pub finite : is_finite r ≡ true
  pub sign : le zero64 r ≡ true
  pub above : (y : Float) → T (fits binary64 y) → is_finite y ≡ true → units_of r < units_of y → 4 * (units_of x * 2 ^ 1074) < square (units_of r + units_of y)
  pub below : (y : Float) → T (fits binary64 y) → is_finite y ≡ true → units_of y < units_of r → square (units_of r + units_of y) < 4 * (units_of x * 2 ^ 1074)
