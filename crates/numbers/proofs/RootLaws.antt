-- The square root of a number above zero, by its value, and that binary64 holds each root.
use mathlib.Core.Path.{◌≡◌, sym, ap, ◌∙◌, subst}
use Prim.Native.Nat.{ℕ, zero, suc, ◌+◌, ◌-◌, ◌*◌, ◌/◌, ◌^◌, ◌≤◌, ◌<◌, compare}
use native.Mathlib.Nat.{le_refl, le_trans, lt_of_le_of_lt, zero-lt-suc, mul-pos, mul_assoc, mul_right_comm, mul-div_cancel}
use mathlib.Core.Bool.{Bool, true, false, cond}
use lib.Dec.{T, ltb, ltb→lt}
use lib.Pow.{pow_pos, pow-lt}
use lib.Ieee.{Float, nan, inf, fin, Format, binary64, prec, emax, low, up, down, size, nearest, odd, units, lt, of_bits, fits}
use lib.Ieee.Fits.{up_pos, down_pos, odd-fits, nan-fits, inf-fits, nearest-le, kept-lt}
use lib.Ieee.Positive.{first_pos}
use lib.Ieee.Exact.{HasValue}
use Rattle.numbers.specs.Constants.{zero64}
use Rattle.numbers.specs.Root.{square, whole_root, nearest_root, sqrt_of}
use Rattle.numbers.proofs.TestLaws.{holds, zero_not_above}

-- ---- above zero

-- from units of the smallest value to units of its square
in_units : (n d w : ℕ) → 0 < d → n * 2 ^ 1074 ≡ w * d → n * 2 ^ 2148 / d ≡ w * 2 ^ 1074
in_units n d w p h =
    ap (λ (x : ℕ). x / d) (sym (mul_assoc n (2 ^ 1074) (2 ^ 1074)) ∙ ap (λ (x : ℕ). x * 2 ^ 1074) h ∙ mul_right_comm w d (2 ^ 1074))
    ∙ mul-div_cancel (w * 2 ^ 1074) p

pub of_finite : (x : Float) (s : Bool) (w : ℕ) → lt zero64 x ≡ true → HasValue x s w (2 ^ 1074) → sqrt_of x ≡ nearest_root (w * 2 ^ 1074)
unfolding lt sqrt_of of_bits
of_finite nan s w p v = absurd v
of_finite (inf t) s w p v = absurd v
of_finite (fin s zero e) t w p v = absurd (zero_not_above s e p)
of_finite (fin true (suc m) e) s w p v = absurd (holds p)
of_finite (fin false (suc m) e) s w p v = ap nearest_root (in_units (suc m * up e) (down e) w (down_pos e) v.1)

pub above_value : (x : Float) (s : Bool) (w : ℕ) → lt zero64 x ≡ true → HasValue x s w (2 ^ 1074) → 0 < w
above_value nan s w p v = absurd v
above_value (inf t) s w p v = absurd v
above_value (fin t zero e) s w p v = absurd (zero_not_above t e p)
above_value (fin t (suc m) e) s w p v = first_pos w (down e) (subst (λ (x : ℕ). 0 < x) v.1 (mul-pos (mul-pos (zero-lt-suc m) (up_pos e)) (pow_pos 1074)))

-- ---- a root is a value that binary64 holds

units_held : (f : Format) (s : Bool) (q k : ℕ) → q ≤ 2 ^ prec f → T (fits f (units f s q k))
unfolding units
units_held f s q k a = go (ltb (q * 2 ^ k) (2 ^ (low f + suc (emax f)))) (ltb→lt (q * 2 ^ k) (2 ^ (low f + suc (emax f))))
  where
    go : (b : Bool) → (T b → q * 2 ^ k < 2 ^ (low f + suc (emax f))) → T (fits f (cond b (odd (suc (prec f)) s q k (low f)) (inf s)))
    go true h = odd-fits f (suc (prec f)) s q k (lt_of_le_of_lt a (pow-lt (le_refl (suc (prec f))))) a (h tt)
    go false h = inf-fits f s

root_held : (n : ℕ) → T (fits binary64 (nearest_root n))
unfolding nearest_root
root_held n =
    let r = whole_root n in
    let k = size r - 53 in
    let q = r / 2 ^ k in
    let o = compare (4 * n) (square ((2 * q + 1) * 2 ^ k)) in
    units_held binary64 false (nearest q o) k (le_trans (nearest-le q o) (kept-lt 53 r))

pub sqrt_fits : (x : Float) → T (fits binary64 x) → T (fits binary64 (sqrt_of x))
unfolding sqrt_of
sqrt_fits nan p = nan-fits binary64
sqrt_fits (inf true) p = nan-fits binary64
sqrt_fits (inf false) p = inf-fits binary64 false
sqrt_fits (fin s zero e) p = p
sqrt_fits (fin true (suc m) e) p = nan-fits binary64
sqrt_fits (fin false (suc m) e) p = root_held (suc m * up e * 2 ^ 2148 / down e)
