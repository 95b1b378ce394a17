-- Complex coefficients that agree up to the signs of zeros. Assumes nothing.
use mathlib.Core.Path.{◌≡◌}
use mathlib.Core.Bool.{true}
use Prim.Native.Nat.{ℕ, ◌%◌}
use lib.Dec.{eqb}
use lib.Ieee.{Float, binary64, eq, of_bits}
use Rattle.numbers.specs.Constants.{zero64}
use Rattle.numbers.specs.Tests.{is_zero}
use Rattle.numbers.specs.Close.{◌≈◌, same}
use Rattle.numbers.proofs.CloseLaws.{≈_sym, ≈_trans, neg_≈, add_≈, mul_≈, abs_≈, is_zero_≈}
use Rattle.terms.proofs.NearLaws.{cond_both, cond_same}
use Rattle.published.specs.declared.Complex64.{Complex64}
use Rattle.published.specs.Complex.{scaled_of, flipped_of, plus_of, quarter_turned, size_of}

-- zeros of either sign pass the test
pub zero_passes : {x : Float} → x ≈ zero64 → is_zero x ≡ true
unfolding eq of_bits
zero_passes p = is_zero_≈ p

pub record NearC (c d : Complex64) : Type 0 where
  pub re : c.re ≈ d.re
  pub im : c.im ≈ d.im

pub near_coeff_refl : (c : Complex64) → NearC c c
near_coeff_refl c = record { re = same; im = same }

pub near_coeff_sym : {c d : Complex64} → NearC c d → NearC d c
near_coeff_sym p = record { re = ≈_sym p.re; im = ≈_sym p.im }

pub near_coeff_trans : {c d e : Complex64} → NearC c d → NearC d e → NearC c e
near_coeff_trans p q = record { re = ≈_trans p.re q.re; im = ≈_trans p.im q.im }

pub near_scaled : {r s : Float} {c d : Complex64} → r ≈ s → NearC c d → NearC (scaled_of r c) (scaled_of s d)
near_scaled e p = record { re = mul_≈ binary64 p.re e; im = mul_≈ binary64 p.im e }

pub near_flipped : {r s : Float} {c d : Complex64} → r ≈ s → NearC c d → NearC (flipped_of r c) (flipped_of s d)
near_flipped e p = record { re = mul_≈ binary64 p.im e; im = neg_≈ (mul_≈ binary64 p.re e) }

pub near_plus : {a b c d : Complex64} → NearC a b → NearC c d → NearC (plus_of a c) (plus_of b d)
near_plus p q = record { re = add_≈ binary64 p.re q.re; im = add_≈ binary64 p.im q.im }

pub near_turned : (k : ℕ) {c d : Complex64} → NearC c d → NearC (quarter_turned k c) (quarter_turned k d)
unfolding quarter_turned
near_turned k p =
    cond_both NearC (eqb (k % 4) 1) (record { re = neg_≈ p.im; im = p.re })
    (cond_both NearC (eqb (k % 4) 2) (record { re = neg_≈ p.re; im = neg_≈ p.im })
    (cond_both NearC (eqb (k % 4) 3) (record { re = p.im; im = neg_≈ p.re }) p))

pub near_size : {c d : Complex64} → NearC c d → size_of c ≈ size_of d
unfolding size_of
near_size p = cond_same ◌≈◌ (is_zero_≈ p.re) (abs_≈ p.im) (abs_≈ p.re)
