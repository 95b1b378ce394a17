-- A change of sign before a rounding or a product is one after it. Assumes nothing.
use Prim.Native.Nat.{ℕ, zero, suc, ◌*◌, ◌+◌, ◌^◌}
use mathlib.Core.Path.{◌≡◌, refl, ap, ◌∙◌}
use mathlib.Core.Bool.{Bool, true, false, not, cond}
use lib.Dec.{ltb, eqb}
use lib.Ieee.{Float, nan, inf, fin, Format, prec, emax, low, unlike, up, down, odd, units, round, neg, mul}

pub neg_neg : (x : Float) → neg (neg x) ≡ x
unfolding neg
neg_neg nan = refl
neg_neg (inf true) = refl
neg_neg (inf false) = refl
neg_neg (fin true m e) = refl
neg_neg (fin false m e) = refl

odd_neg : (d : ℕ) (s : Bool) (q k l : ℕ) → odd d (not s) q k l ≡ neg (odd d s q k l)
unfolding odd neg
odd_neg d s zero k l = refl
odd_neg d s (suc q) k l = refl

units_neg : (f : Format) (s : Bool) (q k : ℕ) → units f (not s) q k ≡ neg (units f s q k)
unfolding units neg
units_neg f s q k = go (ltb (q * 2 ^ k) (2 ^ (low f + suc (emax f))))
  where
    go : (b : Bool) → cond b (odd (suc (prec f)) (not s) q k (low f)) (inf (not s)) ≡ neg (cond b (odd (suc (prec f)) s q k (low f)) (inf s))
    go true = odd_neg (suc (prec f)) s q k (low f)
    go false = refl

round_neg : (f : Format) (s : Bool) (n d : ℕ) → round f (not s) n d ≡ neg (round f s n d)
unfolding round
round_neg f s n d = units_neg f s _ _

unlike_not : (s t : Bool) → unlike s (not t) ≡ not (unlike s t)
unlike_not true true = refl
unlike_not true false = refl
unlike_not false true = refl
unlike_not false false = refl

pub mul_neg : (f : Format) (x y : Float) → mul f x (neg y) ≡ neg (mul f x y)
unfolding mul neg
mul_neg f nan y = refl
mul_neg f (inf s) nan = refl
mul_neg f (inf s) (inf t) = ap inf (unlike_not s t)
mul_neg f (inf s) (fin t n d) = go (eqb n 0)
  where
    go : (b : Bool) → cond b nan (inf (unlike s (not t))) ≡ neg (cond b nan (inf (unlike s t)))
    go true = refl
    go false = ap inf (unlike_not s t)
mul_neg f (fin s m e) nan = refl
mul_neg f (fin s m e) (inf t) = go (eqb m 0)
  where
    go : (b : Bool) → cond b nan (inf (unlike s (not t))) ≡ neg (cond b nan (inf (unlike s t)))
    go true = refl
    go false = ap inf (unlike_not s t)
mul_neg f (fin s m e) (fin t n d) =
    ap (λ (b : Bool). round f b (m * up e * (n * up d)) (down e * down d)) (unlike_not s t) ∙ round_neg f (unlike s t) (m * up e * (n * up d)) (down e * down d)
