-- Laws of the hash: it fits, a bucket is one of the buckets, and a turn of the loop over a key's words. Assumes nothing.
use mathlib.Core.Path.{◌≡◌, sym, ap, ◌∙◌, subst}
use Prim.Native.Nat.{ℕ, ◌+◌, ◌*◌, ◌/◌, ◌%◌, ◌≤◌, ◌<◌}
use native.Mathlib.Nat.{mul-le-mul, mul-le-mul_right, mul-lt-mul_of_pos_right, div-lt_iff_lt-mul, mul_comm}
use native.Mathlib.Omega.{arith}
use native.Mathlib.Numerals.{add-one}
use lib.ListN.{length, get_or, drop}
use lib.Seq.{drop-cons, drop-length}
use Rattle.words.specs.Keys.{Key}
use Rattle.branches.specs.Chains.{stirred, hashed, spread, bucket_of}

pub product_fits : (a b : ℕ) → a < 4294967296 → b < 4294967296 → a * b < 18446744073709551616
product_fits a b h l =
    let p : a ≤ 4294967295 = omega arith in
    let q : b ≤ 4294967295 = omega arith in
    let r : a * b ≤ 4294967295 * 4294967295 = mul-le-mul p q in
    omega arith

sum_fits : (x y : ℕ) → x ≤ 9223372036854775808 → y < 9223372036854775808 → x + y < 18446744073709551616
sum_fits x y h l = omega arith

pub mix_fits : (a b : ℕ) → a < 4294967296 → b < 4294967296 → a * 2135587861 + b * 1640531527 < 18446744073709551616
mix_fits a b h l =
    let p : a ≤ 4294967295 = omega arith in
    let q : b ≤ 4294967295 = omega arith in
    let r : a * 2135587861 ≤ 4294967295 * 2135587861 = mul-le-mul_right 2135587861 p in
    let s : b * 1640531527 ≤ 4294967295 * 1640531527 = mul-le-mul_right 1640531527 q in
    sum_fits (a * 2135587861) (b * 1640531527) (omega arith) (omega arith)

spread_lt : (h buckets : ℕ) → 0 < buckets → spread h buckets < buckets
unfolding spread
spread_lt h buckets some =
    let l : (h / 4294967296 + h % 4294967296) % 4294967296 < 4294967296 = omega arith in
    let m : (h / 4294967296 + h % 4294967296) % 4294967296 * buckets < 4294967296 * buckets = mul-lt-mul_of_pos_right l some in
    let z : 0 < 4294967296 = omega arith in
    (div-lt_iff_lt-mul {k = 4294967296} z).1 (subst (λ (n : ℕ). (h / 4294967296 + h % 4294967296) % 4294967296 * buckets < n) (mul_comm 4294967296 buckets) m)

pub bucket_lt : (buckets : ℕ) (k : Key) → 0 < buckets → bucket_of buckets k < buckets
unfolding bucket_of
bucket_lt buckets k some = spread_lt (hashed 0 k) buckets some

-- the words before place k are taken in
pub hash_turn : (key : Key) (k h v u : ℕ) → k < length key → hashed h (drop k key) ≡ hashed 0 key → v ≡ get_or key k 0 → u ≡ stirred h v
    → hashed u (drop (k + 1) key) ≡ hashed 0 key
unfolding hashed
hash_turn key k h v u l e p q =
    (λ z. hashed ((q ∙ ap (stirred h) p) z) (drop (add-one k z) key)) ∙ sym (ap (hashed h) (drop-cons key k 0 l)) ∙ e

pub hash_end : (key : Key) (k h buckets : ℕ) → k ≡ length key → hashed h (drop k key) ≡ hashed 0 key → spread h buckets ≡ bucket_of buckets key
unfolding bucket_of hashed
hash_end key k h buckets n q =
    ap (λ (g : ℕ). spread g buckets) (sym (ap (λ (m : ℕ). hashed h (drop m key)) n ∙ ap (hashed h) (drop-length key)) ∙ q)
