-- How many letters of a word are Y.
use Rattle.std.specs.Prelude.{ℕ, zero, suc, ◌+◌, ◌*◌, ◌%◌, Bool, cond, ◌&&◌, eqb}
use Rattle.words.specs.Keys.{Key, bit_at, z_at}

-- how many of the first n qubits have the letter Y: both bits set
unfoldable pub count_y : ℕ → ℕ → Key → ℕ
count_y w zero k = 0
count_y w (suc n) k = cond (bit_at k n && bit_at k (z_at w n)) 1 0 + count_y w n k

abbrev pub ys_of : ℕ → Key → ℕ
ys_of w k = count_y w (64 * w) k

abbrev pub is_odd : ℕ → Bool
is_odd n = eqb (n % 2) 1
