-- A buffer of keys, 2 * W words to a row.
use Rattle.std.specs.Prelude.{ℕ, ◌+◌, ◌*◌, List, ◌++◌, take, drop}
use Rattle.words.specs.Keys.{Key}

-- the key of row i, where a row has s words
abbrev pub key_at : ℕ → List ℕ → ℕ → Key
key_at s ws i = take s (drop (i * s) ws)

-- the buffer with k as its row r

abbrev pub with_row : ℕ → ℕ → Key → List ℕ → List ℕ
with_row w r k ws = take (r * (2 * w)) ws ++ (k ++ drop (r * (2 * w) + 2 * w) ws)
