-- Where the lines of a text start. Words of the contracts: `line_there` in proofs/CursorLaws.antt says that these are the lines of `parts`.
use Rattle.std.specs.Prelude.{ℕ, zero, suc, ◌+◌, cond, List, ltb, length, drop}
use Rattle.text.specs.Bytes.{index, before, newline}

-- the line from a place on, without the byte 10 that ends it
abbrev pub line_at : List ℕ → ℕ → List ℕ
line_at s at = before newline (drop at s)

-- the place after the next byte 10, or the end
unfoldable pub next_at : List ℕ → ℕ → ℕ
next_at s at = let i = index newline (drop at s) in cond (ltb i (length (drop at s))) (at + suc i) (length s)

-- the place n lines further
unfoldable pub start_at : List ℕ → ℕ → ℕ → ℕ
start_at s at zero = at
start_at s at (suc n) = next_at s (start_at s at n)
