-- Numbers as texts: how they are read, and how they are spelled.
use Rattle.std.specs.Prelude.{ℕ, zero, suc, ◌+◌, ◌-◌, ◌*◌, ◌/◌, ◌%◌, ◌^◌, Bool, cond, ◌&&◌, List, [], ◌∷◌, ◌++◌, Float, Option, Some, None, option_map, ltb, leb, eqb, length}
use Rattle.std.specs.Float.Ieee.{of_bits}
use Rattle.std.specs.Float.{binary64}

-- r after a step for each byte of the text
unfoldable pub steps : (Option ℕ → ℕ → Option ℕ) → List ℕ → Option ℕ → Option ℕ
steps f [] r = r
steps f (b ∷ bs) r = steps f bs (f r b)

-- "Counts and qubits are decimal, below 2^64, without leading zeros."
abbrev pub is_digit : ℕ → Bool
is_digit b = leb 48 b && leb b 57

unfoldable pub next_digit : Option ℕ → ℕ → Option ℕ
next_digit None b = None
next_digit (Some v) b = let n = 10 * v + (b - 48) in cond (is_digit b && ltb n (2 ^ 64)) (Some n) None

unfoldable pub decimal : List ℕ → Option ℕ
decimal [] = None
decimal (b ∷ []) = steps next_digit (b ∷ []) (Some 0)
decimal (b ∷ d ∷ bs) = cond (eqb b 48) None (steps next_digit (b ∷ d ∷ bs) (Some 0))

-- "A real number is the 16 lowercase hexadecimal digits of its binary64 bits."
unfoldable pub hex_digit : ℕ → Option ℕ
hex_digit b = cond (leb 48 b && leb b 57) (Some (b - 48)) (cond (leb 97 b && leb b 102) (Some (b - 87)) None)

unfoldable pub next_hex : Option ℕ → ℕ → Option ℕ
next_hex None b = None
next_hex (Some v) b = option_map (λ d. 16 * v + d) (hex_digit b)

unfoldable pub hex16 : List ℕ → Option ℕ
hex16 s = cond (eqb (length s) 16) (steps next_hex s (Some 0)) None

abbrev pub real : List ℕ → Option Float
real s = option_map (of_bits binary64) (hex16 s)

-- ---- how numbers are spelled

-- a number below 10 ^ d in decimal
unfoldable pub decimal_text : ℕ → ℕ → List ℕ
decimal_text zero n = []
decimal_text (suc d) n = let r = decimal_text d (n / 10) in cond (ltb n 10) ((48 + n) ∷ []) (r ++ ((48 + n % 10) ∷ []))

-- every number that is printed is below 2 ^ 64, so below 10 ^ 20
abbrev pub nat_text : ℕ → List ℕ
nat_text n = decimal_text 20 n

-- the last d hexadecimal digits
unfoldable pub hex_text : ℕ → ℕ → List ℕ
hex_text zero n = []
hex_text (suc d) n = let g = n % 16 in hex_text d (n / 16) ++ (cond (ltb g 10) (48 + g) (87 + g) ∷ [])
