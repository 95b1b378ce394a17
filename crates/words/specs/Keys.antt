-- "A term is words x, z (bit q of word q/64 for qubit q)". A row's 2 * W words, the W x-words and then the W z-words,
-- are its key: x of qubit q is bit q of the key, and z is bit 64 * W + q. Past the end a bit is clear, and a flip changes nothing.
use Rattle.std.specs.Prelude.{ℕ, ◌+◌, ◌-◌, ◌*◌, ◌/◌, ◌%◌, ◌^◌, ◌<◌, Bool, true, false, not, cond, ◌&&◌, ◌||◌, List, [], ◌∷◌, get_or, set, take, replicate, eqb}
use Rattle.std.specs.Bool.{beq}

abbrev pub Key : Type 0
Key = List ℕ

infixl 25 ◌⊕◌
abbrev pub ◌⊕◌ : Bool → Bool → Bool
a ⊕ b = not (beq a b)

-- "one row layout of ceil(qubits/64) words"
abbrev pub width_of : ℕ → ℕ
width_of qubits = (qubits + 63) / 64

-- bit b of the number w, and w with that bit flipped
unfoldable pub bit_of : ℕ → ℕ → Bool
bit_of w b = eqb (w / 2 ^ b % 2) 1

unfoldable pub flip_of : ℕ → ℕ → ℕ
flip_of w b = cond (bit_of w b) (w - 2 ^ b) (w + 2 ^ b)

-- bit i of a key, and the key with that bit flipped, or set
unfoldable pub bit_at : Key → ℕ → Bool
bit_at k i = bit_of (get_or k (i / 64) 0) (i % 64)

unfoldable pub flip_at : Key → ℕ → Key
flip_at k i = set k (i / 64) (flip_of (get_or k (i / 64) 0) (i % 64))

abbrev pub set_at : Key → ℕ → Key
set_at k i = cond (bit_at k i) k (flip_at k i)

-- where z of qubit q is
abbrev pub z_at : ℕ → ℕ → ℕ
z_at w q = 64 * w + q

-- whether a word has a letter at a qubit
abbrev pub has_letter : ℕ → Key → ℕ → Bool
has_letter w k q = bit_at k q || bit_at k (z_at w q)

-- the word without letters
abbrev pub no_letters : ℕ → Key
no_letters w = replicate (2 * w) 0

unfoldable pub all_zero : List ℕ → Bool
all_zero [] = true
all_zero (v ∷ k) = eqb v 0 && all_zero k

-- "with x zero"
abbrev pub no_x : ℕ → Key → Bool
no_x w k = all_zero (take w k)

unfoldable pub same_key : Key → Key → Bool
same_key [] [] = true
same_key [] (b ∷ l) = false
same_key (a ∷ k) [] = false
same_key (a ∷ k) (b ∷ l) = eqb a b && same_key k l

-- every word is one of 64 bits
abbrev pub Words : Key → Type 0
Words k = (j : ℕ) → get_or k j 0 < 2 ^ 64
