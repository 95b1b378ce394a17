-- Texts as lists of bytes, and their parts.
use Rattle.std.specs.Prelude.{ℕ, suc, Bool, true, false, cond, ◌&&◌, List, [], ◌∷◌, eqb, length, take, drop}
use Prim.Native.String as string
use Prim.Native.Char.{code}

-- the bytes of a text in ASCII
abbrev pub bytes : string.String → List ℕ
bytes string.[] = []
bytes (string.◌∷◌ c s) = code c ∷ bytes s

-- "Lines, each ended by byte 10": the parts of a text between the bytes c, one more than there are such bytes
unfoldable pub on_first : ℕ → List (List ℕ) → List (List ℕ)
on_first b [] = []
on_first b (p ∷ ps) = (b ∷ p) ∷ ps

unfoldable pub parts : ℕ → List ℕ → List (List ℕ)
parts c [] = [] ∷ []
parts c (b ∷ bs) = let r = parts c bs in cond (eqb b c) ([] ∷ r) (on_first b r)

-- "parts split by commas": where the first byte c stands, or the length; the text before it, and the text after it (none without c)
unfoldable pub index : ℕ → List ℕ → ℕ
index c [] = 0
index c (b ∷ bs) = let r = index c bs in cond (eqb b c) 0 (suc r)

abbrev pub before : ℕ → List ℕ → List ℕ
before c s = take (index c s) s

abbrev pub after : ℕ → List ℕ → List ℕ
after c s = drop (suc (index c s)) s

abbrev pub newline : ℕ
newline = 10

abbrev pub comma : ℕ
comma = 44

abbrev pub colon : ℕ
colon = 58

-- whether a text starts with k, and whether it is k
unfoldable pub begins : List ℕ → List ℕ → Bool
begins [] s = true
begins (k ∷ ks) [] = false
begins (k ∷ ks) (b ∷ bs) = eqb b k && begins ks bs

abbrev pub same : List ℕ → List ℕ → Bool
same k s = eqb (length s) (length k) && begins k s
