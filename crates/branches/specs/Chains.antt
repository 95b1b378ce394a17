-- An index of rows by their keys: a number for each bucket, then one for each row. Each is one more than a row, and 0 ends a chain.
use Rattle.std.specs.Prelude.{◌≡◌, ℕ, zero, suc, ◌+◌, ◌*◌, ◌/◌, ◌%◌, ◌≤◌, ◌<◌, min, true, cond, ◌&&◌, List, [], ◌∷◌, length, get_or, set, eqb, Option, Some}
use Rattle.words.specs.Keys.{Key, same_key}
use Rattle.terms.specs.Branch.{first}
use Rattle.terms.specs.Lists.{tab}
use Rattle.words.specs.Rows.{key_at}
use Rattle.branches.specs.declared.Sought.{Sought}
use Rattle.branches.specs.Probe.{sought_by, files, sought_word}

-- ---- the hash

-- One word taken into a hash. Nothing is used of it but that equal keys hash alike.
unfoldable pub stirred : ℕ → ℕ → ℕ
stirred h v = (h / 4294967296 + h % 4294967296 + v % 4294967296) % 4294967296 * 2135587861 + v / 4294967296 * 1640531527

unfoldable pub hashed : ℕ → Key → ℕ
hashed h [] = h
hashed h (v ∷ k) = hashed (stirred h v) k

unfoldable pub spread : ℕ → ℕ → ℕ
spread h buckets = (h / 4294967296 + h % 4294967296) % 4294967296 * buckets / 4294967296

-- A key and the key looked for from it are hashed alike: of each word and the word looked for, by the smaller.
unfoldable pub class_of : ℕ → Sought → Key → Key
class_of w s k = tab (length k) (λ i. min (get_or k i 0) (sought_word w s i (get_or k i 0)))

-- the bucket of what is hashed
unfoldable pub bucket_of : ℕ → Key → ℕ
bucket_of buckets k = spread (hashed 0 k) buckets

-- ---- the chains

-- one more than the greatest index below k that f sends to b, or 0
unfoldable pub last : (ℕ → ℕ) → ℕ → ℕ → ℕ
last f zero b = 0
last f (suc k) b = cond (eqb (f k) b) (suc k) (last f k b)

-- the heads, one to a bucket, and then the nexts, one to a row; a row that f sends to none of the buckets is in no chain
pub record Chained (f : ℕ → ℕ) (n buckets : ℕ) (ix : List ℕ) : Type 0 where
  pub heads : (b : ℕ) → b < buckets → get_or ix b 0 ≡ last f n b
  pub nexts : (i : ℕ) → i < n → f i < buckets → get_or ix (buckets + i) 0 ≡ last f i (f i)

-- chains of the first n rows, each in the bucket of its place
pub record Linked (n buckets : ℕ) (ix : List ℕ) : Type 0 where
  pub some : 0 < buckets
  pub few : buckets < 4294967296
  pub room : buckets + n ≤ length ix
  pub place : ℕ → ℕ
  pub chained : Chained place n buckets ix

-- row m put in front of a bucket's chain
abbrev pub pushed : ℕ → ℕ → ℕ → List ℕ → List ℕ
pushed m buckets b ix = set (set ix (buckets + m) (get_or ix b 0)) b (m + 1)

-- ---- the index

-- a row that files is in the bucket of its key
pub record Filed (s : Sought) (w : ℕ) (ws : List ℕ) (n buckets : ℕ) (ix : List ℕ) : Type 0 where
  pub links : Linked n buckets ix
  pub filed : (j : ℕ) → j < n → files w s (key_at (2 * w) ws j) ≡ true → links.place j ≡ bucket_of buckets (class_of w s (key_at (2 * w) ws j))

-- ix is an index of the first n rows, if it has buckets at all; all that it holds besides is free
pub record Indexed (s : Sought) (w : ℕ) (ws : List ℕ) (n : ℕ) (buckets : Option ℕ) (ix : List ℕ) : Type 0 where
  pub index : (b : ℕ) → buckets ≡ Some b → Filed s w ws n b ix

-- so many buckets, if any, leave room for n rows
pub record Spare (n : ℕ) (buckets : Option ℕ) (long : ℕ) : Type 0 where
  pub some : (b : ℕ) → buckets ≡ Some b → 0 < b
  pub few : (b : ℕ) → buckets ≡ Some b → b < 4294967296
  pub counted : (b : ℕ) → buckets ≡ Some b → n < 4294967296
  pub room : (b : ℕ) → buckets ≡ Some b → b + n ≤ long

-- ---- what is found

-- r is the first row of bucket b that has the key looked for from row i
pub record Walked (s : Sought) (w : ℕ) (ws : List ℕ) (n buckets : ℕ) (ix : List ℕ) (i b : ℕ) (r : Option ℕ) : Type 0 where
  pub found : (L : Linked n buckets ix)
      → r ≡ first (λ j. eqb (L.place j) b && same_key (key_at (2 * w) ws j) (sought_by w s (key_at (2 * w) ws i))) n
