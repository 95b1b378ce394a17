-- The table of partners of a rotation: an index whose chains have the first row of each pair, and then a number for each row.
use Rattle.std.specs.Prelude.{◌≡◌, true, List, ℕ, zero, suc, ◌+◌, ◌-◌, ◌*◌, ◌/◌, ◌%◌, ◌≤◌, ◌<◌, length, get_or, set, Option, Some, None}
use Rattle.words.specs.Keys.{same_key}
use Rattle.terms.specs.declared.Axis.{Axis}
use Rattle.terms.specs.Rotation.{met_by, partner_by, on_key}
use Rattle.words.specs.Letters.{is_odd}
use Rattle.terms.specs.Term.{odd_y}
use Rattle.terms.specs.Branch.{first}
use Rattle.words.specs.Rows.{key_at}
use Rattle.branches.specs.declared.Sought.TheVariants.{Partner}
use Rattle.branches.specs.declared.Mate.{Mate}
use Rattle.branches.specs.declared.Mate.TheVariants.{Done, Lone, Later}
use Rattle.branches.specs.Chains.{class_of, bucket_of, pushed, Linked}

-- what a number says: 0 and 1 for no later partner, else twice one more than it, and the row's own parity
abbrev pub mate_of : ℕ → Mate
mate_of zero = Done
mate_of (suc zero) = Lone
mate_of (suc (suc c)) = Later (c / 2) (c % 2)

-- the number of row k, after the buckets and a link for each of n rows
abbrev pub code_at : ℕ → ℕ → List ℕ → ℕ → ℕ
code_at buckets n ix k = get_or ix (buckets + n + k) 0

-- rows j and i as partners, j before i; odd is the parity of row i
abbrev pub joined : ℕ → ℕ → ℕ → ℕ → List ℕ → List ℕ
joined from i j odd ix = set (set ix (from + i) 0) (from + j) (2 * (i + 1) + (1 - odd))

-- row i as the first of its pair, in bucket b
abbrev pub begun : ℕ → ℕ → ℕ → ℕ → List ℕ → List ℕ
begun n i buckets b ix = set (pushed i buckets b ix) (buckets + n + i) 1

-- nothing to be done at row i
abbrev pub passed : ℕ → ℕ → ℕ → List ℕ → List ℕ
passed n i buckets ix = set ix (buckets + n + i) 0

-- the first of m rows that has the key of row k's partner
abbrev pub partner_row : ℕ → Axis → List ℕ → ℕ → ℕ → Option ℕ
partner_row w x ws m k = first (λ j. same_key (key_at (2 * w) ws j) (partner_by w x (key_at (2 * w) ws k))) m

-- a row that is found, not after row k
abbrev pub NotAfter : ℕ → Option ℕ → Type 0
NotAfter k (Some j) = j ≤ k
NotAfter k None = ⊥

-- what is said of row k is so, of its partner among the first m rows
abbrev pub Told : Axis → ℕ → List ℕ → ℕ → ℕ → Mate → Type 0
Told x w ws m k Done = met_by x (key_at (2 * w) ws k) ≡ true → NotAfter k (partner_row w x ws m k)
Told x w ws m k Lone = (met_by x (key_at (2 * w) ws k) ≡ true) × (partner_row w x ws m k ≡ None)
Told x w ws m k (Later j odd) = (met_by x (key_at (2 * w) ws k) ≡ true) × (partner_row w x ws m k ≡ Some j) × (k < j) × (is_odd odd ≡ odd_y w (key_at (2 * w) ws k))

-- The first m of n rows are done: the number of each says its partner, no two that are met have one key, and the first of each pair is in the
-- bucket of its key.
pub record Pairing (x : Axis) (w : ℕ) (ws : List ℕ) (n m buckets : ℕ) (ix : List ℕ) : Type 0 where
  pub room : buckets + n + n ≤ length ix
  pub links : Linked m buckets ix
  pub mates : (k : ℕ) → k < m → Told x w ws m k (mate_of (code_at buckets n ix k))
  pub apart : (k l : ℕ) → k < l → l < m → met_by x (key_at (2 * w) ws k) ≡ true → key_at (2 * w) ws k ≡ key_at (2 * w) ws l → ⊥
  pub filed : (k : ℕ) → k < m → met_by x (key_at (2 * w) ws k) ≡ true → partner_row w x ws k k ≡ None
      → links.place k ≡ bucket_of buckets (class_of w (Partner x) (key_at (2 * w) ws k))

-- the table says the partner of each row from row i on, while the rotation is done in the rows before it
pub record Table (x : Axis) (w : ℕ) (ws : List ℕ) (n i buckets : ℕ) (ix : List ℕ) : Type 0 where
  pub room : buckets + n + n ≤ length ix
  pub on : on_key w x ≡ true
  pub mates : (k : ℕ) → i ≤ k → k < n → Told x w ws n k (mate_of (code_at buckets n ix k))
  pub apart : (k l : ℕ) → i ≤ k → k < l → l < n → met_by x (key_at (2 * w) ws k) ≡ true → key_at (2 * w) ws k ≡ key_at (2 * w) ws l → ⊥

-- there is such a table, if it has buckets at all
pub record Tabled (x : Axis) (w : ℕ) (ws : List ℕ) (n i : ℕ) (buckets : Option ℕ) (ix : List ℕ) : Type 0 where
  pub table : (b : ℕ) → buckets ≡ Some b → Table x w ws n i b ix

-- so many buckets, if any, leave room for a link and a number for each of n rows
pub record Roomy (n : ℕ) (buckets : Option ℕ) (long : ℕ) : Type 0 where
  pub some : (b : ℕ) → buckets ≡ Some b → 0 < b
  pub few : (b : ℕ) → buckets ≡ Some b → b < 4294967296
  pub counted : (b : ℕ) → buckets ≡ Some b → n < 2147483646
  pub room : (b : ℕ) → buckets ≡ Some b → b + n + n ≤ long
