-- The index in lent memory as one value, and what a function leaves of it.
use Rattle.std.specs.Prelude.{◌≡◌, ℕ, List, [], length, Option, Some, None, ⊤}
use Rattle.std.specs.Borrow.{MutBor}
use Rattle.terms.specs.declared.Axis.{Axis}
use Rattle.rows.specs.declared.Rows.{Rows}
use Rattle.branches.specs.declared.Sought.{Sought}
use Rattle.branches.specs.declared.Index.{Index}
use Rattle.branches.specs.Chains.{Indexed, Spare}
use Rattle.branches.specs.Pairs.{Tabled}

abbrev pub buckets_of : Option Index → Option ℕ
buckets_of (Some x) = Some x.buckets
buckets_of None = None

abbrev pub numbers_of : Option Index → List ℕ
numbers_of (Some x) = x.memory.now
numbers_of None = []

-- x is an index of the first n rows, or none
abbrev pub Indexes : Sought → Rows → ℕ → Option Index → Type 0
Indexes s r n x = Indexed s r.w r.words.now n (buckets_of x) (numbers_of x)

-- it has room for n rows
abbrev pub Spares : ℕ → Option Index → Type 0
Spares n x = Spare n (buckets_of x) (length (numbers_of x))

-- x is a table of the partners of n rows from row i on, or none
abbrev pub Tables : Axis → Rows → ℕ → ℕ → Option Index → Type 0
Tables a r n i x = Tabled a r.w r.words.now n i (buckets_of x) (numbers_of x)

-- the same slice, with as many buckets
pub record SameIndex (x x' : Index) : Type 0 where
  pub memory : x'.memory.ghost_name ≡ x.memory.ghost_name
  pub long : length x'.memory.now ≡ length x.memory.now
  pub buckets : x'.buckets ≡ x.buckets

abbrev pub SameIf : Option Index → Option Index → Type 0
SameIf (Some x) (Some x') = SameIndex x x'
SameIf (Some x) None = ⊥
SameIf None (Some x') = ⊥
SameIf None None = ⊤

-- an index, if any, in the lent memory m
abbrev pub InMemory : MutBor (List ℕ) → Option Index → Type 0
InMemory m (Some x) = (x.memory.ghost_name ≡ m.ghost_name) × (length x.memory.now ≡ length m.now)
InMemory m None = ⊤
