-- A run's lent memory as one value, and what a run leaves of it.
use Rattle.std.specs.Prelude.{◌≡◌, ℕ, List, length, Float}
use Rattle.turns.specs.declared.Memory.{Memory}

-- the same slices
pub record SameMemory (m m' : Memory) : Type 0 where
  pub words : m'.words.ghost_name ≡ m.words.ghost_name
  pub coeffs : m'.coeffs.ghost_name ≡ m.coeffs.ghost_name
  pub index : m'.index.ghost_name ≡ m.index.ghost_name
  pub words_long : length m'.words.now ≡ length m.words.now
  pub coeffs_long : length m'.coeffs.now ≡ length m.coeffs.now
  pub index_long : length m'.index.now ≡ length m.index.now

-- the same slices, and what is said of the words, the numbers and the index before and after
pub record OnMemory (P : List ℕ → List ℕ → List Float → List Float → List ℕ → List ℕ → Type 0) (m m' : Memory) : Type 0 where
  pub same : SameMemory m m'
  pub left : P m.words.now m'.words.now m.coeffs.now m'.coeffs.now m.index.now m'.index.now
