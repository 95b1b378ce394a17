-- What runs leave of lent memory. Assumes nothing.
use mathlib.Core.Path.{◌≡◌, refl}
use mathlib.Core.List.{List}
use Prim.Native.Nat.{ℕ}
use lib.ListN.{length}
use lib.Ieee.{Float}
use Rattle.turns.specs.declared.Memory.{Memory}
use Rattle.turns.specs.Lent.{SameMemory, OnMemory}

pub same_memory : (m : Memory) → SameMemory m m
same_memory m = record { words = refl; coeffs = refl; index = refl; words_long = refl; coeffs_long = refl; index_long = refl }

-- nothing was done
pub memory_start : {P : List ℕ → List ℕ → List Float → List Float → List ℕ → List ℕ → Type 0} (m : Memory)
    → P m.words.now m.words.now m.coeffs.now m.coeffs.now m.index.now m.index.now → OnMemory P m m
memory_start m p = record { same = same_memory m; left = p }

-- what is known of the lists that the slices hold in the end
pub memory_left : {P : List ℕ → List ℕ → List Float → List Float → List ℕ → List ℕ → Type 0} {m m' : Memory} {ws : List ℕ} {cs : List Float}
    → P m.words.now ws m.coeffs.now cs m.index.now m'.index.now → m'.words.now ≡ ws → m'.coeffs.now ≡ cs
    → m'.words.ghost_name ≡ m.words.ghost_name → m'.coeffs.ghost_name ≡ m.coeffs.ghost_name → m'.index.ghost_name ≡ m.index.ghost_name
    → length ws ≡ length m.words.now → length cs ≡ length m.coeffs.now → length m'.index.now ≡ length m.index.now → OnMemory P m m'
memory_left p ew ec nw nc nx lw lc lx = record {
  same = record { words = nw; coeffs = nc; index = nx; words_long = rw ew lw; coeffs_long = rw ec lc; index_long = lx };
  left = rw (ew, ec) p;
}
