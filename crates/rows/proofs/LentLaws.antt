-- What functions leave of lent rows, one after the other. Assumes nothing.
use mathlib.Core.Path.{◌≡◌, refl, ◌∙◌}
use mathlib.Core.List.{List}
use lib.ListN.{length}
use Prim.Native.Nat.{ℕ}
use lib.Ieee.{Float}
use Rattle.rows.specs.declared.Rows.{Rows}
use Rattle.rows.specs.Lent.{SameRows, OnRows}

pub same_rows : (r : Rows) → SameRows r r
same_rows r = record { words = refl; coeffs = refl; width = refl; words_long = refl; coeffs_long = refl }

pub same_trans : {r r' r'' : Rows} → SameRows r r' → SameRows r' r'' → SameRows r r''
same_trans s t = record {
  words = t.words ∙ s.words;
  coeffs = t.coeffs ∙ s.coeffs;
  width = t.width ∙ s.width;
  words_long = t.words_long ∙ s.words_long;
  coeffs_long = t.coeffs_long ∙ s.coeffs_long;
}

-- nothing was done
pub on_rows_start : {P : List ℕ → List ℕ → List Float → List Float → Type 0} (r : Rows) → P r.words.now r.words.now r.coeffs.now r.coeffs.now → OnRows P r r
on_rows_start r p = record { same = same_rows r; left = p }

-- what is known of the lists that the slices hold in the end
pub on_rows_left : {P : List ℕ → List ℕ → List Float → List Float → Type 0} {r r' : Rows} {ws : List ℕ} {cs : List Float} → P r.words.now ws r.coeffs.now cs
    → r'.words.now ≡ ws → r'.coeffs.now ≡ cs → r'.words.ghost_name ≡ r.words.ghost_name → r'.coeffs.ghost_name ≡ r.coeffs.ghost_name → r'.w ≡ r.w
    → length ws ≡ length r.words.now → length cs ≡ length r.coeffs.now → OnRows P r r'
on_rows_left p ew ec nw nc wide lw lc = record {
  same = record { words = nw; coeffs = nc; width = wide; words_long = rw ew lw; coeffs_long = rw ec lc };
  left = rw (ew, ec) p;
}
