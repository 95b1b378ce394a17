-- What a rotation leaves in the buffers.
use Rattle.std.specs.Prelude.{◌≡◌, true, Option, List, ℕ, ◌*◌, Float}
use Rattle.std.specs.Bool.{then_some}
use Rattle.words.specs.Keys.{Key}
use Rattle.terms.specs.declared.Axis.{Axis}
use Rattle.terms.specs.Term.{Term, Distinct}
use Rattle.terms.specs.Rotation.{met_by, partner_by, on_key, rotated}
use Rattle.terms.specs.Branch.{branch_lone, branch_row, branch_to, branched}
use Rattle.branches.specs.declared.rotation.Rotation.{Rotation}
use Rattle.rows.specs.Rows.{terms_in, Grown}

pub record Rotated (w n : ℕ) (x : Axis) (sin cos : Float) (r : ℕ) (ws ws' : List ℕ) (cs cs' : List Float) : Type 0 where
  -- always: the rotation in place, row after row
  pub in_place : Grown w n (branched w (met_by x) (partner_by w x) sin cos (terms_in (2 * w) n ws cs)) r ws ws' cs cs'
  -- at targets that the words have, for terms with distinct words: the rotation from the old values
  pub from_old : on_key w x ≡ true → Distinct (terms_in (2 * w) n ws cs)
      → Grown w n (rotated w (met_by x) (partner_by w x) sin cos (terms_in (2 * w) n ws cs)) r ws ws' cs cs'

-- ---- words of the private contracts: one row scaled, rewritten or with its partner added, and the rows before row i, by a rotation

-- the cosine, for a word that the rotation meets
unfoldable pub met_factor : Rotation → Key → Option Float
met_factor r k = then_some (met_by r.axis k) r.cos

abbrev pub lone_by : ℕ → Rotation → ℕ → List Term → List Term
lone_by w r = branch_lone w (met_by r.axis) (partner_by w r.axis) r.sin r.cos

abbrev pub row_by : ℕ → Rotation → ℕ → ℕ → List Term → List Term
row_by w r = branch_row w (met_by r.axis) (partner_by w r.axis) r.sin r.cos

abbrev pub rows_by : ℕ → Rotation → ℕ → ℕ → List Term → List Term
rows_by w r = branch_to w (met_by r.axis) (partner_by w r.axis) r.sin r.cos
