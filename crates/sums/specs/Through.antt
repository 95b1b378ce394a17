-- Words of the private contracts: rows through a gate.
use Rattle.std.specs.Prelude.{ℕ, ◌*◌, List, map, Float}
use Rattle.words.specs.declared.Gate.{Gate}
use Rattle.terms.specs.Term.{conjugated}
use Rattle.rows.specs.Rows.{terms_in, Holds}

-- the first n terms are through the gate, and all else is as it was
abbrev pub Through : Gate → ℕ → ℕ → ℕ → ℕ → List ℕ → List ℕ → List Float → List Float → Type 0
Through g w n a b ws ws' cs cs' = Holds (2 * w) n n (map (conjugated w g a b) (terms_in (2 * w) n ws cs)) ws ws' cs cs'
