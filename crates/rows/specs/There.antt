-- Words of the private contracts: rows that are there.
use Rattle.std.specs.Prelude.{ℕ, ◌+◌, ◌*◌, ◌≤◌, ◌<◌, length}
use Rattle.rows.specs.Rows.{Room}
use Rattle.rows.specs.declared.Rows.{Rows}

-- row i is there: its key, and its number too
abbrev pub HasKey : Rows → ℕ → Type 0
HasKey r i = i * (2 * r.w) + 2 * r.w ≤ length r.words.now

abbrev pub HasRow : Rows → ℕ → Type 0
HasRow r i = HasKey r i × (i < length r.coeffs.now)

-- the first n rows are
abbrev pub HasKeys : Rows → ℕ → Type 0
HasKeys r n = n * (2 * r.w) ≤ length r.words.now

abbrev pub HasRows : Rows → ℕ → Type 0
HasRows r n = Room (2 * r.w) n r.words.now r.coeffs.now
