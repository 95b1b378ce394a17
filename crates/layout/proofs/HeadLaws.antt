-- The values that are read from the places of the lines `qubits` to `terms`, and `ops`, are those of the sheet's lines. Assumes nothing.
use Prim.Native.Nat.{ℕ, ◌+◌}
use mathlib.Core.Path.{◌≡◌, refl, ap, ◌∙◌}
use mathlib.Core.List.{List, []}
use lib.Ieee.{Float}
use lib.ListN.{get_or}
use Rattle.text.specs.Bytes.{bytes, parts, newline}
use Rattle.ops.specs.declared.Run.{Run}
use Rattle.lines.specs.Fields.{count, real_field, run_field, or_zero, or_zero_real, or_full}
use Rattle.layout.specs.Cursor.{line_at, next_at, start_at}
use Rattle.layout.specs.Layout.{head_of}
use Rattle.layout.proofs.CursorLaws.{line_there, start_add}

-- the line at the place of line n
line_is : (s : List ℕ) (a n : ℕ) → a ≡ start_at s 0 n → line_at s a ≡ get_or (parts newline s) n []
line_is s a n e = ap (line_at s) e ∙ line_there s n

-- a₁ to a₆ are the places of the lines after the first, a that of the line `ops`
module _ (s : List ℕ) (a₁ a₂ a₃ a₄ a₅ a₆ : ℕ) (e₁ : a₁ ≡ next_at s 0) (e₂ : a₂ ≡ next_at s a₁) (e₃ : a₃ ≡ next_at s a₂)
    (e₄ : a₄ ≡ next_at s a₃) (e₅ : a₅ ≡ next_at s a₄) (e₆ : a₆ ≡ next_at s a₅) where
  pub head_read : (q : ℕ) → q ≡ or_zero (count (bytes "qubits=") (line_at s 0)) → (r : Run) → r ≡ or_full (run_field (line_at s a₁))
      → (x : Float) → x ≡ or_zero_real (real_field (bytes "epsilon=") (line_at s a₂)) → (m : ℕ) → m ≡ or_zero (count (bytes "max_terms=") (line_at s a₃))
      → (l : ℕ) → l ≡ or_zero (count (bytes "limit=") (line_at s a₄)) → (t : ℕ) → t ≡ or_zero (count (bytes "terms=") (line_at s a₅))
      → (a : ℕ) → a ≡ start_at s a₆ t → (o : ℕ) → o ≡ or_zero (count (bytes "ops=") (line_at s a))
      → record { qubits = q; run = r; epsilon = x; max_terms = m; limit = l; terms = t; ops = o } ≡ head_of (parts newline s)
  unfolding head_of start_at
  head_read q eq r er x ex m em l el t et a ea o eo =
      let p₂ : a₂ ≡ start_at s 0 2 = e₂ ∙ ap (next_at s) e₁ in
      let p₃ : a₃ ≡ start_at s 0 3 = e₃ ∙ ap (next_at s) p₂ in
      let p₄ : a₄ ≡ start_at s 0 4 = e₄ ∙ ap (next_at s) p₃ in
      let p₅ : a₅ ≡ start_at s 0 5 = e₅ ∙ ap (next_at s) p₄ in
      let p₆ : a₆ ≡ start_at s 0 6 = e₆ ∙ ap (next_at s) p₅ in
      let l₀ = line_is s 0 0 refl in
      let l₁ = line_is s a₁ 1 e₁ in
      let l₂ = line_is s a₂ 2 p₂ in
      let l₃ = line_is s a₃ 3 p₃ in
      let l₄ = line_is s a₄ 4 p₄ in
      let l₅ = line_is s a₅ 5 p₅ in
      let l₆ = line_is s a (6 + t) (ea ∙ ap (λ (z : ℕ). start_at s z t) p₆ ∙ start_add s 0 6 t) in
      cc
