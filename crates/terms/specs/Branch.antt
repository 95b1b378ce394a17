-- The rotation as it is done in place, row after row: a pair at the earlier of its two rows, a lone term at its row. For every list of
-- terms it is what the code leaves; where the keys are distinct it is the rotation from the old values.
use Rattle.std.specs.Prelude.{ℕ, zero, suc, Bool, true, false, not, cond, List, [], ◌∷◌, ◌++◌, map, ltb, length, get_or, set, Float, Option, Some, None}
use Rattle.numbers.specs.Tests.{is_zero}
use Rattle.words.specs.Keys.{Key, same_key}
use Rattle.terms.specs.Coefficient.{scaled_of}
use Rattle.terms.specs.Term.{Term, term, no_term, odd_y}
use Rattle.terms.specs.Rotation.{scaled_met, flipped_term, mixed}

-- the first index below n that passes a test
abbrev pub or_at : Option ℕ → Bool → ℕ → Option ℕ
or_at (Some i) b n = Some i
or_at None true n = Some n
or_at None false n = None

unfoldable pub first : (ℕ → Bool) → ℕ → Option ℕ
first p zero = None
first p (suc n) = or_at (first p n) (p n) n

-- the first of the first n terms that has the word k
abbrev pub row_of : ℕ → Key → List Term → Option ℕ
row_of n k ts = first (λ j. same_key (get_or ts j no_term).key k) n

module _ (w : ℕ) (met : Key → Bool) (partner : Key → Key) (sin cos : Float) where
  -- the terms of rows i and j, each from the old values; the Y letters of a partner have the other parity
  abbrev pub branch_pair : ℕ → ℕ → List Term → List Term
  branch_pair i j ts =
      let t = get_or ts i no_term in
      let u = get_or ts j no_term in
      cond (ltb i j)
      (set (set ts i (term t.key (mixed (odd_y w t.key) sin cos t.coeff u.coeff))) j (term u.key (mixed (not (odd_y w t.key)) sin cos u.coeff t.coeff)))
      ts

  -- the term of row i without a partner
  abbrev pub branch_lone : ℕ → List Term → List Term
  branch_lone i ts =
      let t = get_or ts i no_term in
      let f = flipped_term w met partner sin cos t in
      cond (is_zero cos) (set ts i f) (set ts i (term t.key (scaled_of cos t.coeff)) ++ (f ∷ []))

  abbrev pub branch_by : ℕ → List Term → Option ℕ → List Term
  branch_by i ts (Some j) = branch_pair i j ts
  branch_by i ts None = branch_lone i ts

  -- row i; partners are looked for among the first n rows
  unfoldable pub branch_row : ℕ → ℕ → List Term → List Term
  branch_row n i ts =
      let t = get_or ts i no_term in
      cond (met t.key) (branch_by i ts (row_of n (partner t.key) ts)) ts

  -- the rows before row i done, one after the other
  unfoldable pub branch_to : ℕ → ℕ → List Term → List Term
  branch_to n zero ts = ts
  branch_to n (suc i) ts = branch_row n i (branch_to n i ts)

  unfoldable pub branched : List Term → List Term
  branched ts = cond (is_zero sin) (map (scaled_met w met partner sin cos) ts) (branch_to (length ts) (length ts) ts)
