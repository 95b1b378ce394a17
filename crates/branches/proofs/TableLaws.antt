-- The table of partners while rows are turned into their partners: it says the partner of each later row. Assumes nothing.
use mathlib.Core.Path.{◌≡◌, sym, ap, ◌∙◌}
use mathlib.Core.Bool.{true}
use mathlib.Core.Logic.{◌⊎◌, ⊎_elim}
use mathlib.Core.List.{List}
use Prim.Native.Nat.{ℕ, ◌+◌, ◌*◌, ◌≤◌, ◌<◌}
use native.Mathlib.Omega.{arith}
use Rattle.words.specs.Keys.{Key, same_key}
use Rattle.words.proofs.KeyLaws.{same_key_ne}
use Rattle.terms.specs.declared.Axis.{Axis}
use Rattle.std.specs.Prelude.{None}
use Rattle.terms.specs.Rotation.{met_by, partner_by}
use Rattle.terms.proofs.FirstLaws.{first_ext}
use Rattle.terms.proofs.AxisLaws.{partner_back}
use Rattle.words.specs.Rows.{key_at}
use Rattle.branches.specs.Pairs.{mate_of, code_at, partner_row, Table}
use Rattle.branches.proofs.PairLaws.{seek_none, told_same}

-- row j's key is as it was or, in row i without a partner, turned into the partner's
abbrev pub Shifted : Axis → ℕ → List ℕ → List ℕ → ℕ → ℕ → ℕ → Type 0
Shifted x w ws vs n i j = (key_at (2 * w) vs j ≡ key_at (2 * w) ws j)
    ⊎ ((j ≡ i) × (((met_by x (key_at (2 * w) ws i) ≡ true) × (partner_row w x ws n i ≡ None)) × (key_at (2 * w) vs j ≡ partner_by w x (key_at (2 * w) ws j))))

module _ (x : Axis) (w : ℕ) (ws vs : List ℕ) (n i buckets : ℕ) (ix : List ℕ) (hi : i < n) (T : Table x w ws n i buckets ix)
    (shifted : (j : ℕ) → j < n → Shifted x w ws vs n i j) where
  abbrev K : ℕ → Key
  K = key_at (2 * w) ws

  abbrev N : ℕ → Key
  N = key_at (2 * w) vs

  abbrev P : Key → Key
  P = partner_by w x

  abbrev Lone : Type 0
  Lone = (met_by x (K i) ≡ true) × (partner_row w x ws n i ≡ None)

  kept : (k : ℕ) → i + 1 ≤ k → k < n → N k ≡ K k
  kept k a h = ⊎_elim (λ (e : N k ≡ K k). e) (λ (e : (k ≡ i) × (Lone × (N k ≡ P (K k)))). absurd (let q = e.0 in omega arith)) (shifted k h)

  -- a later row seeks neither the old key of row i nor the new one
  not_old : (k : ℕ) → i < k → k < n → Lone → K i ≡ P (K k) → ⊥
  not_old k a h lone e = seek_none K (P (K i)) n lone.1 k h (sym (partner_back w x (K k)) ∙ ap P (sym e))

  not_new : (k : ℕ) → i < k → k < n → Lone → P (K i) ≡ P (K k) → ⊥
  not_new k a h lone e = T.apart i k (omega arith) a h lone.0 (sym (partner_back w x (K i)) ∙ ap P e ∙ partner_back w x (K k))

  alike : (k : ℕ) → i < k → k < n → (j : ℕ) → j < n → same_key (N j) (P (N k)) ≡ same_key (K j) (P (K k))
  alike k a h j hj = ap (λ (l : Key). same_key (N j) (P l)) (kept k (omega arith) h) ∙ ⊎_elim
      (λ (e : N j ≡ K j). ap (λ (l : Key). same_key l (P (K k))) e)
      (λ (e : (j ≡ i) × (Lone × (N j ≡ P (K j)))).
      ap (λ (l : Key). same_key l (P (K k))) (e.1.1 ∙ ap (λ (m : ℕ). P (K m)) e.0)
      ∙ same_key_ne (P (K i)) (P (K k)) (not_new k a h e.1.0)
      ∙ sym (ap (λ (m : ℕ). same_key (K m) (P (K k))) e.0 ∙ same_key_ne (K i) (P (K k)) (not_old k a h e.1.0)))
      (shifted j hj)

  pub table_moved : Table x w vs n (i + 1) buckets ix
  table_moved = record {
    room = T.room;
    on = T.on;
    mates = λ k a h.
        told_same x w ws vs n n k (kept k a h) (λ e. first_ext (λ j. same_key (N j) (P (N k))) (λ j. same_key (K j) (P (K k))) n (alike k (omega arith) h))
        (mate_of (code_at buckets n ix k)) (T.mates k (omega arith) h);
    apart = λ k l a b h e q.
        T.apart k l (omega arith) b h (ap (met_by x) (sym (kept k a (omega arith))) ∙ e) (sym (kept k a (omega arith)) ∙ q ∙ kept l (omega arith) h);
  }
