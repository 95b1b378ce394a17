-- The keys of the rows, and so the table and the index of them, after one row of a rotation and after an appended row. Assumes nothing.
use mathlib.Core.Path.{◌≡◌, refl, sym, ap, ◌∙◌, subst}
use mathlib.Core.Bool.{Bool, true, false, not, cond}
use mathlib.Core.Logic.{◌⊎◌, inl, inr, ⊎_elim}
use mathlib.Core.List.{List, [], ◌∷◌, ◌++◌}
use Prim.Native.Nat.{ℕ, ◌+◌, ◌*◌, ◌≤◌, ◌<◌}
use native.Mathlib.Omega.{arith}
use lib.Dec.{ltb}
use lib.ListN.{length, get_or, set, length-set, get_or-append}
use lib.Seq.{get_or-set_same, get_or-set_other, set_out}
use lib.Ieee.{Float}
use Rattle.numbers.specs.Tests.{is_zero}
use Rattle.words.specs.Keys.{Key, bit_at, flip_at, z_at, same_key}
use Rattle.terms.specs.declared.Axis.{Axis}
use Rattle.std.specs.Prelude.{Option, Some, None}
use Rattle.terms.specs.Coefficient.{scaled_of}
use Rattle.terms.specs.Term.{odd_y, Term, term, no_term}
use Rattle.terms.specs.Rotation.{met_by, partner_by, flipped_term, mixed}
use Rattle.terms.specs.Branch.{row_of, branch_pair, branch_lone, branch_by, branch_row}
use Rattle.terms.specs.Channel.{is_zletter}
use Rattle.terms.proofs.CaseLaws.{and_true, eq_or_ne, lt_or_le}
use Rattle.terms.proofs.AxisLaws.{partner_length}
use Rattle.terms.proofs.ListLaws.{length_tab, get_d_tab}
use Rattle.terms.proofs.FirstLaws.{first_ext}
use Rattle.words.specs.Rows.{key_at}
use Rattle.rows.specs.Rows.{term_at, terms_in, put_key, Holds}
use Rattle.rows.proofs.RowLaws.{length_key, key_put_other}
use Rattle.rows.proofs.HoldLaws.{hold_at}
use Rattle.branches.specs.declared.Sought.{Sought}
use Rattle.branches.specs.declared.Sought.TheVariants.{Identity}
use Rattle.branches.specs.Probe.{files}
use Rattle.branches.specs.Chains.{Indexed}
use Rattle.branches.specs.Pairs.{partner_row, Tabled}
use Rattle.branches.proofs.ProbeLaws.{identity_files}
use Rattle.branches.proofs.FileLaws.{index_kept}
use Rattle.branches.proofs.TableLaws.{Shifted, table_moved}

-- the key of a term
abbrev key_of : List Term → ℕ → Key
key_of ts j = (get_or ts j no_term).key

-- another coefficient in row i keeps every key
recoeff : (ts : List Term) (i : ℕ) (k : Key) (v : Float) → k ≡ key_of ts i → (j : ℕ) → key_of (set ts i (term k v)) j ≡ key_of ts j
recoeff ts i k v e j = ⊎_elim
    (λ (q : j ≡ i). ⊎_elim
    (λ (h : i < length ts). subst (λ (m : ℕ). key_of (set ts i (term k v)) m ≡ key_of ts m) (sym q) (ap (λ (t : Term). t.key) (get_or-set_same ts i (term k v) no_term h) ∙ e))
    (λ (h : length ts ≤ i). ap (λ (us : List Term). key_of us j) (set_out ts i (term k v) h))
    (lt_or_le i (length ts)))
    (λ (n : j ≡ i → ⊥). ap (λ (t : Term). t.key) (get_or-set_other ts i j (term k v) no_term n))
    (eq_or_ne j i)

module _ (w : ℕ) (met : Key → Bool) (partner : Key → Key) (sin cos : Float) (ts : List Term) (n i : ℕ) where
  -- row i is met and has no partner
  abbrev Lone : Type 0
  Lone = (met (key_of ts i) ≡ true) × (row_of n (partner (key_of ts i)) ts ≡ None)

  -- a key as it was or, in row i without a partner, turned into the partner's
  abbrev Moved : List Term → ℕ → Type 0
  Moved us j = (key_of us j ≡ key_of ts j) ⊎ ((j ≡ i) × (Lone × (key_of us j ≡ partner (key_of ts j))))

  pair_keys : (k j : ℕ) → key_of (branch_pair w met partner sin cos i k ts) j ≡ key_of ts j
  pair_keys k j = go (ltb i k)
    where
      t : Term
      t = get_or ts i no_term

      u : Term
      u = get_or ts k no_term

      one : List Term
      one = set ts i (term t.key (mixed (odd_y w t.key) sin cos t.coeff u.coeff))

      go : (b : Bool) → key_of (cond b (set one k (term u.key (mixed (not (odd_y w t.key)) sin cos u.coeff t.coeff))) ts) j ≡ key_of ts j
      go true =
          recoeff one k u.key (mixed (not (odd_y w t.key)) sin cos u.coeff t.coeff) (sym (recoeff ts i t.key (mixed (odd_y w t.key) sin cos t.coeff u.coeff) refl k)) j
          ∙ recoeff ts i t.key (mixed (odd_y w t.key) sin cos t.coeff u.coeff) refl j
      go false = refl

  lone_keys : (j : ℕ) → Lone → j < length ts → Moved (branch_lone w met partner sin cos i ts) j
  lone_keys j lone h = go (is_zero cos)
    where
      t : Term
      t = get_or ts i no_term

      f : Term
      f = flipped_term w met partner sin cos t

      turned : Moved (set ts i f) j
      turned = ⊎_elim
          (λ (q : j ≡ i).
          subst (λ (m : ℕ). Moved (set ts i f) m) (sym q)
          (inr (refl, (lone, ap (λ (x : Term). x.key) (get_or-set_same ts i f no_term (subst (λ (m : ℕ). m < length ts) q h))))))
          (λ (d : j ≡ i → ⊥). inl (ap (λ (x : Term). x.key) (get_or-set_other ts i j f no_term d)))
          (eq_or_ne j i)

      go : (b : Bool) → Moved (cond b (set ts i f) (set ts i (term t.key (scaled_of cos t.coeff)) ++ (f ∷ []))) j
      go true = turned
      go false =
          inl (ap (λ (x : Term). x.key) (get_or-append (set ts i (term t.key (scaled_of cos t.coeff))) (f ∷ []) no_term j (simp length-set h))
          ∙ recoeff ts i t.key (scaled_of cos t.coeff) refl j)

  row_keys : (j : ℕ) → j < length ts → Moved (branch_row w met partner sin cos n i ts) j
  unfolding branch_row
  row_keys j h = go (met (key_of ts i)) refl
    where
      by : met (key_of ts i) ≡ true → (f : Option ℕ) → row_of n (partner (key_of ts i)) ts ≡ f → Moved (branch_by w met partner sin cos i ts f) j
      by e (Some k) q = inl (pair_keys k j)
      by e None q = lone_keys j (e, q) h

      go : (b : Bool) → met (key_of ts i) ≡ b → Moved (cond b (branch_by w met partner sin cos i ts (row_of n (partner (key_of ts i)) ts)) ts) j
      go true e = by e (row_of n (partner (key_of ts i)) ts) refl
      go false e = inl refl

-- the table of partners, after row i of a rotation
pub table_rotated : (w : ℕ) (x : Axis) (sin cos : Float) (n m i r : ℕ) (buckets : Option ℕ) (ix ws ws' : List ℕ) (cs cs' : List Float) → i < n → n ≤ m → m ≤ r
    → Holds (2 * w) r r (branch_row w (met_by x) (partner_by w x) sin cos n i (terms_in (2 * w) m ws cs)) ws ws' cs cs'
    → Tabled x w ws n i buckets ix → Tabled x w ws' n (i + 1) buckets ix
table_rotated w x sin cos n m i r buckets ix ws ws' cs cs' hi a b H T = record { table = λ c p. table_moved x w ws ws' n i c ix hi (T.table c p) (λ j h. row j (omega arith)) }
  where
    ts : List Term
    ts = terms_in (2 * w) m ws cs

    old : (j : ℕ) → j < m → key_of ts j ≡ key_at (2 * w) ws j
    old j h = ap (λ (t : Term). t.key) (get_d_tab m (term_at (2 * w) ws cs) j no_term h)

    partner_row_lem : row_of n (partner_by w x (key_of ts i)) ts ≡ partner_row w x ws n i
    partner_row_lem =
        first_ext (λ j. same_key (key_of ts j) (partner_by w x (key_of ts i))) (λ j. same_key (key_at (2 * w) ws j) (partner_by w x (key_at (2 * w) ws i))) n
        (λ j h z. same_key (old j (omega arith) z) (partner_by w x (old i (omega arith) z)))

    row : (j : ℕ) → j < m → Shifted x w ws ws' n i j
    row j h =
        let new : key_of (branch_row w (met_by x) (partner_by w x) sin cos n i ts) j ≡ key_at (2 * w) ws' j = ap (λ (t : Term). t.key) (hold_at H j (omega arith)) in
        let long : j < length ts = subst (λ (l : ℕ). j < l) (sym (length_tab m (term_at (2 * w) ws cs))) h in
        ⊎_elim
        (λ (e : key_of (branch_row w (met_by x) (partner_by w x) sin cos n i ts) j ≡ key_of ts j). inl (sym new ∙ e ∙ old j h))
        (λ (e : (j ≡ i) × (Lone w (met_by x) (partner_by w x) sin cos ts n i × (key_of (branch_row w (met_by x) (partner_by w x) sin cos n i ts) j ≡ partner_by w x (key_of ts j)))).
        inr (e.0, ((ap (met_by x) (sym (old i (omega arith))) ∙ e.1.0.0, sym partner_row_lem ∙ e.1.0.1), sym new ∙ e.1.1 ∙ ap (partner_by w x) (old j h))))
        (row_keys w (met_by x) (partner_by w x) sin cos ts n i j long)

-- the word of a row with the letter Z, with z cleared, is one that the index of identity branches has
pub z_files : (w q : ℕ) (k : Key) → is_zletter w q k ≡ true → files w (Identity q) (flip_at k (z_at w q)) ≡ true
z_files w q k e = identity_files w q k (and_true (not (bit_at k q)) (bit_at k (z_at w q)) e).1

-- the index of the first m rows, with the partner of row i as row m
pub index_appended : (s : Sought) (w : ℕ) (x : Axis) (i m : ℕ) (buckets : Option ℕ) (ix ws : List ℕ) {vs : List ℕ} → i * (2 * w) + 2 * w ≤ length ws
    → m * (2 * w) + 2 * w ≤ length ws → vs ≡ put_key (2 * w) ws m (partner_by w x (key_at (2 * w) ws i)) → Indexed s w ws m buckets ix → Indexed s w vs m buckets ix
index_appended s w x i m buckets ix ws {vs} hi hm e I =
    let whole = partner_length w x (key_at (2 * w) ws i) ∙ length_key (2 * w) ws i hi in
    index_kept s w m buckets ws vs ix
    (λ j h. ap (λ (l : List ℕ). key_at (2 * w) l j) e ∙ key_put_other (2 * w) ws m (partner_by w x (key_at (2 * w) ws i)) hm whole j (λ q. omega arith)) I
