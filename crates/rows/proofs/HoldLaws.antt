-- What a store into a row does to the terms that the buffers hold. Assumes nothing.
use mathlib.Core.Path.{◌≡◌, refl, sym, ap, ◌∙◌, subst}
use mathlib.Core.List.{List, [], ◌∷◌, ◌++◌, append_assoc, append-nil}
use Prim.Native.Nat.{ℕ, zero, suc, ◌+◌, ◌*◌, ◌≤◌, ◌<◌}
use native.Mathlib.Nat.{suc-mul, mul-le-mul_right, zero-mul}
use native.Mathlib.Numerals.{add-one}
use native.Mathlib.Omega.{arith}
use lib.ListN.{length, get_or, set, take}
use lib.Seq.{take-suc, take-add}
use lib.Ieee.{Float, nan}
use Rattle.terms.specs.Lists.{tab, map_to}
use Rattle.terms.specs.Term.{Term, no_term}
use Rattle.words.specs.Rows.{key_at}
use Rattle.rows.specs.Rows.{term_at, terms_in, put_coeff, put_key, Holds, Room, keys_of, coeffs_of}
use Rattle.terms.proofs.ListLaws.{length_tab, get_d_tab, tab_ext, tab_snoc, tab_set, map_to_suc}
use Rattle.rows.proofs.RowLaws.{length_key, put_key_same, length_put_coeff, val_put_same, val_put_other, drop_put_coeff, row_before, drop_more, length_put_key, drop_put_key, key_put_same, key_put_other}

pub hold_start : (s R m : ℕ) (ws : List ℕ) (cs : List Float) → Holds s R m (terms_in s m ws cs) ws ws cs cs
hold_start s R m ws cs = record { terms = refl; words_kept = refl; coeffs_kept = refl; words_long = refl; coeffs_long = refl }

module _ {s R m : ℕ} {ts : List Term} {ws₀ ws : List ℕ} {cs₀ cs : List Float} (H : Holds s R m ts ws₀ ws cs₀ cs) where
  pub hold_count : length ts ≡ m
  hold_count = ap length (sym H.terms) ∙ length_tab m (term_at s ws cs)

  pub hold_at : (i : ℕ) → i < m → get_or ts i no_term ≡ term_at s ws cs i
  hold_at i h = ap (λ (l : List Term). get_or l i no_term) (sym H.terms) ∙ get_d_tab m (term_at s ws cs) i no_term h

  pub hold_room : Room s R ws₀ cs₀ → Room s R ws cs
  hold_room r = record { words_room = rw H.words_long r.words_room; coeffs_room = rw H.coeffs_long r.coeffs_room }

  -- a term stored in row i
  module _ (r : Room s R ws cs) (i : ℕ) (lt : i < R) (t : Term) (e : length t.key ≡ s) where
    within : i * s + s ≤ length ws
    within = let b = row_before s lt in omega (arith, r.words_room)

    put_same : term_at s (put_key s ws i t.key) (put_coeff cs i t.coeff) i ≡ t
    put_same = let room = r.coeffs_room in λ k. record { key = key_put_same s ws i t.key within e k; coeff = val_put_same cs i t.coeff (omega arith) k }

    put_other : (j : ℕ) → (j ≡ i → ⊥) → term_at s (put_key s ws i t.key) (put_coeff cs i t.coeff) j ≡ term_at s ws cs j
    put_other j n = λ k. record { key = key_put_other s ws i t.key within e j n k; coeff = val_put_other cs i j t.coeff n k }

    put_row : (n : ℕ) (us : List Term) → terms_in s n (put_key s ws i t.key) (put_coeff cs i t.coeff) ≡ us
        → Holds s R n us ws₀ (put_key s ws i t.key) cs₀ (put_coeff cs i t.coeff)
    put_row n us q = record {
      terms = q;
      words_kept = drop_more (i * s + s) (R * s) (put_key s ws i t.key) ws (row_before s lt) (drop_put_key s ws i t.key within e) ∙ H.words_kept;
      coeffs_kept = drop_put_coeff R cs i t.coeff (omega arith) ∙ H.coeffs_kept;
      words_long = length_put_key s ws i t.key within e ∙ H.words_long;
      coeffs_long = length_put_coeff cs i t.coeff ∙ H.coeffs_long;
    }

  -- another term in row i
  pub hold_set : Room s R ws cs → m ≤ R → (i : ℕ) → i < m → (t : Term) → length t.key ≡ s
      → Holds s R m (set ts i t) ws₀ (put_key s ws i t.key) cs₀ (put_coeff cs i t.coeff)
  hold_set r le i h t e =
      let lt : i < R = omega arith in
      put_row r i lt t e m (set ts i t) (tab_set m (term_at s ws cs) _ i t h (put_same r i lt t e) (λ j l n. put_other r i lt t e j n) ∙ ap (λ (l : List Term). set l i t) H.terms)

  -- another coefficient
  pub hold_val : Room s R ws cs → m ≤ R → (i : ℕ) → i < m → (v : Float)
      → Holds s R m (set ts i (record { key = key_at s ws i; coeff = v })) ws₀ ws cs₀ (put_coeff cs i v)
  hold_val r le i h v =
      let t : Term = record { key = key_at s ws i; coeff = v } in
      subst (λ (l : List ℕ). Holds s R m (set ts i t) ws₀ l cs₀ (put_coeff cs i v)) (put_key_same s ws i)
      (hold_set r le i h t (length_key s ws i (let b : i * s + s ≤ R * s = row_before s (omega arith) in omega (arith, r.words_room))))

  -- a term more, in row m
  pub hold_push : Room s R ws cs → m < R → (t : Term) → length t.key ≡ s
      → Holds s R (m + 1) (ts ++ (t ∷ [])) ws₀ (put_key s ws m t.key) cs₀ (put_coeff cs m t.coeff)
  hold_push r lt t e =
      let f : ℕ → Term = term_at s (put_key s ws m t.key) (put_coeff cs m t.coeff) in
      let front : tab m f ≡ ts = tab_ext m f (term_at s ws cs) (λ j l. put_other r m lt t e j (λ q. omega arith)) ∙ H.terms in
      put_row r m lt t e (m + 1) (ts ++ (t ∷ [])) (ap (λ (n : ℕ). tab n f) (add-one m) ∙ tab_snoc m f ∙ (λ k. front k ++ (put_same r m lt t e k ∷ [])))

-- ---- the terms written back

coeffs_of_snoc : (l : List Term) (t : Term) → coeffs_of (l ++ (t ∷ [])) ≡ coeffs_of l ++ (t.coeff ∷ [])
unfolding coeffs_of
coeffs_of_snoc [] t = refl
coeffs_of_snoc (x ∷ l) t = ap (λ (r : List Float). x.coeff ∷ r) (coeffs_of_snoc l t)

keys_of_snoc : (l : List Term) (t : Term) → keys_of (l ++ (t ∷ [])) ≡ keys_of l ++ t.key
unfolding keys_of
keys_of_snoc [] t = append-nil t.key
keys_of_snoc (x ∷ l) t = ap (λ (r : List ℕ). x.key ++ r) (keys_of_snoc l t) ∙ sym (append_assoc x.key (keys_of l) t.key)

pub coeffs_of_terms : (s n : ℕ) (ws : List ℕ) (cs : List Float) → n ≤ length cs → coeffs_of (terms_in s n ws cs) ≡ take n cs
unfolding coeffs_of tab
coeffs_of_terms s zero ws cs h = refl
coeffs_of_terms s (suc n) ws cs h =
    ap coeffs_of (tab_snoc n (term_at s ws cs)) ∙ coeffs_of_snoc (terms_in s n ws cs) (term_at s ws cs n)
    ∙ ap (λ (l : List Float). l ++ (get_or cs n nan ∷ [])) (coeffs_of_terms s n ws cs (omega arith)) ∙ sym (take-suc cs n nan (omega arith))

pub keys_of_terms : (s n : ℕ) (ws : List ℕ) (cs : List Float) → keys_of (terms_in s n ws cs) ≡ take (n * s) ws
unfolding keys_of tab
keys_of_terms s zero ws cs = ap (λ (k : ℕ). take k ws) (sym (zero-mul s))
keys_of_terms s (suc n) ws cs =
    ap keys_of (tab_snoc n (term_at s ws cs)) ∙ keys_of_snoc (terms_in s n ws cs) (term_at s ws cs n)
    ∙ ap (λ (l : List ℕ). l ++ key_at s ws n) (keys_of_terms s n ws cs)
    ∙ sym (take-add (n * s) s ws) ∙ ap (λ (k : ℕ). take k ws) (sym (suc-mul n s))

-- ---- a turn of a loop that changes the coefficient of each row in turn
pub hold_map : (F : Term → Term) → ((t : Term) → (F t).key ≡ t.key) → (i : ℕ) (l : List Term) {s R m : ℕ} {ws₀ ws : List ℕ} {cs₀ cs cs' : List Float}
    → Holds s R m (map_to F i l) ws₀ ws cs₀ cs → Room s R ws₀ cs₀ → m ≤ R → i < m → cs' ≡ put_coeff cs i (F (term_at s ws cs i)).coeff
    → Holds s R m (map_to F (i + 1) l) ws₀ ws cs₀ cs'
hold_map F same i l {s} {R} {m} {ws₀} {ws} {cs₀} {cs} {cs'} H room le h e =
    let t : Term = term_at s ws cs i in
    let whole : ◌≡◌ {A = Term} (record { key = key_at s ws i; coeff = (F t).coeff }) (F (get_or (map_to F i l) i no_term)) =
    (λ k. record { key = sym (same t) k; coeff = (F t).coeff }) ∙ ap F (sym (hold_at H i h)) in
    let after : set (map_to F i l) i (record { key = key_at s ws i; coeff = (F t).coeff }) ≡ map_to F (i + 1) l =
    ap (set (map_to F i l) i) whole ∙ map_to_suc F l i no_term ∙ ap (λ (k : ℕ). map_to F k l) (sym (add-one i)) in
    rw (e, ← after) (hold_val H (hold_room H room) le i h (F t).coeff)

-- ---- one state after another

pub hold_trans : {s R m m' : ℕ} {ts ts' : List Term} {ws₀ ws ws' : List ℕ} {cs₀ cs cs' : List Float}
    → Holds s R m ts ws₀ ws cs₀ cs → Holds s R m' ts' ws ws' cs cs' → Holds s R m' ts' ws₀ ws' cs₀ cs'
hold_trans H K = record {
  terms = K.terms;
  words_kept = K.words_kept ∙ H.words_kept;
  coeffs_kept = K.coeffs_kept ∙ H.coeffs_kept;
  words_long = K.words_long ∙ H.words_long;
  coeffs_long = K.coeffs_long ∙ H.coeffs_long;
}

pub hold_wide : {s R S m : ℕ} {ts : List Term} {ws₀ ws : List ℕ} {cs₀ cs : List Float} → R ≤ S → Holds s R m ts ws₀ ws cs₀ cs → Holds s S m ts ws₀ ws cs₀ cs
hold_wide {s} {R} {S} {m} {ts} {ws₀} {ws} {cs₀} {cs} le H = record {
  terms = H.terms;
  words_kept = drop_more (R * s) (S * s) ws ws₀ (mul-le-mul_right s le) H.words_kept;
  coeffs_kept = drop_more R S cs cs₀ (omega arith) H.coeffs_kept;
  words_long = H.words_long;
  coeffs_long = H.coeffs_long;
}

pub room_less : {s R S : ℕ} {ws : List ℕ} {cs : List Float} → R ≤ S → Room s S ws cs → Room s R ws cs
room_less {s} {R} {S} le r = let m = mul-le-mul_right s le in record { words_room = omega (arith, r.words_room); coeffs_room = omega (arith, r.coeffs_room) }

pub room_at : {s R : ℕ} {ws : List ℕ} {cs : List Float} → Room s R ws cs → (i : ℕ) → i < R → (i * s + s ≤ length ws) × (i < length cs)
room_at {s} r i h = let b = row_before s h in (omega (arith, r.words_room), omega (arith, r.coeffs_room))

-- ---- a turn of a loop that changes key and coefficient of each row in turn
pub hold_map_row : (F : Term → Term) (i : ℕ) (l : List Term) {s R m : ℕ} {ws₀ ws ws' : List ℕ} {cs₀ cs cs' : List Float}
    → Holds s R m (map_to F i l) ws₀ ws cs₀ cs → Room s R ws₀ cs₀ → m ≤ R → i < m → length (F (term_at s ws cs i)).key ≡ s
    → ws' ≡ put_key s ws i (F (term_at s ws cs i)).key → cs' ≡ put_coeff cs i (F (term_at s ws cs i)).coeff
    → Holds s R m (map_to F (i + 1) l) ws₀ ws' cs₀ cs'
hold_map_row F i l {s} {R} {m} {ws₀} {ws} {ws'} {cs₀} {cs} {cs'} H room le h whole ew ec =
    let t : Term = F (term_at s ws cs i) in
    let after : set (map_to F i l) i t ≡ map_to F (i + 1) l =
    ap (λ (u : Term). set (map_to F i l) i (F u)) (sym (hold_at H i h)) ∙ map_to_suc F l i no_term ∙ ap (λ (k : ℕ). map_to F k l) (sym (add-one i)) in
    rw (ew, ec, ← after) (hold_set H (hold_room H room) le i h t whole)
