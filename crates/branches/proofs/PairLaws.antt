-- The pass that makes the table of partners, row by row. Assumes nothing.
use mathlib.Core.Path.{◌≡◌, refl, sym, ap, ap₂, ◌∙◌, subst}
use mathlib.Core.Bool.{Bool, true, false, not, false≢true, ◌&&◌}
use mathlib.Core.Logic.{◌⊎◌, inl, inr, ⊎_elim}
use mathlib.Core.List.{List}
use Prim.Native.Nat.{ℕ, zero, suc, ◌+◌, ◌-◌, ◌*◌, ◌/◌, ◌%◌, ◌≤◌, ◌<◌}
use native.Mathlib.Nat.{eq-or-lt_of_le, le_of_suc-le-suc, not-suc-le-zero}
use native.Mathlib.Omega.{arith}
use native.Mathlib.Numerals.{add-one}
use lib.Dec.{eqb}
use lib.ListN.{length, get_or, set, length-set}
use lib.Seq.{get_or-set_same, get_or-set_other}
use borrow.Author.Tests.{eq-eqb}
use Rattle.words.specs.Keys.{Key, same_key}
use Rattle.words.proofs.KeyLaws.{same_key_eq, same_key_refl, same_key_ne}
use Rattle.terms.specs.declared.Axis.{Axis}
use Rattle.std.specs.Prelude.{Option, Some, None, is_some}
use Rattle.terms.specs.Branch.{first, or_at}
use Rattle.words.specs.Letters.{is_odd}
use Rattle.terms.specs.Term.{odd_y}
use Rattle.terms.specs.Rotation.{met_by, partner_by, on_key}
use Rattle.terms.proofs.CaseLaws.{and_true, eq_or_ne, lt_or_le}
use Rattle.terms.proofs.FirstLaws.{first_here, first_at, first_nothing}
use Rattle.terms.proofs.AxisLaws.{partner_back, partner_met, partner_moves}
use Rattle.terms.proofs.YLaws.{partner_odd}
use Rattle.words.specs.Rows.{key_at}
use Rattle.rows.proofs.RowLaws.{length_key, row_before}
use Rattle.branches.specs.declared.Sought.{Sought}
use Rattle.branches.specs.declared.Sought.TheVariants.{Partner}
use Rattle.branches.specs.Probe.{sought_by}
use Rattle.branches.specs.Chains.{class_of, bucket_of, Chained, Linked, pushed, Walked}
use Rattle.branches.specs.declared.Mate.{Mate}
use Rattle.branches.specs.declared.Mate.TheVariants.{Done, Lone, Later}
use Rattle.branches.specs.Pairs.{mate_of, code_at, joined, begun, passed, partner_row, NotAfter, Told, Pairing, Table}
use Rattle.branches.proofs.ProbeLaws.{class_sought}
use Rattle.branches.proofs.ChainLaws.{chained_ext, chained_more, chained_skip}
use Rattle.branches.proofs.FileLaws.{placed, placed_before, placed_here}

-- ---- a search among keys

-- a row that fails is passed over
first_past : (p : ℕ → Bool) (n : ℕ) → p n ≡ false → first p (suc n) ≡ first p n
unfolding first
first_past p n e = ap (λ (b : Bool). or_at (first p n) b n) e ∙ go (first p n)
  where
    go : (f : Option ℕ) → or_at f false n ≡ f
    go (Some i) = refl
    go None = refl

module _ (K : ℕ → Key) (k : Key) where
  abbrev has : ℕ → Bool
  has j = same_key (K j) k

  pub seek_at : (m j : ℕ) → first has m ≡ Some j → (j < m) × (K j ≡ k)
  seek_at m j e = let r = first_at has m j e in (r.0, same_key_eq (K j) k r.1)

  pub seek_none : (m : ℕ) → first has m ≡ None → (j : ℕ) → j < m → K j ≡ k → ⊥
  seek_none m e j h q = false≢true (sym (first_nothing has m e j h) ∙ ap (λ (l : Key). same_key l k) q ∙ same_key_refl k)

  pub none_seek : (m : ℕ) → ((j : ℕ) → j < m → K j ≡ k → ⊥) → first has m ≡ None
  none_seek m n = go (first has m) refl
    where
      go : (f : Option ℕ) → first has m ≡ f → f ≡ None
      go (Some j) e = absurd (n j (seek_at m j e).0 (seek_at m j e).1)
      go None e = refl

  -- row j is the only one that has the key
  pub only_seek : (m j : ℕ) → j < m → K j ≡ k → ((i : ℕ) → i < m → K i ≡ k → i ≡ j) → first has m ≡ Some j
  only_seek m j h q only = go (first has m) refl
    where
      go : (f : Option ℕ) → first has m ≡ f → f ≡ Some j
      go (Some i) e = ap Some (only i (seek_at m i e).0 (seek_at m i e).1)
      go None e = absurd (seek_none m e j h q)

  pub seek_past : (m : ℕ) → (K m ≡ k → ⊥) → first has (suc m) ≡ first has m
  seek_past m n = first_past has m (same_key_ne (K m) k n)

-- ---- what a number says

pub mate_later : (j odd : ℕ) → odd < 2 → mate_of (2 * (j + 1) + odd) ≡ Later j odd
mate_later j odd h =
    let e : 2 * (j + 1) + odd ≡ suc (suc (2 * j + odd)) = omega arith in
    let d : (2 * j + odd) / 2 ≡ j = omega arith in
    let o : (2 * j + odd) % 2 ≡ odd = omega arith in
    ap mate_of e ∙ ap₂ Later d o

-- the other of two parities
other_odd : (odd : ℕ) → odd < 2 → is_odd (1 - odd) ≡ not (is_odd odd)
other_odd zero h = refl
other_odd (suc zero) h = refl
other_odd (suc (suc n)) h = absurd (omega arith)

-- what is said of a row stays so while its key stays, and its partner's row if it is met
pub told_same : (x : Axis) (w : ℕ) (ws vs : List ℕ) (m l k : ℕ) → key_at (2 * w) vs k ≡ key_at (2 * w) ws k
    → (met_by x (key_at (2 * w) ws k) ≡ true → partner_row w x vs l k ≡ partner_row w x ws m k) → (t : Mate) → Told x w ws m k t → Told x w vs l k t
told_same x w ws vs m l k e p Done h = λ a. let b = ap (met_by x) (sym e) ∙ a in subst (NotAfter k) (sym (p b)) (h b)
told_same x w ws vs m l k e p Lone h = (ap (met_by x) e ∙ h.0, p h.0 ∙ h.1)
told_same x w ws vs m l k e p (Later j odd) h = (ap (met_by x) e ∙ h.0, p h.0 ∙ h.1, h.2, h.3 ∙ ap (odd_y w) (sym e))

-- ---- what a walk says

pub none_is : (o : Option ℕ) {b : Bool} → b ≡ is_some o → b ≡ false → o ≡ None
none_is (Some j) e q = absurd (false≢true (sym q ∙ e))
none_is None e q = refl

module _ (s : Sought) (w : ℕ) (ws : List ℕ) (m buckets : ℕ) (ix : List ℕ) (i b : ℕ) (L : Linked m buckets ix) where
  abbrev sought : Key
  sought = sought_by w s (key_at (2 * w) ws i)

  abbrev test : ℕ → Bool
  test j = eqb (L.place j) b && same_key (key_at (2 * w) ws j) sought

  pub walked_none : {r : Option ℕ} → Walked s w ws m buckets ix i b r → r ≡ None → (j : ℕ) → j < m → L.place j ≡ b → key_at (2 * w) ws j ≡ sought → ⊥
  walked_none W z j h p q =
      false≢true (sym (first_nothing test m (sym (W.found L) ∙ z) j h)
      ∙ ap₂ ◌&&◌ (eq-eqb (L.place j) b p) (ap (λ (l : Key). same_key l sought) q ∙ same_key_refl sought))

  pub walked_at : (j : ℕ) {r : Option ℕ} → Walked s w ws m buckets ix i b r → r ≡ Some j → (j < m) × (key_at (2 * w) ws j ≡ sought)
  walked_at j W e =
      let f = first_at test m j (sym (W.found L) ∙ e) in
      (f.0, same_key_eq (key_at (2 * w) ws j) sought (and_true (eqb (L.place j) b) (same_key (key_at (2 * w) ws j) sought) f.1).1)

-- ---- an index that is the same up to a place

chained_same : (f : ℕ → ℕ) (m buckets : ℕ) (ix vs : List ℕ) → ((p : ℕ) → p < buckets + m → get_or vs p 0 ≡ get_or ix p 0) → Chained f m buckets ix → Chained f m buckets vs
chained_same f m buckets ix vs same C = record {
  heads = λ b h. same b (omega arith) ∙ C.heads b h;
  nexts = λ i h u. same (buckets + i) (omega arith) ∙ C.nexts i h u;
}

-- ---- the steps

module _ (x : Axis) (w : ℕ) (ws : List ℕ) (n m buckets : ℕ) (ix : List ℕ) (on : on_key w x ≡ true) (here : m < n) (fits : n * (2 * w) ≤ length ws)
    (S : Pairing x w ws n m buckets ix) where
  abbrev K : ℕ → Key
  K = key_at (2 * w) ws

  abbrev P : Key → Key
  P = partner_by w x

  abbrev Met : ℕ → Type 0
  Met k = met_by x (K k) ≡ true

  abbrev home : Key → ℕ
  home k = bucket_of buckets (class_of w (Partner x) k)

  back : (k : Key) → P (P k) ≡ k
  back k = partner_back w x k

  -- a key that is another's partner's is met alike
  met_mate : (k l : Key) → k ≡ P l → met_by x l ≡ true → met_by x k ≡ true
  met_mate k l e h = ap (met_by x) e ∙ partner_met w x l on ∙ h

  swap : (k l : Key) → k ≡ P l → l ≡ P k
  swap k l e = sym (back l) ∙ ap P (sym e)

  long : length (K m) ≡ 2 * w
  long = length_key (2 * w) ws m (let r = row_before (2 * w) here in omega arith)

  not_own : K m ≡ P (K m) → ⊥
  not_own e = partner_moves w x (K m) on long (sym e)

  -- rows that are met and have one key are one row
  one_row : (k l : ℕ) → k < m → l < m → Met k → K k ≡ K l → k ≡ l
  one_row k l hk hl h e = ⊎_elim
      (λ (a : k < l). absurd (S.apart k l a hl h e))
      (λ (a : l ≤ k). ⊎_elim (λ (q : l ≡ k). sym q) (λ (b : l < k). absurd (S.apart l k b hk (ap (met_by x) (sym e) ∙ h) (sym e))) (eq-or-lt_of_le a))
      (lt_or_le k l)

  -- what is said of each row below m and of row m
  each : (Q : ℕ → Type 0) → ((k : ℕ) → k < m → Q k) → Q m → (k : ℕ) → k < suc m → Q k
  each Q f q k h = ⊎_elim (λ (e : k ≡ m). subst Q (sym e) q) (λ (l : k < m). f k l) (eq-or-lt_of_le (le_of_suc-le-suc h))

  -- the places of the rows below m as they are, and row m in bucket b
  abbrev put : ℕ → ℕ → ℕ
  put b = placed S.links.place m b

  before : (b : ℕ) → Chained (put b) m buckets ix
  before b = chained_ext S.links.place (put b) m buckets ix (λ j h. placed_before S.links.place m b j h) S.links.chained

  -- Row m added, in bucket b: it is apart from the rows before it, and is in the bucket of its key unless its partner is before it.
  more : (b : ℕ) (vs : List ℕ) → length vs ≡ length ix → Chained (put b) (suc m) buckets vs
      → ((k : ℕ) → k < m → Told x w ws (suc m) k (mate_of (code_at buckets n vs k)))
      → Told x w ws (suc m) m (mate_of (code_at buckets n vs m))
      → ((k : ℕ) → k < m → Met k → K k ≡ K m → ⊥)
      → (Met m → partner_row w x ws m m ≡ None → b ≡ home (K m))
      → Pairing x w ws n (m + 1) buckets vs
  more b vs l C old new apart file = subst (λ (i : ℕ). Pairing x w ws n i buckets vs) (sym (add-one m)) (record {
    room = let r = S.room in omega arith;
    links = record { some = S.links.some; few = S.links.few; room = let r = S.room in omega arith; place = put b; chained = C };
    mates = each (λ (k : ℕ). Told x w ws (suc m) k (mate_of (code_at buckets n vs k))) old new;
    apart = λ k l a b h e. each (λ (j : ℕ). k < j → K k ≡ K j → ⊥) (λ j g c q. S.apart k j c g h q) (λ c q. apart k c h q) l b a e;
    filed = each (λ (k : ℕ). Met k → partner_row w x ws k k ≡ None → put b k ≡ home (K k))
        (λ k h a e. sym (placed_before S.links.place m b k h) ∙ S.filed k h a e)
        (λ a e. placed_here S.links.place m b ∙ file a e);
  })

  -- row m in no chain
  skipped : Chained (put buckets) (suc m) buckets ix
  skipped = chained_skip (put buckets) m buckets ix (before buckets) (let e = placed_here S.links.place m buckets in omega arith)

  -- what is said of a row before row m, whose number stays, stays so if row m is not its partner
  stays : (vs : List ℕ) (k : ℕ) → k < m → code_at buckets n vs k ≡ code_at buckets n ix k → (Met k → K m ≡ P (K k) → ⊥)
      → Told x w ws (suc m) k (mate_of (code_at buckets n vs k))
  stays vs k h e d =
      subst (λ (c : ℕ). Told x w ws (suc m) k (mate_of c)) (sym e)
      (told_same x w ws ws m (suc m) k refl (λ a. seek_past K (P (K k)) m (d a)) (mate_of (code_at buckets n ix k)) (S.mates k h))

  -- ---- the number of row m set to 0: nothing is to be done at it

  abbrev zeroed : List ℕ
  zeroed = passed n m buckets ix

  length_zeroed : length zeroed ≡ length ix
  length_zeroed = length-set ix (buckets + n + m) 0

  zeroed_other : (p : ℕ) → (p ≡ buckets + n + m → ⊥) → get_or zeroed p 0 ≡ get_or ix p 0
  zeroed_other p d = get_or-set_other ix (buckets + n + m) p 0 0 d

  zeroed_here : code_at buckets n zeroed m ≡ 0
  zeroed_here = get_or-set_same ix (buckets + n + m) 0 0 (let l = S.room in omega arith)

  -- ---- a row that is not met

  pub pairing_unmet : met_by x (K m) ≡ false → Pairing x w ws n (m + 1) buckets (passed n m buckets ix)
  pairing_unmet e =
      more buckets zeroed length_zeroed (chained_same (put buckets) (suc m) buckets ix zeroed (λ p h. zeroed_other p (λ q. omega arith)) skipped)
      (λ k h. stays zeroed k h (zeroed_other (buckets + n + k) (λ q. omega arith)) (λ a q. unmet (met_mate (K m) (K k) q a)))
      (subst (λ (c : ℕ). Told x w ws (suc m) m (mate_of c)) (sym zeroed_here) (λ a. absurd (unmet a)))
      (λ k h a q. unmet (ap (met_by x) (sym q) ∙ a))
      (λ a. absurd (unmet a))
    where
      unmet : met_by x (K m) ≡ true → ⊥
      unmet a = false≢true (sym e ∙ a)

  -- ---- a row whose partner, row r, is before it and has none yet

  module _ (met : Met m) (r : ℕ) (hr : r < m) (mate : K r ≡ P (K m)) (code : code_at buckets n ix r ≡ 1)
      (odd : ℕ) (bit : odd < 2) (own : is_odd odd ≡ odd_y w (K m)) where
    abbrev sent : ℕ
    sent = 2 * (m + 1) + (1 - odd)

    vs : List ℕ
    vs = joined (buckets + n) m r odd ix

    length_vs : length vs ≡ length ix
    unfolding vs
    length_vs = length-set zeroed (buckets + n + r) sent ∙ length_zeroed

    at_other : (p : ℕ) → (p ≡ buckets + n + r → ⊥) → (p ≡ buckets + n + m → ⊥) → get_or vs p 0 ≡ get_or ix p 0
    unfolding vs
    at_other p a b = get_or-set_other zeroed (buckets + n + r) p sent 0 a ∙ zeroed_other p b

    at_mate : code_at buckets n vs r ≡ sent
    unfolding vs
    at_mate = get_or-set_same zeroed (buckets + n + r) sent 0 (let l = S.room in let g = length_zeroed in omega arith)

    at_row : code_at buckets n vs m ≡ 0
    unfolding vs
    at_row = get_or-set_other zeroed (buckets + n + r) (buckets + n + m) sent 0 (λ e. omega arith) ∙ zeroed_here

    mate_met : Met r
    mate_met = met_mate (K r) (K m) mate met

    -- row r has no partner among the rows before row m
    alone : partner_row w x ws m r ≡ None
    alone = (subst (λ (c : ℕ). Told x w ws m r (mate_of c)) code (S.mates r hr)).1

    -- row m is row r's partner, and row r is row m's
    found : partner_row w x ws (suc m) r ≡ Some m
    found = first_here (has K (P (K r))) m alone (ap (same_key (K m)) (sym (swap (K r) (K m) mate)) ∙ same_key_refl (K m))

    finds : partner_row w x ws (suc m) m ≡ Some r
    finds = seek_past K (P (K m)) m not_own ∙ only_seek K (P (K m)) m r hr mate (λ i h e. one_row i r h hr (met_mate (K i) (K m) e met) (e ∙ sym mate))

    other : is_odd (1 - odd) ≡ odd_y w (K r)
    other = other_odd odd bit ∙ ap not own ∙ sym (partner_odd w x on (K m) long met) ∙ ap (odd_y w) (sym mate)

    told_mate : Told x w ws (suc m) r (mate_of (code_at buckets n vs r))
    told_mate =
        let e : mate_of (code_at buckets n vs r) ≡ Later m (1 - odd) = ap mate_of at_mate ∙ mate_later m (1 - odd) (omega arith) in
        subst (Told x w ws (suc m) r) (sym e) (mate_met, found, hr, other)

    pub pairing_joined : Pairing x w ws n (m + 1) buckets (joined (buckets + n) m r odd ix)
    unfolding vs
    pairing_joined =
        more buckets vs length_vs (chained_same (put buckets) (suc m) buckets ix vs (λ p h. at_other p (λ e. omega arith) (λ e. omega arith)) skipped)
        (λ k h. ⊎_elim
        (λ (e : k ≡ r). subst (λ (j : ℕ). Told x w ws (suc m) j (mate_of (code_at buckets n vs j))) (sym e) told_mate)
        (λ (d : k ≡ r → ⊥).
        stays vs k h (at_other (buckets + n + k) (λ e. d (omega arith)) (λ e. omega arith)) (λ a q. d (one_row k r h hr a (swap (K m) (K k) q ∙ sym mate))))
        (eq_or_ne k r))
        (subst (λ (c : ℕ). Told x w ws (suc m) m (mate_of c)) (sym at_row) (λ a. subst (NotAfter m) (sym finds) (omega arith)))
        (λ k h a q. seek_none K (P (K r)) m alone k h (q ∙ swap (K r) (K m) mate))
        (λ a e. absurd (seek_none K (P (K m)) m e r hr mate))

  -- ---- a row that is the first of its pair

  module _ (met : Met m) (b : ℕ) (eb : b ≡ home (K m)) (inside : b < buckets)
      (no-mate : (j : ℕ) → j < m → S.links.place j ≡ b → K j ≡ P (K m) → ⊥) (no_same : (j : ℕ) → j < m → S.links.place j ≡ b → K j ≡ K m → ⊥) where
    home_mate : (k : Key) → home (P k) ≡ home k
    home_mate k = ap (bucket_of buckets) (class_sought w (Partner x) k)

    -- no row of the chain is of its pair
    none_linked : (j : ℕ) → j < m → S.links.place j ≡ home (K j) → (K j ≡ K m) ⊎ (K j ≡ P (K m)) → ⊥
    none_linked j h p = ⊎_elim
        (λ (q : K j ≡ K m). no_same j h (p ∙ ap home q ∙ sym eb) q)
        (λ (q : K j ≡ P (K m)). no-mate j h (p ∙ ap home q ∙ home_mate (K m) ∙ sym eb) q)

    turned : (k l : Key) → k ≡ P l → (l ≡ K m) ⊎ (l ≡ P (K m)) → (k ≡ K m) ⊎ (k ≡ P (K m))
    turned k l e = ⊎_elim (λ (q : l ≡ K m). inr (e ∙ ap P q)) (λ (q : l ≡ P (K m)). inl (e ∙ ap P q ∙ back (K m)))

    -- nor is any other row before it: the first of its pair would be in the chain
    none_before : (k : ℕ) → k < m → Met k → (K k ≡ K m) ⊎ (K k ≡ P (K m)) → ⊥
    none_before k h a c = go (partner_row w x ws k k) refl
      where
        go : (f : Option ℕ) → partner_row w x ws k k ≡ f → ⊥
        go None e = none_linked k h (S.filed k h a e) c
        go (Some r) e =
            let hr = (seek_at K (P (K k)) k r e).0 in
            let q : K r ≡ P (K k) = (seek_at K (P (K k)) k r e).1 in
            let lr : r < m = omega arith in
            let met-r = met_mate (K r) (K k) q a in
            let lone = none_seek K (P (K r)) r (λ j hj ej. S.apart j k (omega arith) h (met_mate (K j) (K r) ej met-r) (ej ∙ sym (swap (K r) (K k) q))) in
            none_linked r lr (S.filed r lr met-r lone) (turned (K r) (K k) q c)

    abbrev linked : List ℕ
    linked = pushed m buckets b ix

    vs' : List ℕ
    vs' = begun n m buckets b ix

    room_here : buckets + m < length ix
    room_here = let l = S.room in omega arith

    chain : Chained (put b) (suc m) buckets linked
    chain =
        let e = placed_here S.links.place m b in
        subst (λ (c : ℕ). Chained (put b) (suc m) buckets (pushed m buckets c ix)) e
        (chained_more (put b) m buckets ix (before b) (subst (λ (c : ℕ). c < buckets) (sym e) inside) room_here)

    length_linked : length linked ≡ length ix
    length_linked = length-set (set ix (buckets + m) (get_or ix b 0)) b (m + 1) ∙ length-set ix (buckets + m) (get_or ix b 0)

    length_begun : length vs' ≡ length ix
    unfolding vs'
    length_begun = length-set linked (buckets + n + m) 1 ∙ length_linked

    begun_code : (k : ℕ) → k < m → code_at buckets n vs' k ≡ code_at buckets n ix k
    unfolding vs'
    begun_code k h =
        get_or-set_other linked (buckets + n + m) (buckets + n + k) 1 0 (λ e. omega arith)
        ∙ get_or-set_other (set ix (buckets + m) (get_or ix b 0)) b (buckets + n + k) (m + 1) 0 (λ e. omega arith)
        ∙ get_or-set_other ix (buckets + m) (buckets + n + k) (get_or ix b 0) 0 (λ e. omega arith)

    begun_here : code_at buckets n vs' m ≡ 1
    unfolding vs'
    begun_here = get_or-set_same linked (buckets + n + m) 1 0 (let l = S.room in let g = length_linked in omega arith)

    pub pairing_begun : Pairing x w ws n (m + 1) buckets (begun n m buckets b ix)
    unfolding vs'
    pairing_begun =
        more b vs' length_begun
        (chained_same (put b) (suc m) buckets linked vs' (λ p h. get_or-set_other linked (buckets + n + m) p 1 0 (λ e. omega arith)) chain)
        (λ k h. stays vs' k h (begun_code k h) (λ a q. none_before k h a (inr (swap (K m) (K k) q))))
        (subst (λ (c : ℕ). Told x w ws (suc m) m (mate_of c)) (sym begun_here)
        (met, none_seek K (P (K m)) (suc m) (each (λ (j : ℕ). K j ≡ P (K m) → ⊥) (λ j h q. none_before j h (met_mate (K j) (K m) q met) (inr q)) not_own)))
        (λ k h a q. none_before k h a (inl q))
        (λ a e. eb)

-- ---- the ends of the pass

pub pairing_none : (x : Axis) (w : ℕ) (ws : List ℕ) (n buckets : ℕ) (ix : List ℕ) → Linked 0 buckets ix → buckets + n + n ≤ length ix → Pairing x w ws n 0 buckets ix
pairing_none x w ws n buckets ix L room = record {
  room = room;
  links = L;
  mates = λ k h. absurd (not-suc-le-zero h);
  apart = λ k l a b. absurd (not-suc-le-zero b);
  filed = λ k h. absurd (not-suc-le-zero h);
}

pub pairing_table : (x : Axis) (w : ℕ) (ws : List ℕ) (n buckets : ℕ) (ix : List ℕ) → on_key w x ≡ true → Pairing x w ws n n buckets ix → Table x w ws n 0 buckets ix
pairing_table x w ws n buckets ix on S = record { room = S.room; on = on; mates = λ k a h. S.mates k h; apart = λ k l a b h. S.apart k l b h }
