-- Laws of the index: a row added, keys that stay, and what a search by it finds. Assumes nothing.
use mathlib.Core.Path.{◌≡◌, refl, sym, ap, ap₂, ◌∙◌, subst}
use mathlib.Core.Bool.{Bool, true, false, cond, ◌&&◌, false≢true}
use mathlib.Core.Logic.{⊎_elim}
use mathlib.Core.List.{List, ◌++◌}
use Prim.Native.Nat.{ℕ, suc, ◌+◌, ◌*◌, ◌≤◌, ◌<◌}
use native.Mathlib.Nat.{not-suc-le-zero, sub-zero}
use native.Mathlib.Omega.{arith}
use native.Mathlib.Numerals.{add-one}
use lib.Dec.{eqb, ltb}
use lib.ListN.{length, get_or, take, drop, replicate, length-set, length-append, length-drop, length-replicate, get_or-replicate, get_or-append}
use lib.Seq.{length-take-le}
use borrow.Author.Tests.{eq-eqb, lt-ltb, le-ltb}
use Rattle.words.specs.Keys.{Key, same_key}
use Rattle.words.proofs.KeyLaws.{same_key_eq}
use Rattle.std.specs.Prelude.{Option, Some, None}
use Rattle.terms.specs.Branch.{first}
use Rattle.terms.proofs.CaseLaws.{and_true, same_test, lt_or_le}
use Rattle.terms.proofs.FirstLaws.{first_ext}
use Rattle.words.specs.Rows.{key_at}
use Rattle.rows.specs.Cleared.{filled}
use Rattle.branches.specs.declared.Sought.{Sought}
use Rattle.branches.specs.Probe.{sought_by, files}
use Rattle.branches.specs.Chains.{class_of, bucket_of, Chained, Linked, pushed, Filed, Indexed, Spare, Walked}
use Rattle.branches.proofs.ProbeLaws.{class_sought}
use Rattle.branches.proofs.ChainLaws.{chained_none, chained_ext, chained_more, chained_skip}
use Rattle.branches.proofs.HashLaws.{bucket_lt}
use Rattle.branches.proofs.WalkLaws.{in_bucket}

-- ---- the room

pub spare_less : {m n : ℕ} {buckets : Option ℕ} {long : ℕ} → m ≤ n → Spare n buckets long → Spare m buckets long
spare_less {m} {n} {buckets} {long} h s = record {
  some = s.some;
  few = s.few;
  counted = λ b e. let c = s.counted b e in omega arith;
  room = λ b e. let r = s.room b e in omega arith;
}

-- ---- a row more

-- the rows below n as before, and the others in bucket b
abbrev pub placed : (ℕ → ℕ) → ℕ → ℕ → ℕ → ℕ
placed f n b j = cond (ltb j n) (f j) b

pub placed_before : (f : ℕ → ℕ) (n b j : ℕ) → j < n → f j ≡ placed f n b j
placed_before f n b j h = ap (λ (t : Bool). cond t (f j) b) (sym (lt-ltb j n h))

pub placed_here : (f : ℕ → ℕ) (n b : ℕ) → placed f n b n ≡ b
placed_here f n b = ap (λ (t : Bool). cond t (f n) b) (le-ltb n n (omega arith))

module _ (n buckets : ℕ) (ix : List ℕ) (L : Linked n buckets ix) (b : ℕ) where
  abbrev f : ℕ → ℕ
  f = placed L.place n b

  before : Chained f n buckets ix
  before = chained_ext L.place f n buckets ix (λ j h. placed_before L.place n b j h) L.chained

  linked_more : b < buckets → buckets + n < length ix → Linked (n + 1) buckets (pushed n buckets b ix)
  linked_more h r =
      let e = placed_here L.place n b in
      let x = chained_more f n buckets ix before (subst (λ (c : ℕ). c < buckets) (sym e) h) r in
      let y = subst (λ (c : ℕ). Chained f (suc n) buckets (pushed n buckets c ix)) e x in
      record {
        some = L.some;
        few = L.few;
        room = simp length-set (omega arith);
        place = f;
        chained = subst (λ (m : ℕ). Chained f m buckets (pushed n buckets b ix)) (sym (add-one n)) y;
      }

  linked_skip : buckets ≤ b → buckets + n < length ix → Linked (n + 1) buckets ix
  linked_skip h r =
      let e = placed_here L.place n b in
      let y = chained_skip f n buckets ix before (subst (λ (c : ℕ). buckets ≤ c) (sym e) h) in
      record { some = L.some; few = L.few; room = omega arith; place = f; chained = subst (λ (m : ℕ). Chained f m buckets ix) (sym (add-one n)) y }

module _ (s : Sought) (w : ℕ) (ws : List ℕ) (n buckets : ℕ) (ix : List ℕ) (F : Filed s w ws n buckets ix) where
  abbrev key : ℕ → Key
  key = key_at (2 * w) ws

  abbrev home : ℕ → ℕ
  home j = bucket_of buckets (class_of w s (key j))

  -- the rows below n stay where they are filed
  filed_before : (b j : ℕ) → j < n → files w s (key j) ≡ true → placed F.links.place n b j ≡ home j
  filed_before b j h e = sym (placed_before F.links.place n b j h) ∙ F.filed j h e

  last_row : (j : ℕ) → j < n + 1 → n ≤ j → j ≡ n
  last_row j a b = omega arith

  filed_more : files w s (key n) ≡ true → buckets + n < length ix → Filed s w ws (n + 1) buckets (pushed n buckets (home n) ix)
  unfolding linked_more
  filed_more e r = record {
    links = linked_more n buckets ix F.links (home n) (bucket_lt buckets (class_of w s (key n)) F.links.some) r;
    filed = λ j h y. ⊎_elim
        (λ (l : j < n). filed_before (home n) j l y)
        (λ (l : n ≤ j). subst (λ (m : ℕ). placed F.links.place n (home n) m ≡ home m) (sym (last_row j h l)) (placed_here F.links.place n (home n)))
        (lt_or_le j n);
  }

  filed_skip : files w s (key n) ≡ false → buckets + n < length ix → Filed s w ws (n + 1) buckets ix
  unfolding linked_skip
  filed_skip e r = record {
    links = linked_skip n buckets ix F.links buckets (omega arith) r;
    filed = λ j h y. ⊎_elim
        (λ (l : j < n). filed_before buckets j l y)
        (λ (l : n ≤ j). absurd (false≢true (sym e ∙ ap (λ (m : ℕ). files w s (key m)) (sym (last_row j h l)) ∙ y)))
        (lt_or_le j n);
  }

-- without buckets
pub index_absent : (s : Sought) (w : ℕ) (ws : List ℕ) (n : ℕ) {buckets : Option ℕ} (ix : List ℕ) → buckets ≡ None → Indexed s w ws n buckets ix
index_absent s w ws n ix e = record { index = λ b h. absurd (none_some (sym e ∙ h)) }
  where
    none_some : {b : ℕ} → ◌≡◌ {A = Option ℕ} None (Some b) → ⊥
    none_some q = cc

-- with the buckets that are there
pub index_some : (s : Sought) (w : ℕ) (ws : List ℕ) (n b : ℕ) {buckets : Option ℕ} (ix : List ℕ) → buckets ≡ Some b → Filed s w ws n b ix → Indexed s w ws n buckets ix
index_some s w ws n b ix e F = record { index = λ c h. let same : b ≡ c = cc in subst (λ (m : ℕ). Filed s w ws n m ix) same F }

module _ (s : Sought) (w : ℕ) (ws : List ℕ) (n b : ℕ) {buckets : Option ℕ} (ix : List ℕ) (I : Indexed s w ws n buckets ix) (room : Spare (n + 1) buckets (length ix))
    (there : buckets ≡ Some b) where
  free : b + n < length ix
  free = let r = room.room b there in omega arith

  pub index_more : {vs : List ℕ} → files w s (key_at (2 * w) ws n) ≡ true → vs ≡ pushed n b (bucket_of b (class_of w s (key_at (2 * w) ws n))) ix
      → Indexed s w ws (n + 1) buckets vs
  index_more {vs} e q = index_some s w ws (n + 1) b vs there (subst (λ (l : List ℕ). Filed s w ws (n + 1) b l) (sym q) (filed_more s w ws n b ix (I.index b there) e free))

  pub index_skip : files w s (key_at (2 * w) ws n) ≡ false → Indexed s w ws (n + 1) buckets ix
  index_skip e = index_some s w ws (n + 1) b ix there (filed_skip s w ws n b ix (I.index b there) e free)

-- ---- no rows

-- the buckets filled with zeros, as the code does it, a part of the memory
module _ (b : ℕ) (ix : List ℕ) (room : b ≤ length ix) where
  part_long : length (take b ix) ≡ b
  part_long = length-take-le b ix room

  pub filled_front : {v : List ℕ} → v ≡ replicate (length (take b ix)) 0 → v ++ drop b ix ≡ filled 0 0 b ix
  unfolding filled
  filled_front e = ap (λ (l : List ℕ). l ++ drop b ix) (e ∙ ap (λ (n : ℕ). replicate n 0) (part_long ∙ sym (sub-zero b)))

  pub long_front : (v : List ℕ) → length v ≡ length (take b ix) → length (v ++ drop b ix) ≡ length ix
  long_front v e = rw (length-append, length-drop, e, part_long) (omega arith)

head_cleared : (ix : List ℕ) (n b : ℕ) → b < n → get_or (filled 0 0 n ix) b 0 ≡ 0
unfolding filled
head_cleared ix n b h =
    ap (λ (m : ℕ). get_or (replicate m 0 ++ drop n ix) b 0) (sub-zero n)
    ∙ get_or-append (replicate n 0) (drop n ix) 0 b (simp length-replicate h) ∙ get_or-replicate n b 0 0 h

pub linked_none : (buckets : ℕ) (ix : List ℕ) {vs : List ℕ} → 0 < buckets → buckets < 4294967296 → buckets ≤ length ix → vs ≡ filled 0 0 buckets ix
    → length vs ≡ length ix → Linked 0 buckets vs
linked_none buckets ix {vs} some few room e l = record {
  some = some;
  few = few;
  room = omega arith;
  place = λ j. buckets;
  chained = chained_none (λ j. buckets) buckets vs (λ b k. ap (λ (v : List ℕ). get_or v b 0) e ∙ head_cleared ix buckets b k);
}

pub index_none : (s : Sought) (w : ℕ) (ws : List ℕ) (n b : ℕ) (ix : List ℕ) {vs : List ℕ} {buckets : Option ℕ} → Spare n buckets (length ix) → buckets ≡ Some b
    → vs ≡ filled 0 0 b ix → length vs ≡ length ix → Indexed s w ws 0 (Some b) vs
index_none s w ws n b ix {vs} room there e l =
    let r = room.room b there in
    index_some s w ws 0 b vs refl (record { links = linked_none b ix (room.some b there) (room.few b there) (omega arith) e l; filed = λ j h. absurd (not-suc-le-zero h) })

-- ---- keys that stay

-- the keys below n are as they were
pub index_kept : (s : Sought) (w n : ℕ) (buckets : Option ℕ) (ws vs ix : List ℕ) → ((j : ℕ) → j < n → key_at (2 * w) vs j ≡ key_at (2 * w) ws j)
    → Indexed s w ws n buckets ix → Indexed s w vs n buckets ix
index_kept s w n buckets ws vs ix same I = record {
  index = λ b p. record {
    links = (I.index b p).links;
    filed = λ j h e. (I.index b p).filed j h (ap (files w s) (sym (same j h)) ∙ e) ∙ ap (λ (k : Key). bucket_of b (class_of w s k)) (sym (same j h));
  };
}

-- ---- what a search finds

module _ (s : Sought) (w : ℕ) (ws : List ℕ) (n buckets : ℕ) (ix : List ℕ) (i : ℕ) (F : Filed s w ws n buckets ix)
    (files-it : files w s (sought_by w s (key_at (2 * w) ws i)) ≡ true) where
  abbrev q : Key
  q = sought_by w s (key_at (2 * w) ws i)

  abbrev test : ℕ → Bool
  test j = same_key (key_at (2 * w) ws j) q

  abbrev place : ℕ → ℕ
  place = F.links.place

  -- a row with the key is in the bucket of row i's own key
  in_bucket_lem : (j : ℕ) → j < n → test j ≡ true → place j ≡ bucket_of buckets (class_of w s (key_at (2 * w) ws i))
  in_bucket_lem j h e =
      let k : key_at (2 * w) ws j ≡ q = same_key_eq (key_at (2 * w) ws j) q e in
      F.filed j h (ap (files w s) k ∙ files-it) ∙ ap (bucket_of buckets) (ap (class_of w s) k ∙ class_sought w s (key_at (2 * w) ws i))

  pub found_one : {b : ℕ} {r : Option ℕ} → b ≡ bucket_of buckets (class_of w s (key_at (2 * w) ws i)) → Walked s w ws n buckets ix i b r → r ≡ first test n
  found_one {b} {r} eb W =
      W.found F.links ∙ first_ext (in_bucket place b test) test n
      (λ j h. same_test (in_bucket place b test j) (test j) (λ e. (and_true (eqb (place j) b) (test j) e).1)
      (λ e. ap₂ ◌&&◌ (eq-eqb (place j) b (in_bucket_lem j h e ∙ sym eb)) e))
