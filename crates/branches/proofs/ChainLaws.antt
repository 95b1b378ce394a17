-- Laws of chains, over any function f that sends rows to buckets: a row added, and a search that goes down a chain. Assumes nothing.
use mathlib.Core.Path.{◌≡◌, refl, sym, ap, ◌∙◌, subst}
use mathlib.Core.Bool.{Bool, true, false, cond}
use mathlib.Core.Logic.{⊎_elim}
use mathlib.Core.List.{List}
use Prim.Native.Nat.{ℕ, zero, suc, ◌+◌, ◌≤◌, ◌<◌}
use native.Mathlib.Nat.{eq-or-lt_of_le, le_of_suc-le-suc, not-suc-le-zero}
use native.Mathlib.Omega.{arith}
use lib.Dec.{eqb}
use lib.ListN.{length, get_or, set, length-set}
use lib.Seq.{get_or-set_same, get_or-set_other}
use borrow.Author.Tests.{eq-eqb, ne_eqb}
use Rattle.std.specs.Prelude.{Option, Some, None}
use Rattle.terms.specs.Branch.{first, or_at}
use Rattle.terms.proofs.CaseLaws.{bool_cases, eq_or_ne}
use Rattle.branches.specs.Chains.{last, Chained, pushed}

module _ (f : ℕ → ℕ) where
  last_here : (k b : ℕ) → f k ≡ b → last f (suc k) b ≡ suc k
  unfolding last
  last_here k b e = rw (eq-eqb (f k) b e)

  last_other : (k b : ℕ) → (f k ≡ b → ⊥) → last f (suc k) b ≡ last f k b
  unfolding last
  last_other k b n = rw (ne_eqb (f k) b n)

  pub last_le : (k b : ℕ) → last f k b ≤ k
  unfolding last
  last_le zero b = omega arith
  last_le (suc k) b =
      let l = last_le k b in
      ⊎_elim (λ e. let q = last_here k b e in omega arith) (λ n. let q = last_other k b n in omega arith) (eq_or_ne (f k) b)

  -- nothing between the last one and k is sent to b
  last_past : (k b j : ℕ) → last f k b ≤ j → j < k → f j ≡ b → ⊥
  unfolding last
  last_past zero b j l h e = not-suc-le-zero h
  last_past (suc k) b j l h e = ⊎_elim
      (λ (q : f k ≡ b). let z = last_here k b q in omega arith)
      (λ (n : f k ≡ b → ⊥).
      let z = last_other k b n in
      ⊎_elim (λ (q : j ≡ k). n (ap f (sym q) ∙ e)) (λ (g : j < k). last_past k b j (subst (λ (m : ℕ). m ≤ j) z l) g e) (eq-or-lt_of_le (le_of_suc-le-suc h)))
      (eq_or_ne (f k) b)

  -- the last one, if there is one, is sent to b
  pub last_is : (k b r : ℕ) → last f k b ≡ suc r → f r ≡ b
  unfolding last
  last_is zero b r q = absurd (omega arith)
  last_is (suc k) b r q = ⊎_elim
      (λ (e : f k ≡ b). let z = last_here k b e in let s : k ≡ r = omega arith in ap f (sym s) ∙ e)
      (λ (n : f k ≡ b → ⊥). last_is k b r (sym (last_other k b n) ∙ q))
      (eq_or_ne (f k) b)

-- ---- chains of other functions that agree

last_ext : (f g : ℕ → ℕ) (n b : ℕ) → ((i : ℕ) → i < n → f i ≡ g i) → last f n b ≡ last g n b
unfolding last
last_ext f g zero b h = refl
last_ext f g (suc n) b h = λ z. cond (eqb (h n (omega arith) z) b) (suc n) (last_ext f g n b (λ i l. h i (omega arith)) z)

pub chained_ext : (f g : ℕ → ℕ) (n buckets : ℕ) (ix : List ℕ) → ((i : ℕ) → i < n → f i ≡ g i) → Chained f n buckets ix → Chained g n buckets ix
chained_ext f g n buckets ix e held = record {
  heads = λ b h. held.heads b h ∙ last_ext f g n b e;
  nexts = λ i h u. held.nexts i h (subst (λ (x : ℕ). x < buckets) (sym (e i h)) u) ∙ last_ext f g i (f i) (λ j l. e j (omega arith)) ∙ ap (last g i) (e i h);
}

-- ---- no rows, and a row more

pub chained_none : (f : ℕ → ℕ) (buckets : ℕ) (ix : List ℕ) → ((b : ℕ) → b < buckets → get_or ix b 0 ≡ 0) → Chained f 0 buckets ix
unfolding last
chained_none f buckets ix z = record { heads = z; nexts = λ i h. absurd (not-suc-le-zero h) }

module _ (f : ℕ → ℕ) (n buckets : ℕ) (ix : List ℕ) (held : Chained f n buckets ix) (inside : f n < buckets) (room : buckets + n < length ix) where
  abbrev added : List ℕ
  added = pushed n buckets (f n) ix

  at_head : get_or added (f n) 0 ≡ n + 1
  at_head = get_or-set_same (set ix (buckets + n) (get_or ix (f n) 0)) (f n) (n + 1) 0 (simp length-set (omega arith))

  at_other : (i : ℕ) → (i ≡ f n → ⊥) → (i ≡ buckets + n → ⊥) → get_or added i 0 ≡ get_or ix i 0
  at_other i p q = get_or-set_other (set ix (buckets + n) (get_or ix (f n) 0)) (f n) i (n + 1) 0 p ∙ get_or-set_other ix (buckets + n) i (get_or ix (f n) 0) 0 q

  at_next : get_or added (buckets + n) 0 ≡ get_or ix (f n) 0
  at_next =
      get_or-set_other (set ix (buckets + n) (get_or ix (f n) 0)) (f n) (buckets + n) (n + 1) 0 (λ e. omega arith)
      ∙ get_or-set_same ix (buckets + n) (get_or ix (f n) 0) 0 room

  pub chained_more : Chained f (suc n) buckets (pushed n buckets (f n) ix)
  chained_more = record {
    heads = λ b h. ⊎_elim
        (λ (e : f n ≡ b). ap (λ (i : ℕ). get_or added i 0) (sym e) ∙ (at_head ∙ omega arith) ∙ sym (last_here f n b e))
        (λ (d : f n ≡ b → ⊥). at_other b (λ e. d (sym e)) (λ e. omega arith) ∙ held.heads b h ∙ sym (last_other f n b d))
        (eq_or_ne (f n) b);
    nexts = λ i h u. ⊎_elim
        (λ (e : i ≡ n). subst (λ (m : ℕ). get_or added (buckets + m) 0 ≡ last f m (f m)) (sym e) (at_next ∙ held.heads (f n) inside))
        (λ (l : i < n). at_other (buckets + i) (λ e. omega arith) (λ e. omega arith) ∙ held.nexts i l u)
        (eq-or-lt_of_le (le_of_suc-le-suc h));
  }

-- a row that is in no bucket
pub chained_skip : (f : ℕ → ℕ) (n buckets : ℕ) (ix : List ℕ) → Chained f n buckets ix → buckets ≤ f n → Chained f (suc n) buckets ix
chained_skip f n buckets ix held out = record {
  heads = λ b h. held.heads b h ∙ sym (last_other f n b (λ e. omega arith));
  nexts = λ i h u. ⊎_elim
      (λ (e : i ≡ n). absurd (let q = ap f e in omega arith))
      (λ (l : i < n). held.nexts i l u)
      (eq-or-lt_of_le (le_of_suc-le-suc h));
}

-- ---- a search down a chain, for a test that only rows of the bucket pass

abbrev pub or_found : Option ℕ → Option ℕ → Option ℕ
or_found (Some i) g = Some i
or_found None g = g

or_nothing : (g : Option ℕ) → or_found g None ≡ g
or_nothing (Some i) = refl
or_nothing None = refl

or_taken : (g : Option ℕ) (b : Bool) (i : ℕ) (m : Option ℕ) → or_found (or_at g b i) m ≡ or_found g (cond b (Some i) m)
or_taken (Some j) b i m = refl
or_taken None true i m = refl
or_taken None false i m = refl

-- rows that fail are passed over
first_skip : (p : ℕ → Bool) (m k : ℕ) → m ≤ k → ((j : ℕ) → m ≤ j → j < k → p j ≡ false) → first p k ≡ first p m
unfolding first
first_skip p m zero h n = let e : zero ≡ m = omega arith in ap (first p) e
first_skip p m (suc k) h n = ⊎_elim
    (λ (e : m ≡ suc k). ap (first p) (sym e))
    (λ (l : m < suc k).
    let b : m ≤ k = le_of_suc-le-suc l in
    let z : p k ≡ false = n k b (omega arith) in
    ap (λ (t : Bool). or_at (first p k) t k) z ∙ or_false (first p k) k ∙ first_skip p m k b (λ j a c. n j a (omega arith)))
    (eq-or-lt_of_le h)
  where
    or_false : (g : Option ℕ) (k : ℕ) → or_at g false k ≡ g
    or_false (Some i) k = refl
    or_false None k = refl

module _ (f : ℕ → ℕ) (p : ℕ → Bool) (b : ℕ) (alike : (j : ℕ) → p j ≡ true → f j ≡ b) where
  fails : (j : ℕ) → (f j ≡ b → ⊥) → p j ≡ false
  fails j n = ⊎_elim (λ (e : p j ≡ true). absurd (n (alike j e))) (λ (e : p j ≡ false). e) (bool_cases (p j))

  skip : (k : ℕ) → first p k ≡ first p (last f k b)
  skip k = first_skip p (last f k b) k (last_le f k b) (λ j l h. fails j (last_past f k b j l h))

  pub search_starts : (n : ℕ) → first p n ≡ or_found (first p (last f n b)) None
  search_starts n = skip n ∙ sym (or_nothing (first p (last f n b)))

  pub search_goes : (i : ℕ) (m g : Option ℕ) → g ≡ or_found (first p (suc i)) m → g ≡ or_found (first p (last f i b)) (cond (p i) (Some i) m)
  unfolding first
  search_goes i m g e = e ∙ or_taken (first p i) (p i) i m ∙ ap (λ (x : Option ℕ). or_found x (cond (p i) (Some i) m)) (skip i)
