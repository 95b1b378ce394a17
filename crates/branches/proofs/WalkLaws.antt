-- The walk down a chain of an index, for rows that pass a test. Assumes nothing.
use mathlib.Core.Path.{◌≡◌, refl, sym, ap, ◌∙◌, subst}
use mathlib.Core.Bool.{Bool, true, cond, ◌&&◌}
use mathlib.Core.List.{List}
use Prim.Native.Nat.{ℕ, suc, ◌+◌, ◌-◌, ◌≤◌, ◌<◌}
use native.Mathlib.Omega.{arith}
use lib.Dec.{eqb}
use lib.ListN.{get_or}
use borrow.Author.Tests.{eqb-true, eq-eqb}
use Rattle.std.specs.Prelude.{Option, Some, None}
use Rattle.terms.specs.Branch.{first}
use Rattle.terms.proofs.CaseLaws.{and_true}
use Rattle.branches.specs.Chains.{last, Linked}
use Rattle.branches.proofs.ChainLaws.{last_le, last_is, or_found, search_starts, search_goes}

-- a row of bucket b that passes
abbrev pub in_bucket : (ℕ → ℕ) → ℕ → (ℕ → Bool) → ℕ → Bool
in_bucket f b p j = eqb (f j) b && p j

-- Rows from `at` on are done, and `best` is the first of them that is in the bucket and passes.
pub record Walk (f : ℕ → ℕ) (p : ℕ → Bool) (n b at : ℕ) (best : Option ℕ) : Type 0 where
  pub below : at ≤ n
  pub member : (r : ℕ) → at ≡ suc r → f r ≡ b
  pub left : first (in_bucket f b p) n ≡ or_found (first (in_bucket f b p) at) best

module _ (n buckets : ℕ) (ix : List ℕ) (p : ℕ → Bool) (b : ℕ) (inside : b < buckets) (L : Linked n buckets ix) where
  abbrev f : ℕ → ℕ
  f = L.place

  alike : (j : ℕ) → in_bucket f b p j ≡ true → f j ≡ b
  alike j e = eqb-true (f j) b (and_true (eqb (f j) b) (p j) e).0

  pub walk_begins : Walk f p n b (get_or ix b 0) None
  walk_begins =
      subst (λ (at : ℕ). Walk f p n b at None) (sym (L.chained.heads b inside)) (record {
        below = last_le f n b;
        member = λ r q. last_is f n b r q;
        left = search_starts f (in_bucket f b p) b alike n;
      })

  next_is : (j : ℕ) (best : Option ℕ) → Walk f p n b (suc j) best → get_or ix (buckets + j) 0 ≡ last f j b
  next_is j best a =
      let l = a.below in
      let m = a.member j refl in
      L.chained.nexts j (omega arith) (subst (λ (x : ℕ). x < buckets) (sym m) inside) ∙ ap (last f j) m

  goes : (j : ℕ) (best : Option ℕ) → Walk f p n b (suc j) best → Walk f p n b (get_or ix (buckets + j) 0) (cond (p j) (Some j) best)
  goes j best a =
      let l = last_le f j b in
      let m = a.below in
      let e : in_bucket f b p j ≡ p j = ap (λ (t : Bool). t && p j) (eq-eqb (f j) b (a.member j refl)) in
      subst (λ (at : ℕ). Walk f p n b at (cond (p j) (Some j) best)) (sym (next_is j best a)) (record {
        below = omega arith;
        member = λ r q. last_is f j b r q;
        left = search_goes f (in_bucket f b p) b alike j best (first (in_bucket f b p) n) a.left
            ∙ ap (λ (t : Bool). or_found (first (in_bucket f b p) (last f j b)) (cond t (Some j) best)) e;
      })

  pub walk_falls : (at : ℕ) (best : Option ℕ) → 0 < at → Walk f p n b at best → get_or ix (buckets + (at - 1)) 0 < at
  walk_falls at best h a =
      let e : at ≡ suc (at - 1) = omega arith in
      let q = next_is (at - 1) best (subst (λ (m : ℕ). Walk f p n b m best) e a) in
      let l = last_le f (at - 1) b in
      omega arith

  pub walk_goes : (at : ℕ) (best : Option ℕ) → 0 < at → Walk f p n b at best → Walk f p n b (get_or ix (buckets + (at - 1)) 0) (cond (p (at - 1)) (Some (at - 1)) best)
  walk_goes at best h a =
      let e : at ≡ suc (at - 1) = omega arith in
      goes (at - 1) best (subst (λ (m : ℕ). Walk f p n b m best) e a)

pub walk_ends : (f : ℕ → ℕ) (p : ℕ → Bool) (n b at : ℕ) (best : Option ℕ) → Walk f p n b at best → at ≡ 0 → best ≡ first (in_bucket f b p) n
unfolding first
walk_ends f p n b at best a e = sym (a.left ∙ ap (λ (m : ℕ). or_found (first (in_bucket f b p) m) best) e)
