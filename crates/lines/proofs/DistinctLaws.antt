-- A pass over qubits that marks those it has seen tells whether they are below 256 and distinct. Assumes nothing.
use Prim.Native.Nat.{ℕ, ◌<◌, ◌≤◌}
use mathlib.Core.Path.{◌≡◌, refl, sym, ap, ap₂, ◌∙◌}
use mathlib.Core.Logic.{⊎_elim}
use mathlib.Core.Bool.{Bool, true, false, not, ◌&&◌, ◌||◌, and-true, and-false}
use mathlib.Core.List.{List, [], ◌∷◌}
use native.Mathlib.Omega.{arith}
use borrow.Author.Tests.{eqb-true, eqb-false, ltb-true, lt-ltb, le-ltb}
use lib.Dec.{ltb, eqb}
use lib.ListN.{length, get_or, set, replicate, length-set, length-replicate, get_or-replicate, get_or-eq_default}
use lib.Seq.{get_or-set_same, get_or-set_other}
use Rattle.terms.proofs.CaseLaws.{lt_or_le}
use Rattle.ops.specs.Marks.{member}
use Rattle.ops.specs.Task.{every}
use Rattle.lines.specs.TermLines.{all_below, distinct}

-- seen has 256 booleans
unfoldable pub fresh : List Bool → List ℕ → Bool
fresh seen [] = true
fresh seen (q ∷ qs) = ltb q 256 && (not (get_or seen q false) && fresh (set seen q true) qs)

abbrev unseen : List Bool → List ℕ → Bool
unseen seen qs = every (λ q. not (get_or seen q false)) qs

module _ (seen : List Bool) (q : ℕ) (h : q < length seen) where
  unseen_one : (x : ℕ) → not (get_or (set seen q true) x false) ≡ (not (eqb q x) && not (get_or seen x false))
  unseen_one x = go (eqb q x) refl
    where
      go : (b : Bool) → eqb q x ≡ b → not (get_or (set seen q true) x false) ≡ (not b && not (get_or seen x false))
      go true e = ap (λ (y : ℕ). not (get_or (set seen q true) y false)) (sym (eqb-true q x e)) ∙ ap not (get_or-set_same seen q true false h)
      go false e = ap not (get_or-set_other seen q x true false (λ k. eqb-false q x e (sym k)))

  unseen_marked : (qs : List ℕ) → unseen (set seen q true) qs ≡ (not (member q qs) && unseen seen qs)
  unfolding every member
  unseen_marked [] = refl
  unseen_marked (x ∷ qs) = ap₂ ◌&&◌ (unseen_one x) (unseen_marked qs) ∙ bits (eqb q x) (get_or seen x false) (member q qs) (unseen seen qs)
    where
      bits : (b s m u : Bool) → ((not b && not s) && (not m && u)) ≡ (not (b || m) && (not s && u))
      bits true s m u = refl
      bits false true true u = refl
      bits false true false u = refl
      bits false false m u = refl

fresh_is : (seen : List Bool) (qs : List ℕ) → length seen ≡ 256 → fresh seen qs ≡ (all_below 256 qs && (distinct qs && unseen seen qs))
unfolding fresh every distinct
fresh_is seen [] l = refl
fresh_is seen (q ∷ qs) l = go (ltb q 256) refl (fresh_is (set seen q true) qs (length-set seen q true ∙ l))
  where
    bits : (s a d m u : Bool) → (s && (a && (d && (m && u)))) ≡ (a && ((m && d) && (s && u)))
    bits true true true m u = ap (λ (x : Bool). x && u) (sym (and-true m))
    bits true true false m u = ap (λ (x : Bool). x && u) (sym (and-false m))
    bits true false d m u = refl
    bits false true d m u = sym (and-false (m && d))
    bits false false d m u = refl

    go : (b : Bool) → ltb q 256 ≡ b → fresh (set seen q true) qs ≡ (all_below 256 qs && (distinct qs && unseen (set seen q true) qs))
        → (b && (not (get_or seen q false) && fresh (set seen q true) qs))
        ≡ ((b && all_below 256 qs) && ((not (member q qs) && distinct qs) && (not (get_or seen q false) && unseen seen qs)))
    go true e ih =
        let h : q < length seen = omega (arith, l, ltb-true q 256 e) in
        ap (λ (x : Bool). not (get_or seen q false) && x) (ih ∙ ap (λ (x : Bool). all_below 256 qs && (distinct qs && x)) (unseen_marked seen q h qs))
        ∙ bits (not (get_or seen q false)) (all_below 256 qs) (distinct qs) (not (member q qs)) (unseen seen qs)
    go false e ih = refl

-- each place of a list of one value has it, as is the default past the end
pub cleared : {A : Type 0} (n : ℕ) (z : A) (j : ℕ) → get_or (replicate n z) j z ≡ z
cleared n z j = ⊎_elim (get_or-replicate n j z z) (λ h. get_or-eq_default (replicate n z) z (rw (length-replicate n z) h)) (lt_or_le j n)

abbrev pub told : List ℕ → Bool
told qs = all_below 256 qs && distinct qs

unseen_start : (n : ℕ) (qs : List ℕ) → unseen (replicate n false) qs ≡ true
unfolding every
unseen_start n [] = refl
unseen_start n (q ∷ qs) = ap₂ ◌&&◌ (ap not (cleared n false q)) (unseen_start n qs)

pub fresh_start : (qs : List ℕ) → fresh (replicate 256 false) qs ≡ told qs
fresh_start qs =
    fresh_is (replicate 256 false) qs (length-replicate 256 false)
    ∙ ap (λ (x : Bool). all_below 256 qs && (distinct qs && x)) (unseen_start 256 qs)
    ∙ ap (λ (x : Bool). all_below 256 qs && x) (and-true (distinct qs))

-- one turn of the pass, q the qubit that is next
module _ (seen : List Bool) (x q : ℕ) (e : q ≡ x) where
  pub fresh_high : 256 ≤ q → (qs : List ℕ) → fresh seen (x ∷ qs) ≡ false
  unfolding fresh
  fresh_high h qs = rw (← e, le-ltb q 256 h)

  module _ (h : q < 256) where
    pub fresh_seen : get_or seen q false ≡ true → (qs : List ℕ) → fresh seen (x ∷ qs) ≡ false
    unfolding fresh
    fresh_seen s qs = rw (← e, lt-ltb q 256 h, s)

    pub fresh_next : get_or seen q false ≡ false → (qs : List ℕ) → fresh seen (x ∷ qs) ≡ fresh (set seen q true) qs
    unfolding fresh
    fresh_next s qs = rw (← e, lt-ltb q 256 h, s)

-- a test that is another where a condition holds
pub where_holds : {r a d : Bool} → r ≡ (a && d) → (r ≡ (a && d)) × (a ≡ true → r ≡ d)
where_holds {r} {a} {d} e = (e, λ h. e ∙ ap (λ (b : Bool). b && d) h)
