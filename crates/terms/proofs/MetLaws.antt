-- How many terms have a letter at given qubits: the same for sums that agree up to the signs of zeros, none just where all have identities there, and
-- no more than there are. Assumes nothing.
use Prim.Native.Nat.{ℕ, ◌+◌, ◌≤◌}
use mathlib.Core.Path.{◌≡◌, refl, ap, ap₂, ◌∙◌}
use mathlib.Core.Bool.{Bool, true, false, cond, ◌||◌}
use mathlib.Core.List.{List, [], ◌∷◌}
use native.Mathlib.Nat.{le_refl, add-zero}
use native.Mathlib.Omega.{arith}
use lib.ListN.{length}
use Rattle.words.specs.Keys.{Key, bit_at, z_at, has_letter}
use Rattle.words.proofs.LetterLaws.{letter, no_letter}
use Rattle.terms.specs.Lists.{All, foldl}
use Rattle.terms.specs.Term.{Term}
use Rattle.terms.specs.Met.{letter_among, add_met, met_terms}
use Rattle.terms.proofs.CaseLaws.{cond_holds, or_false}
use Rattle.terms.proofs.AllLaws.{all_imp}
use Rattle.terms.proofs.NearLaws.{Near, each_fold}
use Rattle.terms.proofs.LetterSteps.{Within, Clear, ClearAt, Bare}

module _ (w : ℕ) where
  pub met_near : (qs : List ℕ) {ts us : List Term} → Near ts us → met_terms w qs ts ≡ met_terms w qs us
  met_near qs = each_fold ◌≡◌ (add_met w qs) (add_met w qs) (λ m n t u e p. ap₂ (λ (k : Key) (i : ℕ). i + cond (letter_among w qs k) 1 0) p.key e) refl

  -- one or two letters
  pub one_letter : (a : ℕ) (k : Key) → has_letter w k a ≡ letter_among w (a ∷ []) k
  unfolding letter_among
  one_letter a k = go (has_letter w k a)
    where
      go : (b : Bool) → b ≡ (b || false)
      go true = refl
      go false = refl

  pub two_letters : (a b : ℕ) (k : Key) → (has_letter w k a || has_letter w k b) ≡ letter_among w (a ∷ b ∷ []) k
  unfolding letter_among
  two_letters a b k = ap (λ (c : Bool). has_letter w k a || c) (one_letter b k)

  no_letter_among : (qs : List ℕ) (k : Key) → Within w qs → All (λ q. letter w k q ≡ false) qs → letter_among w qs k ≡ false
  unfolding letter_among
  no_letter_among [] k v h = refl
  no_letter_among (q ∷ qs) k v h =
      let n = no_letter w k q v.0 h.0 in
      ap₂ ◌||◌ (ap₂ ◌||◌ n.0 n.1) (no_letter_among qs k v.1 h.1)

  none_met : (qs : List ℕ) (n : ℕ) (ts : List Term) → Within w qs → ClearAt w qs ts → foldl (add_met w qs) n ts ≡ n
  unfolding foldl
  none_met qs n [] v h = refl
  none_met qs n (t ∷ ts) v h =
      ap (λ (b : Bool). foldl (add_met w qs) (n + cond b 1 0) ts)
      (no_letter_among qs t.key v (all_imp (λ q. Clear w q (t ∷ ts)) (λ q. letter w t.key q ≡ false) qs (λ q p. p.0) h))
      ∙ ap (λ (m : ℕ). foldl (add_met w qs) m ts) (add-zero n)
      ∙ none_met qs n ts v (all_imp (λ q. Clear w q (t ∷ ts)) (λ q. Clear w q ts) qs (λ q p. p.1) h)

  pub met_none : (qs : List ℕ) (ts : List Term) → Within w qs → ClearAt w qs ts → met_terms w qs ts ≡ 0
  met_none qs = none_met qs 0

  one_at_most : (qs : List ℕ) (n : ℕ) (t : Term) → add_met w qs n t ≤ n + 1
  one_at_most qs n t = cond_holds (λ m. n + m ≤ n + 1) (letter_among w qs t.key) (le_refl (n + 1)) (omega arith)

  few_from : (qs : List ℕ) (n : ℕ) (ts : List Term) → foldl (add_met w qs) n ts ≤ n + length ts
  unfolding foldl
  few_from qs n [] = omega arith
  few_from qs n (t ∷ ts) = omega (arith, few_from qs (add_met w qs n t) ts, one_at_most qs n t)

  pub met_few : (qs : List ℕ) (ts : List Term) → met_terms w qs ts ≤ length ts
  met_few qs ts = omega (arith, few_from qs 0 ts)

  -- where none has a letter, neither bit is set
  bare_among : (qs : List ℕ) (k : Key) → letter_among w qs k ≡ false → Bare w k qs
  unfolding letter_among
  bare_among [] k e = tt
  bare_among (q ∷ qs) k e =
      let p = or_false (has_letter w k q) (letter_among w qs k) e in
      (or_false (bit_at k q) (bit_at k (z_at w q)) p.0, bare_among qs k p.1)

  none_counted : (qs : List ℕ) (n : ℕ) (ts : List Term) → foldl (add_met w qs) n ts ≡ 0 → (n ≡ 0) × All (λ (t : Term). Bare w t.key qs) ts
  unfolding foldl
  none_counted qs n [] e = (e, tt)
  none_counted qs n (t ∷ ts) e =
      let r = none_counted qs (add_met w qs n t) ts e in
      let p = split (letter_among w qs t.key) n r.0 in
      (p.0, (bare_among qs t.key p.1, r.1))
    where
      split : (b : Bool) (n : ℕ) → n + cond b 1 0 ≡ 0 → (n ≡ 0) × (b ≡ false)
      split true n e = absurd (omega arith)
      split false n e = (omega arith, refl)

  pub none_met_bare : (qs : List ℕ) (ts : List Term) → met_terms w qs ts ≡ 0 → All (λ (t : Term). Bare w t.key qs) ts
  none_met_bare qs ts e = (none_counted qs 0 ts e).1
