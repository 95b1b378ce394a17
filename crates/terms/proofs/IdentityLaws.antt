-- The identity branches added in place, row after row: a term with the letter Z at the target is still the old one when its turn comes.
-- Assumes nothing.
use mathlib.Core.Path.{◌≡◌, refl, sym, ap, ◌∙◌}
use mathlib.Core.Bool.{Bool, true, false, cond, not, false≢true}
use mathlib.Core.List.{List, [], ◌∷◌, ◌++◌}
use Prim.Native.Nat.{ℕ, zero, suc, ◌+◌, ◌≤◌, ◌<◌}
use native.Mathlib.Numerals.{add-one}
use native.Mathlib.Omega.{arith}
use lib.ListN.{length, get_or, take, length-append, get_or-append}
use lib.Seq.{take-suc}
use lib.Ieee.{Float}
use Rattle.words.specs.Keys.{Key, bit_at, flip_at, z_at, same_key}
use Rattle.words.proofs.KeyLaws.{bit_at_cleared, same_key_ne}
use Rattle.terms.specs.Lists.{foldl}
use Rattle.terms.specs.Coefficient.{scaled_of, plus_of}
use Rattle.terms.specs.Term.{Term, term, no_term, is_in, add_to}
use Rattle.terms.specs.Channel.{is_zletter, insert, branch, branches_to}
use Rattle.terms.proofs.CaseLaws.{and_true}
use Rattle.terms.proofs.DistinctLaws.{keys_at, add_to_keys, add_to_length}
use Rattle.terms.proofs.ListLaws.{fold_snoc}

-- ---- what is added to one word changes no other term

added_other : (k : Key) (d : Float) (ts : List Term) (j : ℕ) → same_key k (get_or ts j no_term).key ≡ false → get_or (add_to k d ts) j no_term ≡ get_or ts j no_term
unfolding add_to
added_other k d [] j h = refl
added_other k d (t ∷ ts) j h = go (same_key k t.key) refl j h (added_other k d ts)
  where
    go : (b : Bool) → same_key k t.key ≡ b → (j : ℕ) → same_key k (get_or (t ∷ ts) j no_term).key ≡ false
        → ((j : ℕ) → same_key k (get_or ts j no_term).key ≡ false → get_or (add_to k d ts) j no_term ≡ get_or ts j no_term)
        → get_or (cond b (term t.key (plus_of t.coeff d) ∷ ts) (t ∷ add_to k d ts)) j no_term ≡ get_or (t ∷ ts) j no_term
    go true e zero h ih = absurd (false≢true (sym h ∙ e))
    go true e (suc j) h ih = refl
    go false e zero h ih = refl
    go false e (suc j) h ih = ih j h

-- ---- the rows while branches are added

module _ (w q : ℕ) (f : Float) where
  z_bit : (k : Key) → is_zletter w q k ≡ true → bit_at k (z_at w q) ≡ true
  z_bit k e = (and_true (not (bit_at k q)) (bit_at k (z_at w q)) e).1

  -- row j has its old word, and where that has z at the target its old coefficient
  pub record Still (t u : Term) : Type 0 where
    pub key : u.key ≡ t.key
    pub whole : bit_at t.key (z_at w q) ≡ true → u ≡ t

  abbrev pub AllStill : List Term → List Term → Type 0
  AllStill ts us = (length ts ≤ length us) × ((j : ℕ) → j < length ts → Still (get_or ts j no_term) (get_or us j no_term))

  abbrev step : List Term → Term → List Term
  step us t = branch w q f us t

  still_trans : (ts us vs : List Term) → AllStill ts us → AllStill us vs → AllStill ts vs
  still_trans ts us vs a b =
      let l = a.0 in
      let m = b.0 in (
        omega arith,
        λ j h.
            let x = a.1 j h in
            let y = b.1 j (omega arith) in
            record { key = y.key ∙ x.key; whole = λ e. y.whole (ap (λ (k : Key). bit_at k (z_at w q)) x.key ∙ e) ∙ x.whole e },
      )

  still_step : (us : List Term) (t : Term) → AllStill us (step us t)
  unfolding insert
  still_step us t = go (flip_at t.key (z_at w q)) (scaled_of f t.coeff) (is_zletter w q t.key) (is_in (flip_at t.key (z_at w q)) us)
      (λ e. bit_at_cleared t.key (z_at w q) (z_bit t.key e))
    where
      go : (k : Key) (d : Float) (b c : Bool) → (b ≡ true → bit_at k (z_at w q) ≡ false) → AllStill us (cond b (cond c (add_to k d us) (us ++ (term k d ∷ []))) us)
      go k d false c e = (omega arith, λ j h. record { key = refl; whole = λ x. refl })
      go k d true true e = (
        omega (arith, add_to_length k d us),
        λ j h. record {
          key = sym (keys_at us (add_to k d us) (add_to_keys k d us) j);
          whole = λ x. added_other k d us j (same_key_ne k (get_or us j no_term).key (λ p. false≢true (sym (e refl) ∙ ap (λ (l : Key). bit_at l (z_at w q)) p ∙ x)));
        },
      )
      go k d true false e = (
        omega (arith, length-append us (term k d ∷ [])),
        λ j h.
            let same : get_or (us ++ (term k d ∷ [])) j no_term ≡ get_or us j no_term = get_or-append us (term k d ∷ []) no_term j h in
            record { key = ap (λ (u : Term). u.key) same; whole = λ x. same },
      )

  pub branches_turn : (ts : List Term) (i : ℕ) → i < length ts → branches_to w q f (i + 1) ts ≡ branch w q f (branches_to w q f i ts) (get_or ts i no_term)
  branches_turn ts i h =
      ap (λ (l : List Term). foldl (branch w q f) ts l) (ap (λ (n : ℕ). take n ts) (add-one i) ∙ take-suc ts i no_term h)
      ∙ fold_snoc (branch w q f) ts (take i ts) (get_or ts i no_term)

  still : (ts : List Term) (i : ℕ) → i ≤ length ts → AllStill ts (branches_to w q f i ts)
  unfolding foldl
  still ts zero h = (omega arith, λ j l. record { key = refl; whole = λ x. refl })
  still ts (suc i) h =
      let e : branches_to w q f (suc i) ts ≡ step (branches_to w q f i ts) (get_or ts i no_term) = ap (λ (n : ℕ). branches_to w q f n ts) (sym (add-one i)) ∙ branches_turn ts i (omega arith) in
      rw e (still_trans ts (branches_to w q f i ts) (step (branches_to w q f i ts) (get_or ts i no_term)) (still ts i (omega arith)) (still_step (branches_to w q f i ts) (get_or ts i no_term)))

  -- the branch of the term that stands in row i now is that of the old one
  pub branch_now : (ts : List Term) (i : ℕ) → i < length ts
      → branch w q f (branches_to w q f i ts) (get_or (branches_to w q f i ts) i no_term) ≡ branches_to w q f (i + 1) ts
  branch_now ts i h =
      same (branches_to w q f i ts) (get_or ts i no_term) (get_or (branches_to w q f i ts) i no_term) (is_zletter w q (get_or ts i no_term).key) refl ((still ts i (omega arith)).1 i h)
      ∙ sym (branches_turn ts i h)
    where
      same : (us : List Term) (t u : Term) (b : Bool) → is_zletter w q t.key ≡ b → Still t u → branch w q f us u ≡ branch w q f us t
      same us t u true e s = ap (branch w q f us) (s.whole (z_bit t.key e))
      same us t u false e s = let no : is_zletter w q u.key ≡ false = ap (is_zletter w q) s.key ∙ e in rw (no, e)
