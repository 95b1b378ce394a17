-- Laws of `first`, the first index that passes a test. Assumes nothing.
use mathlib.Core.Path.{◌≡◌, refl, sym, ap, ◌∙◌, subst}
use mathlib.Core.Bool.{Bool, true, false}
use mathlib.Core.Logic.{◌⊎◌, inl, inr, ⊎_elim}
use Prim.Native.Nat.{ℕ, zero, suc, ◌≤◌, ◌<◌}
use native.Mathlib.Nat.{not-suc-le-zero, le_of_suc-le-suc, eq-or-lt_of_le}
use native.Mathlib.Omega.{arith}
use Rattle.std.specs.Prelude.{Option, Some, None}
use Rattle.terms.specs.Branch.{first, or_at}

pub first_none : (p : ℕ → Bool) (n : ℕ) → first p n ≡ None → p n ≡ false → first p (suc n) ≡ None
unfolding first
first_none p n e f = rw (e, f)

pub first_here : (p : ℕ → Bool) (n : ℕ) → first p n ≡ None → p n ≡ true → first p (suc n) ≡ Some n
unfolding first
first_here p n e t = rw (e, t)

pub first_more : (p : ℕ → Bool) (m n j : ℕ) → m ≤ n → first p m ≡ Some j → first p n ≡ Some j
unfolding first
first_more p m zero j h e = let q : zero ≡ m = omega arith in rw (← e) (ap (first p) q)
first_more p m (suc n) j h e = ⊎_elim
    (λ q. rw (← e) (ap (first p) (sym q)))
    (λ (l : m < suc n). rw (first_more p m n j (le_of_suc-le-suc l) e))
    (eq-or-lt_of_le h)

-- ---- what a search says

at_or : (f : Option ℕ) (b : Bool) (n j : ℕ) → or_at f b n ≡ Some j → (f ≡ Some j) ⊎ ((f ≡ None) × ((b ≡ true) × (n ≡ j)))
at_or (Some i) b n j e = inl e
at_or None true n j e = inr (refl, (refl, cc))
at_or None false n j e = absurd (let z : ◌≡◌ {A = ℕ} 0 1 = cc in omega arith)

pub first_at : (p : ℕ → Bool) (n j : ℕ) → first p n ≡ Some j → (j < n) × (p j ≡ true)
unfolding first
first_at p zero j e = absurd (let z : ◌≡◌ {A = ℕ} 0 1 = cc in omega arith)
first_at p (suc n) j e = ⊎_elim
    (λ (h : first p n ≡ Some j). let r = first_at p n j h in let l = r.0 in (omega arith, r.1))
    (λ (h : (first p n ≡ None) × ((p n ≡ true) × (n ≡ j))). let q = h.1.1 in (omega arith, subst (λ (k : ℕ). p k ≡ true) q h.1.0))
    (at_or (first p n) (p n) n j e)

none_or : (f : Option ℕ) (b : Bool) (n : ℕ) → or_at f b n ≡ None → (f ≡ None) × (b ≡ false)
none_or (Some i) b n e = absurd (let z : ◌≡◌ {A = ℕ} 0 1 = cc in omega arith)
none_or None true n e = absurd (let z : ◌≡◌ {A = ℕ} 0 1 = cc in omega arith)
none_or None false n e = (refl, refl)

pub first_nothing : (p : ℕ → Bool) (n : ℕ) → first p n ≡ None → (j : ℕ) → j < n → p j ≡ false
unfolding first
first_nothing p zero e j h = absurd (not-suc-le-zero h)
first_nothing p (suc n) e j h =
    let r = none_or (first p n) (p n) n e in
    ⊎_elim (λ (q : j ≡ n). subst (λ (k : ℕ). p k ≡ false) (sym q) r.1) (λ (l : j < n). first_nothing p n r.0 j l) (eq-or-lt_of_le (le_of_suc-le-suc h))

pub first_ext : (p q : ℕ → Bool) (n : ℕ) → ((j : ℕ) → j < n → p j ≡ q j) → first p n ≡ first q n
unfolding first
first_ext p q zero h = refl
first_ext p q (suc n) h = λ k. or_at (first_ext p q n (λ j l. h j (omega arith)) k) (h n (omega arith) k) n

-- ---- the first of a list that is one longer at the front

abbrev pub later : Option ℕ → Option ℕ
later (Some j) = Some (suc j)
later None = None

abbrev pub or_later : Bool → Option ℕ → Option ℕ
or_later true f = Some zero
or_later false f = later f

pub first_cons : (p : ℕ → Bool) (n : ℕ) → first p (suc n) ≡ or_later (p zero) (first (λ i. p (suc i)) n)
unfolding first
first_cons p zero = go (p zero)
  where
    go : (b : Bool) → or_at None b zero ≡ or_later b None
    go true = refl
    go false = refl
first_cons p (suc n) = ap (λ (f : Option ℕ). or_at f (p (suc n)) (suc n)) (first_cons p n) ∙ go (p zero) (first (λ i. p (suc i)) n) (p (suc n))
  where
    go : (b : Bool) (f : Option ℕ) (c : Bool) → or_at (or_later b f) c (suc n) ≡ or_later b (or_at f c n)
    go true f c = refl
    go false (Some j) c = refl
    go false None true = refl
    go false None false = refl
