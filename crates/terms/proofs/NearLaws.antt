-- Lists of terms that agree up to the signs of zeros: the relation, and what the drop of small terms, the mean and the tests keep of it. Assumes nothing.
use mathlib.Core.Path.{◌≡◌, refl, sym, ap, ap₂, ◌∙◌, subst}
use Prim.Native.Nat.{ℕ, zero, suc}
use mathlib.Core.Bool.{Bool, true, false, not, ◌&&◌, cond}
use mathlib.Core.List.{List, [], ◌∷◌, ◌++◌, map}
use lib.ListN.{length, get_or}
use lib.Ieee.{Float, binary64}
use Rattle.numbers.specs.Tests.{abs_of}
use Rattle.numbers.specs.Close.{◌≈◌, same}
use Rattle.numbers.proofs.CloseLaws.{≈_sym, ≈_trans, neg_≈, add_≈, mul_≈, lt_≈, finite_≈, abs_≈}
use Rattle.words.specs.Keys.{Key, no_x}
use Rattle.terms.specs.Lists.{Each, none, more, foldl}
use Rattle.terms.specs.Coefficient.{signed, scaled_of, flipped_of, plus_of}
use Rattle.terms.specs.Term.{Term, term, all_finite}
use Rattle.terms.specs.Truncation.{is_small, kept_of, add_dropped, dropped_of}
use Rattle.terms.specs.Mean.{add_mean, mean_of}

-- ---- two lists, element by element

pub each_refl : {A : Type 0} {R : A → A → Type 0} → ((a : A) → R a a) → (l : List A) → Each R l l
each_refl h [] = none
each_refl h (a ∷ l) = more (h a) (each_refl h l)

pub each_sym : {A D : Type 0} {R : A → D → Type 0} {S : D → A → Type 0} → ((a : A) (d : D) → R a d → S d a) → {l : List A} {m : List D} → Each R l m
    → Each S m l
each_sym h none = none
each_sym h (more {a} {d} p ps) = more (h a d p) (each_sym h ps)

pub each_trans : {A D F : Type 0} {R : A → D → Type 0} {S : D → F → Type 0} {U : A → F → Type 0} → ((a : A) (d : D) (f : F) → R a d → S d f → U a f)
    → {l : List A} {m : List D} {n : List F} → Each R l m → Each S m n → Each U l n
each_trans h none none = none
each_trans h (more {a} {d} p ps) (more {d = f} q qs) = more (h a d f p q) (each_trans h ps qs)

module _ {A D : Type 0} {R : A → D → Type 0} where
  pub each_length : {l : List A} {m : List D} → Each R l m → length l ≡ length m
  each_length none = refl
  each_length (more p ps) = ap suc (each_length ps)

  pub each_append : {l k : List A} {m n : List D} → Each R l m → Each R k n → Each R (l ++ k) (m ++ n)
  each_append none q = q
  each_append (more p ps) q = more p (each_append ps q)

  pub each_map : {B C : Type 0} {S : B → C → Type 0} (f : A → B) (g : D → C) → ((a : A) (d : D) → R a d → S (f a) (g d)) → {l : List A} {m : List D}
      → Each R l m → Each S (map f l) (map g m)
  each_map f g h none = none
  each_map f g h (more {a} {d} p ps) = more (h a d p) (each_map f g h ps)

  pub each_fold : {B C : Type 0} (S : B → C → Type 0) (f : B → A → B) (g : C → D → C)
      → ((b : B) (c : C) (a : A) (d : D) → S b c → R a d → S (f b a) (g c d)) → {b : B} {c : C} → S b c → {l : List A} {m : List D} → Each R l m
      → S (foldl f b l) (foldl g c m)
  unfolding foldl
  each_fold S f g h q none = q
  each_fold S f g h {b} {c} q (more {a} {d} p ps) = each_fold S f g h {b = f b a} {c = g c d} (h b c a d q p) ps

module _ {A D : Type 0} (R : A → D → Type 0) where
  pub each_get_d : {l : List A} {m : List D} (i : ℕ) {a : A} {d : D} → Each R l m → R a d → R (get_or l i a) (get_or m i d)
  each_get_d i none q = q
  each_get_d zero (more p ps) q = p
  each_get_d (suc i) (more p ps) q = each_get_d i ps q

  -- the same choice on both sides
  pub cond_both : (b : Bool) {x y : A} {u v : D} → R x u → R y v → R (cond b x y) (cond b u v)
  cond_both true p q = p
  cond_both false p q = q

  pub cond_same : {b c : Bool} {x y : A} {u v : D} → b ≡ c → R x u → R y v → R (cond b x y) (cond c u v)
  cond_same {b} {x} {y} {u} {v} e p q = subst (λ (c : Bool). R (cond b x y) (cond c u v)) e (cond_both b p q)

-- ---- coefficients

abbrev pub NearC : Float → Float → Type 0
NearC c d = c ≈ d

pub near_signed : (b : Bool) {c d : Float} → c ≈ d → signed b c ≈ signed b d
near_signed true p = neg_≈ p
near_signed false p = p

pub near_scaled : {r s : Float} {c d : Float} → r ≈ s → c ≈ d → scaled_of r c ≈ scaled_of s d
near_scaled e p = mul_≈ binary64 p e

pub near_flipped : (b : Bool) {r s : Float} {c d : Float} → r ≈ s → c ≈ d → flipped_of b r c ≈ flipped_of b s d
near_flipped b e p = near_signed (not b) (mul_≈ binary64 p e)

pub near_plus : {a b c d : Float} → a ≈ b → c ≈ d → plus_of a c ≈ plus_of b d
near_plus p q = add_≈ binary64 p q

pub near_size : {c d : Float} → c ≈ d → abs_of c ≈ abs_of d
near_size p = abs_≈ p

-- ---- terms

pub record NearTerm (t u : Term) : Type 0 where
  pub key : t.key ≡ u.key
  pub coeff : NearC t.coeff u.coeff

pub at_key : (k : Key) {c d : Float} → NearC c d → NearTerm (term k c) (term k d)
at_key k p = record { key = refl; coeff = p }

-- near terms have one word
pub by_key : (P : Term → Term → Type 0) → ((k : Key) (c d : Float) → NearC c d → P (term k c) (term k d)) → {t u : Term} → NearTerm t u → P t u
by_key P h {t} {u} p = subst (λ (k : Key). P t (term k u.coeff)) p.key (h t.key t.coeff u.coeff p.coeff)

pub near_term_refl : (t : Term) → NearTerm t t
near_term_refl t = at_key t.key (same)

pub near_term_sym : {t u : Term} → NearTerm t u → NearTerm u t
near_term_sym p = record { key = sym p.key; coeff = ≈_sym p.coeff }

pub near_term_trans : {t u v : Term} → NearTerm t u → NearTerm u v → NearTerm t v
near_term_trans p q = record { key = p.key ∙ q.key; coeff = ≈_trans p.coeff q.coeff }

abbrev pub Near : List Term → List Term → Type 0
Near ts us = Each NearTerm ts us

pub near_refl : (ts : List Term) → Near ts ts
near_refl = each_refl near_term_refl

pub near_of : {ts us : List Term} → ts ≡ us → Near ts us
near_of {ts} e = subst (Near ts) e (near_refl ts)

pub near_sym : {ts us : List Term} → Near ts us → Near us ts
near_sym = each_sym (λ t u. near_term_sym)

pub near_trans : {ts us vs : List Term} → Near ts us → Near us vs → Near ts vs
near_trans = each_trans (λ t u v. near_term_trans)

-- ---- tests, drops and sums

pub near_length : {ts us : List Term} → Near ts us → length ts ≡ length us
near_length = each_length

pub near_finite : {ts us : List Term} → Near ts us → all_finite ts ≡ all_finite us
unfolding all_finite
near_finite none = refl
near_finite (more p ps) = ap₂ ◌&&◌ (finite_≈ p.coeff) (near_finite ps)

module _ {e f : Float} (p : e ≈ f) where
  near_small : {t u : Term} → NearTerm t u → is_small e t ≡ is_small f u
  near_small q = lt_≈ (near_size q.coeff) p

  pub near_kept : {ts us : List Term} → Near ts us → Near (kept_of e ts) (kept_of f us)
  unfolding kept_of
  near_kept none = none
  near_kept (more q qs) = let r = near_kept qs in cond_same Near (near_small q) r (more q r)

  pub near_dropped : {ts us : List Term} → Near ts us → dropped_of e ts ≈ dropped_of f us
  near_dropped = each_fold ◌≈◌ (add_dropped e) (add_dropped f) (λ a b t u s q. cond_same ◌≈◌ (near_small q) (add_≈ binary64 s (near_size q.coeff)) s) same

pub near_mean : (w : ℕ) {ts us : List Term} → Near ts us → mean_of w ts ≈ mean_of w us
near_mean w = each_fold ◌≈◌ (add_mean w) (add_mean w) (λ a b t u s q. cond_same ◌≈◌ (ap (no_x w) q.key) (add_≈ binary64 s q.coeff) s) same
