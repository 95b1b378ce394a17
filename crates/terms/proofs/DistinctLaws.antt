-- What keeps the words of a sum distinct, and of the width: gates, channels, truncation, the merge at the start. Assumes nothing.
use mathlib.Core.Path.{◌≡◌, refl, sym, ap, ◌∙◌, subst}
use mathlib.Core.Bool.{Bool, true, false, cond, ◌||◌, false≢true, true≢false}
use mathlib.Core.List.{List, [], ◌∷◌, ◌++◌, map}
use Prim.Native.Nat.{ℕ, zero, suc, zero-le, suc-le-suc}
use native.Mathlib.Nat.{le_of_suc-le-suc, not-suc-le-zero, suc_inj}
use native.Mathlib.Omega.{arith}
use lib.ListN.{length, get_or, length-map, get_or-map}
use lib.Ieee.{Float}
use Rattle.numbers.specs.Constants.{zero64}
use Rattle.words.specs.declared.Gate.{Gate}
use Rattle.words.specs.Keys.{Key, same_key, z_at, Words}
use Rattle.words.specs.Gates.{Targets}
use Rattle.words.proofs.KeyLaws.{same_key_refl, flip_at_length, flip_at_words}
use Rattle.words.proofs.GateLaws.{conj_key_length, conj_key_words}
use Rattle.words.proofs.InverseLaws.{conj_key_injective}
use Rattle.terms.specs.declared.ChannelAction.{ChannelAction}
use Rattle.terms.specs.Coefficient.{}
use Rattle.terms.specs.Lists.{All}
use Rattle.terms.specs.Term.{Term, term, no_term, OnWidth, Distinct, is_in, add_to, conjugated}
use Rattle.terms.specs.Start.{share, coalesced, merged}
use Rattle.terms.specs.Channel.{insert, channeled}
use Rattle.terms.specs.Truncation.{is_small, kept_of}
use Rattle.terms.proofs.CaseLaws.{cond_cases, cond_holds}
use Rattle.terms.proofs.NearLaws.{cond_both}
use Rattle.terms.proofs.StepLaws.{merged_keeps, channel_keeps, channel_all}
use Rattle.terms.proofs.AllLaws.{all_at, all_of, all_every, all_imp, all_append, all_map, fold_keeps}

-- ---- distinct words, one term after the other

-- a term that has not the word k
abbrev pub Other : Key → Term → Type 0
Other k t = k ≡ t.key → ⊥

-- the word of each term is none of those after it
abbrev pub Apart : List Term → Type 0
Apart [] = Unit {0}
Apart (t ∷ ts) = All (Other t.key) ts × Apart ts

pub apart_of : (ts : List Term) → Distinct ts → Apart ts
unfolding Distinct
apart_of [] D = tt
apart_of (t ∷ ts) D = (
  all_of (Other t.key) ts no_term (λ i h e. let q = D zero (suc i) (suc-le-suc zero-le) (suc-le-suc h) e in omega arith),
  apart_of ts (λ i j hi hj e. suc_inj (D (suc i) (suc j) (suc-le-suc hi) (suc-le-suc hj) e)),
)

pub distinct_of : (ts : List Term) → Apart ts → Distinct ts
unfolding Distinct
distinct_of [] x i j hi hj e = absurd (not-suc-le-zero hi)
distinct_of (t ∷ ts) x zero zero hi hj e = refl
distinct_of (t ∷ ts) x zero (suc j) hi hj e = absurd (all_at (Other t.key) ts j no_term (le_of_suc-le-suc hj) x.0 e)
distinct_of (t ∷ ts) x (suc i) zero hi hj e = absurd (all_at (Other t.key) ts i no_term (le_of_suc-le-suc hi) x.0 (sym e))
distinct_of (t ∷ ts) x (suc i) (suc j) hi hj e = ap suc (distinct_of ts x.1 i j (le_of_suc-le-suc hi) (le_of_suc-le-suc hj) e)

apart_append : (ts us : List Term) → Apart ts → Apart us → All (λ t. All (Other t.key) us) ts → Apart (ts ++ us)
apart_append [] us x y z = y
apart_append (t ∷ ts) us x y z = (all_append (Other t.key) ts us x.0 z.0, apart_append ts us x.1 y z.1)

pub distinct_append : (ts us : List Term) → Distinct ts → Distinct us → All (λ t. All (Other t.key) us) ts → Distinct (ts ++ us)
distinct_append ts us D E z = distinct_of (ts ++ us) (apart_append ts us (apart_of ts D) (apart_of us E) z)

-- one more term, of another word
pub distinct_snoc : (ts : List Term) (t : Term) → Distinct ts → All (Other t.key) ts → Distinct (ts ++ (t ∷ []))
distinct_snoc ts t D x =
    distinct_append ts (t ∷ []) D (distinct_of (t ∷ []) (tt, tt))
    (all_imp (Other t.key) _ ts (λ u o. (λ e. o (sym e), tt)) x)

-- a map that takes different words of terms with a property to different words
module _ (p : Term → Type 0) (f : Term → Term) (apartly : (t u : Term) → p t → p u → (f t).key ≡ (f u).key → t.key ≡ u.key) where
  other_map : (t : Term) (ts : List Term) → p t → All p ts → All (Other t.key) ts → All (Other (f t).key) (map f ts)
  other_map t [] a x o = tt
  other_map t (u ∷ ts) a x o = (λ e. o.0 (apartly t u a x.0 e), other_map t ts a x.1 o.1)

  apart_map : (ts : List Term) → All p ts → Apart ts → Apart (map f ts)
  apart_map [] x a = tt
  apart_map (t ∷ ts) x a = (other_map t ts x.0 x.1 a.0, apart_map ts x.1 a.1)

  pub distinct_map : (ts : List Term) → All p ts → Distinct ts → Distinct (map f ts)
  distinct_map ts x D = distinct_of (map f ts) (apart_map ts x (apart_of ts D))

-- ---- sums with the same words

abbrev pub keys_of : List Term → List Key
keys_of ts = map (λ t. t.key) ts

keys_length : (ts us : List Term) → keys_of ts ≡ keys_of us → length us ≡ length ts
keys_length ts us e = sym (length-map us (λ t. t.key)) ∙ ap length (sym e) ∙ length-map ts (λ t. t.key)

pub keys_at : (ts us : List Term) → keys_of ts ≡ keys_of us → (i : ℕ) → (get_or ts i no_term).key ≡ (get_or us i no_term).key
keys_at ts us e i =
    sym (get_or-map (λ (t : Term). t.key) ts i no_term) ∙ ap (λ (ks : List Key). get_or ks i []) e ∙ get_or-map (λ (t : Term). t.key) us i no_term

pub same_distinct : (ts us : List Term) → keys_of ts ≡ keys_of us → Distinct ts → Distinct us
unfolding Distinct
same_distinct ts us e D i j hi hj q =
    let long = keys_length ts us e in
    D i j (omega arith) (omega arith) (keys_at ts us e i ∙ q ∙ sym (keys_at ts us e j))

pub width_key : (w : ℕ) (t u : Term) → t.key ≡ u.key → OnWidth w t → OnWidth w u
width_key w t u e x = record { long = ap length (sym e) ∙ x.long; words = subst Words e x.words }

-- a map that keeps the word of each term
pub map_keys : (f : Term → Term) → ((t : Term) → t.key ≡ (f t).key) → (ts : List Term) → keys_of ts ≡ keys_of (map f ts)
map_keys f k [] = refl
map_keys f k (t ∷ ts) = λ i. k t i ∷ map_keys f k ts i

pub cond_key : (b : Bool) (k : Key) (c : Float) (t : Term) → t.key ≡ k → t.key ≡ (cond b (term k c) t).key
cond_key true k c t e = e
cond_key false k c t e = refl

pub add_to_keys : (k : Key) (d : Float) (ts : List Term) → keys_of ts ≡ keys_of (add_to k d ts)
unfolding add_to
add_to_keys k d [] = refl
add_to_keys k d (t ∷ ts) =
    cond_holds (λ us. keys_of (t ∷ ts) ≡ keys_of us) (same_key k t.key) refl (ap (λ (ks : List Key). t.key ∷ ks) (add_to_keys k d ts))

pub add_to_length : (k : Key) (d : Float) (ts : List Term) → length (add_to k d ts) ≡ length ts
add_to_length k d ts = keys_length ts (add_to k d ts) (add_to_keys k d ts)

-- ---- words that no term has

pub other_key : (k l : Key) → same_key k l ≡ false → k ≡ l → ⊥
other_key k l e q = false≢true (sym e ∙ ap (same_key k) (sym q) ∙ same_key_refl k)

pub not_in : (k : Key) (ts : List Term) → is_in k ts ≡ false → All (Other k) ts
unfolding is_in
not_in k [] e = tt
not_in k (t ∷ ts) e = go (same_key k t.key) refl e (not_in k ts)
  where
    go : (b : Bool) → same_key k t.key ≡ b → b || is_in k ts ≡ false → (is_in k ts ≡ false → All (Other k) ts) → Other k t × All (Other k) ts
    go true q e f = absurd (true≢false e)
    go false q e f = (other_key k t.key q, f e)

-- a term more, if no term has its word
abbrev added : List Term → Term → List Term
added ts t = cond (is_in t.key ts) ts (ts ++ (t ∷ []))

added_distinct : (ts : List Term) (t : Term) → Distinct ts → Distinct (added ts t)
added_distinct ts t D = cond_cases Distinct (is_in t.key ts) (λ e. D) (λ e. distinct_snoc ts t D (not_in t.key ts e))

-- ---- a gate

pub conjugated_distinct : (g : Gate) (w a b : ℕ) (ts : List Term) → Targets g w a b → All (OnWidth w) ts → Distinct ts → Distinct (map (conjugated w g a b) ts)
unfolding conjugated
conjugated_distinct g w a b ts at x D =
    distinct_map (OnWidth w) (conjugated w g a b)
    (λ t u p q e. conj_key_injective g w a b t.key u.key at p.long q.long p.words q.words e) ts x D

pub conjugated_width : (g : Gate) (w a b : ℕ) (ts : List Term) → All (OnWidth w) ts → All (OnWidth w) (map (conjugated w g a b) ts)
unfolding conjugated
conjugated_width g w a b ts x =
    all_map (OnWidth w) (OnWidth w) (conjugated w g a b) ts
    (λ t p. record { long = conj_key_length g w a b t.key ∙ p.long; words = conj_key_words g w a b t.key p.words }) x

-- ---- truncation

pub kept_all : (p : Term → Type 0) (e : Float) (ts : List Term) → All p ts → All p (kept_of e ts)
unfolding kept_of
kept_all p e [] x = tt
kept_all p e (t ∷ ts) x = let r = kept_all p e ts x.1 in cond_holds (All p) (is_small e t) r (x.0, r)

kept_apart : (e : Float) (ts : List Term) → Apart ts → Apart (kept_of e ts)
unfolding kept_of
kept_apart e [] x = tt
kept_apart e (t ∷ ts) x = let r = kept_apart e ts x.1 in cond_holds Apart (is_small e t) r (kept_all (Other t.key) e ts x.0, r)

pub kept_distinct : (e : Float) (ts : List Term) → Distinct ts → Distinct (kept_of e ts)
kept_distinct e ts D = distinct_of (kept_of e ts) (kept_apart e ts (apart_of ts D))

-- ---- the merge at the start

share_keys : (ts : List Term) (t : Term) → keys_of (added ts (term t.key zero64)) ≡ keys_of (share ts t)
unfolding share
share_keys ts t = add_to_keys t.key t.coeff (added ts (term t.key zero64))

share_distinct : (ts : List Term) (t : Term) → Distinct ts → Distinct (share ts t)
share_distinct ts t D = same_distinct (added ts (term t.key zero64)) (share ts t) (share_keys ts t) (added_distinct ts (term t.key zero64) D)

pub coalesced_distinct : (ts : List Term) → Distinct (coalesced ts)
coalesced_distinct ts = fold_keeps (λ t. Unit {0}) Distinct share (λ us t x D. share_distinct us t D) ts [] (all_every _ ts (λ t. tt)) (distinct_of [] tt)

pub merged_distinct : (ts : List Term) → Distinct (merged ts)
merged_distinct [] = distinct_of [] tt
merged_distinct (t ∷ []) = distinct_of (t ∷ []) (tt, tt)
merged_distinct (t ∷ u ∷ ts) = coalesced_distinct (t ∷ u ∷ ts)

pub merged_width : (w : ℕ) (ts : List Term) → All (OnWidth w) ts → All (OnWidth w) (merged ts)
merged_width w = merged_keeps (OnWidth w) (λ k c d x y. width_key w _ _ refl x) (λ t x. width_key w _ _ refl x)

-- ---- a channel

insert_keys : (ts : List Term) (t : Term) → keys_of (added ts t) ≡ keys_of (insert ts t)
unfolding insert
insert_keys ts t = cond_both (λ us vs. keys_of us ≡ keys_of vs) (is_in t.key ts) (add_to_keys t.key t.coeff ts) refl

insert_distinct : (ts : List Term) (t : Term) → Distinct ts → Distinct (insert ts t)
insert_distinct ts t D = same_distinct (added ts t) (insert ts t) (insert_keys ts t) (added_distinct ts t D)

pub channeled_distinct : (w a b : ℕ) (c : ChannelAction) (ts : List Term) → Distinct ts → Distinct (channeled w a b c ts)
channeled_distinct w a b c ts =
    channel_keeps w a b c Distinct (λ t. Unit {0}) (λ us t e h. insert_distinct us _)
    (λ met by us. same_distinct us _ (map_keys _ (λ t. cond_key (met t) t.key _ t refl) us)) ts (all_every _ ts (λ t. tt))

pub channeled_width : (w a b : ℕ) (c : ChannelAction) (ts : List Term) → All (OnWidth w) ts → All (OnWidth w) (channeled w a b c ts)
channeled_width w a b c =
    channel_all w a b c (OnWidth w) (OnWidth w) (λ k c d x y. width_key w _ _ refl x) (λ f t x. width_key w _ _ refl x)
    (λ t e h. record { long = flip_at_length t.key (z_at w a) ∙ h.long; words = flip_at_words t.key (z_at w a) h.words }) (λ t h. h)
