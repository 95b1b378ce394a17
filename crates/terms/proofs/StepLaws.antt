-- What a step keeps of a property of terms, and of a list of terms: the merge, the drop of small terms, a rotation, a channel. Assumes nothing.
use mathlib.Core.Path.{◌≡◌, refl, subst}
use mathlib.Core.Bool.{Bool, true, false, cond, ◌||◌}
use mathlib.Core.List.{List, [], ◌∷◌, ◌++◌, map}
use mathlib.Core.Option.{Option, none, some}
use Prim.Native.Nat.{ℕ}
use lib.ListN.{get_or}
use lib.Ieee.{Float, nan}
use Rattle.numbers.specs.Tests.{is_zero}
use Rattle.numbers.specs.Constants.{zero64}
use Rattle.words.specs.Keys.{Key, same_key, has_letter, flip_at, z_at}
use Rattle.words.proofs.KeyLaws.{same_key_eq}
use Rattle.terms.specs.declared.ChannelAction.{ChannelAction}
use Rattle.terms.specs.declared.ChannelKind.{ChannelKind}
use Rattle.terms.specs.declared.ChannelKind.TheVariants.{Local, Depolarizing2q}
use Rattle.terms.specs.Coefficient.{plus_of, scaled_of}
use Rattle.terms.specs.Lists.{All}
use Rattle.terms.specs.Term.{odd_y, Term, term, find, is_in, add_to}
use Rattle.terms.specs.Start.{share, merged}
use Rattle.terms.specs.Rotation.{scaled_met, flipped_term, mixed, turned_term, appended_term, turned_row, appended_rows, rotated}
use Rattle.terms.specs.Channel.{is_zletter, letter_index, insert, branch, with_branches, channel_by, channeled}
use Rattle.terms.proofs.CaseLaws.{cond_holds, cond_cases}
use Rattle.terms.proofs.AllLaws.{all_imp, all_append, all_map, fold_keeps}

-- ---- sums of coefficients of one word

module _ (P : Term → Type 0) (plus : (k : Key) (c d : Float) → P (term k c) → P (term k d) → P (term k (plus_of c d))) where
  add_to_keeps : (k : Key) (d : Float) (ts : List Term) → P (term k d) → All P ts → All P (add_to k d ts)
  unfolding add_to
  add_to_keeps k d [] p h = tt
  add_to_keeps k d (t ∷ ts) p h =
      let r = add_to_keeps k d ts p h.1 in
      cond_cases (All P) (same_key k t.key)
      (λ e. (plus t.key t.coeff d h.0 (subst (λ (l : Key). P (term l d)) (same_key_eq k t.key e) p), h.1)) (λ e. (h.0, r))

  insert_keeps : (ts : List Term) (t : Term) → P t → All P ts → All P (insert ts t)
  unfolding insert
  insert_keeps ts t p h = cond_holds (All P) (is_in t.key ts) (add_to_keeps t.key t.coeff ts p h) (all_append P ts (t ∷ []) h (p, tt))

  -- from 0
  module _ (zeroed : (t : Term) → P t → P (term t.key zero64)) where
    share_keeps : (ts : List Term) (t : Term) → P t → All P ts → All P (share ts t)
    unfolding share
    share_keeps ts t p h =
        let z = term t.key zero64 in
        add_to_keeps t.key t.coeff (cond (is_in t.key ts) ts (ts ++ (z ∷ []))) p
        (cond_holds (All P) (is_in t.key ts) h (all_append P ts (z ∷ []) h (zeroed t p, tt)))

    pub merged_keeps : (ts : List Term) → All P ts → All P (merged ts)
    merged_keeps [] h = tt
    merged_keeps (t ∷ []) h = h
    merged_keeps (t ∷ u ∷ ts) h = fold_keeps P (All P) share share_keeps (t ∷ u ∷ ts) [] h tt

-- ---- a channel

-- branches inserted, then coefficients scaled
pub channel_keeps : (w a b : ℕ) (c : ChannelAction) (p : List Term → Type 0) (q : Term → Type 0)
    → ((ts : List Term) (t : Term) → is_zletter w a t.key ≡ true → q t → p ts → p (insert ts (term (flip_at t.key (z_at w a)) (scaled_of c.z_to_identity t.coeff))))
    → ((met : Term → Bool) (by : Term → Float) (ts : List Term) → p ts → p (map (λ t. cond (met t) (term t.key (scaled_of (by t) t.coeff)) t) ts))
    → (ts : List Term) → All q ts → p ts → p (channeled w a b c ts)
unfolding channeled
channel_keeps w a b c p q step scales ts x y = go c.kind
  where
    f : Float
    f = c.z_to_identity

    go : (k : ChannelKind) → p (channel_by k w a b c ts)
    go Local =
        scales (λ t. has_letter w t.key a) (λ t. get_or c.lambda (letter_index w a t.key) nan) (with_branches w a f ts)
        (cond_holds p (is_zero f) y
        (fold_keeps q p (branch w a f) (λ us t h z. cond_cases p (is_zletter w a t.key) (λ e. step us t e h z) (λ e. z)) ts ts x y))
    go Depolarizing2q = scales (λ t. has_letter w t.key a || has_letter w t.key b) (λ t. get_or c.lambda 0 nan) ts y

-- each term
pub channel_all : (w a b : ℕ) (c : ChannelAction) (P Q : Term → Type 0)
    → ((k : Key) (c d : Float) → P (term k c) → P (term k d) → P (term k (plus_of c d)))
    → ((f : Float) (t : Term) → P t → P (term t.key (scaled_of f t.coeff)))
    → ((t : Term) → is_zletter w a t.key ≡ true → Q t → P (term (flip_at t.key (z_at w a)) (scaled_of c.z_to_identity t.coeff)))
    → ((t : Term) → Q t → P t) → (ts : List Term) → All Q ts → All P (channeled w a b c ts)
channel_all w a b c P Q plus scaled cleared stays ts x =
    channel_keeps w a b c (All P) Q (λ us t e h. insert_keeps P plus us _ (cleared t e h))
    (λ met by us. all_map P P _ us (λ t h. cond_holds P (met t) (scaled (by t) t h) h)) ts x (all_imp Q P ts stays x)

-- ---- a rotation

module _ (w : ℕ) (met : Key → Bool) (partner : Key → Key) (sin cos : Float) where
  -- what a row appends
  abbrev pub appended_of : List Term → Term → List Term
  appended_of old t = cond (met t.key) (appended_term w met partner sin cos t (find (partner t.key) old)) []

  -- what becomes of a row, and what it appends
  pub row_cases : (old : List Term) (t : Term) (P : Term → List Term → Type 0) → (met t.key ≡ false → P t [])
      → ((d : Float) → met t.key ≡ true → find (partner t.key) old ≡ some d → P (term t.key (mixed (odd_y w t.key) sin cos t.coeff d)) [])
      → (met t.key ≡ true → find (partner t.key) old ≡ none → is_zero cos ≡ true → P (flipped_term w met partner sin cos t) [])
      → (met t.key ≡ true → find (partner t.key) old ≡ none → is_zero cos ≡ false
      → P (term t.key (scaled_of cos t.coeff)) (flipped_term w met partner sin cos t ∷ []))
      → P (turned_row w met partner sin cos old t) (appended_of old t)
  row_cases old t P unmet pair quarter lone = go (met t.key) (find (partner t.key) old) (is_zero cos) refl refl refl
    where
      go : (b : Bool) (f : Option Float) (z : Bool) → met t.key ≡ b → find (partner t.key) old ≡ f → is_zero cos ≡ z
          → P (cond b (turned_term w met partner sin cos t f) t) (cond b (appended_term w met partner sin cos t f) [])
      go false f z m e q = unmet m
      go true (some d) z m e q = pair d m e
      go true none true m e q = rw q (quarter m e q)
      go true none false m e q = rw q (lone m e q)

  -- P of the rows after the rotation, from Q of those before
  module _ (P Q : Term → Type 0) (ts : List Term) (stays : (t : Term) → Q t → P t)
      (scaled : (t : Term) → Q t → met t.key ≡ true → P (term t.key (scaled_of cos t.coeff)))
      (flipped : (t : Term) → Q t → met t.key ≡ true → P (flipped_term w met partner sin cos t))
      (pair : (t : Term) (d : Float) → Q t → met t.key ≡ true → find (partner t.key) ts ≡ some d → P (term t.key (mixed (odd_y w t.key) sin cos t.coeff d))) where
    row_keeps : (t : Term) → Q t → P (turned_row w met partner sin cos ts t) × All P (appended_of ts t)
    row_keeps t h = row_cases ts t (λ u l. P u × All P l) (λ m. (stays t h, tt)) (λ d m e. (pair t d h m e, tt)) (λ m e z. (flipped t h m, tt))
        (λ m e z. (scaled t h m, (flipped t h m, tt)))

    appended_keeps : (us : List Term) → All Q us → All P (appended_rows w met partner sin cos ts us)
    unfolding appended_rows
    appended_keeps [] x = tt
    appended_keeps (t ∷ us) x = all_append P (appended_of ts t) (appended_rows w met partner sin cos ts us) (row_keeps t x.0).1 (appended_keeps us x.1)

    pub rotated_keeps : All Q ts → All P (rotated w met partner sin cos ts)
    unfolding rotated
    rotated_keeps x =
        cond_holds (All P) (is_zero sin)
        (all_map Q P (scaled_met w met partner sin cos) ts (λ t h. cond_cases P (met t.key) (scaled t h) (λ m. stays t h)) x)
        (all_append P (map (turned_row w met partner sin cos ts) ts) (appended_rows w met partner sin cos ts ts)
        (all_map Q P (turned_row w met partner sin cos ts) ts (λ t h. (row_keeps t h).0) x) (appended_keeps ts x))
