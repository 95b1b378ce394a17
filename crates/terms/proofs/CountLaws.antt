-- How many terms there are after a step: no more after truncation and merge, at most twice as many after a channel and a rotation. Assumes nothing.
use mathlib.Core.Bool.{Bool, cond}
use mathlib.Core.List.{List, [], ◌∷◌, ◌++◌, map}
use Prim.Native.Nat.{ℕ, ◌+◌, ◌*◌, ◌≤◌}
use native.Mathlib.Omega.{arith}
use lib.ListN.{length, length-append, length-map}
use lib.Ieee.{Float}
use Rattle.numbers.specs.Tests.{is_zero}
use Rattle.words.specs.Keys.{Key}
use Rattle.terms.specs.declared.ChannelAction.{ChannelAction}
use Rattle.terms.specs.declared.ChannelKind.{ChannelKind}
use Rattle.terms.specs.declared.ChannelKind.TheVariants.{Local, Depolarizing2q}
use Rattle.terms.specs.Lists.{foldl}
use Rattle.terms.specs.Term.{Term, is_in}
use Rattle.terms.specs.Start.{share, coalesced, merged}
use Rattle.terms.specs.Rotation.{scaled_met, turned_row, appended_rows, rotated}
use Rattle.terms.specs.Channel.{is_zletter, insert, branch, channel_by, channeled}
use Rattle.terms.specs.Truncation.{is_small, kept_of}
use Rattle.terms.proofs.CaseLaws.{cond_holds}
use Rattle.terms.proofs.DistinctLaws.{add_to_length}
use Rattle.terms.proofs.BranchLaws.{appended_cases}

-- steps that add at most one term each
pub fold_count : (f : List Term → Term → List Term) → ((ts : List Term) (t : Term) → length (f ts t) ≤ length ts + 1) → (ts us : List Term) → length (foldl f us ts) ≤ length us + length ts
unfolding foldl
fold_count f one [] us = omega arith
fold_count f one (t ∷ ts) us = omega (arith, fold_count f one ts (f us t), one us t)

-- of two lists, each short enough
either : (b : Bool) (us vs : List Term) (n : ℕ) → length us ≤ n → length vs ≤ n → length (cond b us vs) ≤ n
either b us vs n p q = cond_holds (λ l. length l ≤ n) b p q

snoc_count : (b : Bool) (ts us : List Term) (t : Term) → length us ≤ length ts + 1 → length (cond b us (ts ++ (t ∷ []))) ≤ length ts + 1
snoc_count b ts us t h = either b us (ts ++ (t ∷ [])) (length ts + 1) h (omega (arith, length-append ts (t ∷ [])))

-- ---- truncation and the merge

pub kept_count : (e : Float) (ts : List Term) → length (kept_of e ts) ≤ length ts
unfolding kept_of
kept_count e [] = omega arith
kept_count e (t ∷ ts) = let h = kept_count e ts in either (is_small e t) (kept_of e ts) (t ∷ kept_of e ts) (length (t ∷ ts)) (omega arith) (omega arith)

pub share_count : (ts : List Term) (t : Term) → length (share ts t) ≤ length ts + 1
unfolding share
share_count ts t = rw add_to_length (snoc_count (is_in t.key ts) ts ts _ (omega arith))

pub coalesced_count : (ts : List Term) → length (coalesced ts) ≤ length ts
coalesced_count ts = omega (arith, fold_count share share_count ts [])

pub merged_count : (ts : List Term) → length (merged ts) ≤ length ts
merged_count [] = omega arith
merged_count (t ∷ []) = omega arith
merged_count (t ∷ u ∷ ts) = coalesced_count (t ∷ u ∷ ts)

-- ---- a channel

pub insert_count : (ts : List Term) (t : Term) → length (insert ts t) ≤ length ts + 1
unfolding insert
insert_count ts t = snoc_count (is_in t.key ts) ts _ t (rw add_to_length (omega arith))

pub branch_count : (w q : ℕ) (f : Float) (ts : List Term) (t : Term) → length (branch w q f ts t) ≤ length ts + 1
branch_count w q f ts t = either (is_zletter w q t.key) _ ts (length ts + 1) (insert_count ts _) (omega arith)

pub channeled_count : (w a b : ℕ) (c : ChannelAction) (ts : List Term) → length (channeled w a b c ts) ≤ 2 * length ts
unfolding channeled
channeled_count w a b c ts = by c.kind
  where
    f : Float
    f = c.z_to_identity

    by : (k : ChannelKind) → length (channel_by k w a b c ts) ≤ 2 * length ts
    by Local = rw length-map (either (is_zero f) ts (foldl (branch w a f) ts ts) (2 * length ts) (omega arith) (omega (arith, fold_count (branch w a f) (branch_count w a f) ts ts)))
    by Depolarizing2q = rw length-map (omega arith)

-- ---- a rotation

module _ (w : ℕ) (met : Key → Bool) (partner : Key → Key) (sin cos : Float) where
  appended_count : (old ts : List Term) → length (appended_rows w met partner sin cos old ts) ≤ length ts
  unfolding appended_rows
  appended_count old [] = omega arith
  appended_count old (t ∷ ts) =
      let h = appended_count old ts in
      appended_cases w met partner sin cos (λ l. length (l ++ appended_rows w met partner sin cos old ts) ≤ length (t ∷ ts)) old t (omega arith) (λ z e. omega arith)

  pub rotated_count : (ts : List Term) → length (rotated w met partner sin cos ts) ≤ 2 * length ts
  unfolding rotated
  rotated_count ts =
      either (is_zero sin) (map (scaled_met w met partner sin cos) ts) (map (turned_row w met partner sin cos ts) ts ++ appended_rows w met partner sin cos ts ts) (2 * length ts) (rw length-map (omega arith)) (simp (length-append, length-map) (omega (arith, appended_count ts ts)))
