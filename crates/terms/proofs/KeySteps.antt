-- What a step keeps of the words of its terms: a property that a gate, a partner or a cleared Z keeps of a word holds of all words of the result. Assumes nothing.
use Prim.Native.Nat.{ℕ}
use mathlib.Core.Bool.{Bool}
use mathlib.Core.List.{List, map}
use lib.Ieee.{Float}
use Rattle.words.specs.declared.Gate.{Gate}
use Rattle.words.specs.Keys.{Key, flip_at, z_at}
use Rattle.words.specs.Gates.{conj_key}
use Rattle.terms.specs.declared.ChannelAction.{ChannelAction}
use Rattle.terms.specs.Lists.{All}
use Rattle.terms.specs.Term.{Term, conjugated}
use Rattle.terms.specs.Rotation.{rotated}
use Rattle.terms.specs.Channel.{channeled}
use Rattle.terms.specs.Truncation.{kept_of}
use Rattle.terms.proofs.AllLaws.{all_map}
use Rattle.terms.proofs.StepLaws.{rotated_keeps, channel_all}
use Rattle.terms.proofs.DistinctLaws.{kept_all}

module _ (P : Key → Type 0) where
  abbrev pub OfKey : Term → Type 0
  OfKey t = P t.key

  abbrev pub AllKeys : List Term → Type 0
  AllKeys ts = All OfKey ts

  pub keys_kept : (e : Float) (ts : List Term) → AllKeys ts → AllKeys (kept_of e ts)
  keys_kept = kept_all OfKey

  pub keys_gate : (w : ℕ) (g : Gate) (a b : ℕ) → ((k : Key) → P k → P (conj_key g w a b k)) → (ts : List Term) → AllKeys ts → AllKeys (map (conjugated w g a b) ts)
  unfolding conjugated
  keys_gate w g a b m ts = all_map OfKey OfKey (conjugated w g a b) ts (λ t. m t.key)

  pub keys_rotated : (w : ℕ) (met : Key → Bool) (partner : Key → Key) (sin cos : Float) → ((k : Key) → P k → P (partner k)) → (ts : List Term) → AllKeys ts
      → AllKeys (rotated w met partner sin cos ts)
  keys_rotated w met partner sin cos m ts =
      rotated_keeps w met partner sin cos OfKey OfKey ts (λ t h. h) (λ t h e. h) (λ t h e. m t.key h) (λ t d h e f. h)

  pub keys_channeled : (w a b : ℕ) → ((k : Key) → P k → P (flip_at k (z_at w a))) → (c : ChannelAction) (ts : List Term) → AllKeys ts → AllKeys (channeled w a b c ts)
  keys_channeled w a b m c = channel_all w a b c OfKey OfKey (λ k c d p q. p) (λ f t p. p) (λ t e p. m t.key p) (λ t p. p)
