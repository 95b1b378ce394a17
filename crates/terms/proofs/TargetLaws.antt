-- The targets of a step: a gate looks at no number that is no target, and an action has its channel's kind. Assumes nothing.
use Prim.Native.Nat.{ℕ}
use mathlib.Core.Path.{◌≡◌, refl, sym, ap, ap₂, ◌∙◌}
use mathlib.Core.Bool.{Bool, true, false, cond}
use mathlib.Core.List.{[], ◌∷◌}
use Rattle.words.specs.declared.Gate.{Gate}
use Rattle.words.specs.Keys.{Key}
use Rattle.words.specs.Gates.{has_two_targets, bits_at}
use Rattle.words.proofs.GateLaws.{one_target_key, one_target_phase}
use Rattle.terms.specs.declared.NoiseChannel.{NoiseChannel}
use Rattle.terms.specs.declared.NoiseChannel.TheVariants.{Pauli, Depolarizing, AmplitudeDamping, PhaseDamping, ThermalRelaxation, TwoQubitDepolarizing}
use Rattle.terms.specs.declared.ChannelKind.{ChannelKind}
use Rattle.terms.specs.declared.ChannelKind.TheVariants.{Local, Depolarizing2q}
use Rattle.terms.specs.Coefficient.{signed}
use Rattle.terms.proofs.SignLaws.{turn_sign, negates_turns}
use Rattle.terms.specs.Term.{odd_y, Term, term, conjugated}
use Rattle.terms.specs.Met.{gate_targets}
use Rattle.terms.specs.Channel.{pauli_action, depol_action, phase_action, damp_action, thermal_action, depol2_action, action_of}

abbrev pub kind_of : NoiseChannel → ChannelKind
kind_of (Pauli x y z) = Local
kind_of (Depolarizing p) = Local
kind_of (AmplitudeDamping p) = Local
kind_of (PhaseDamping p) = Local
kind_of (ThermalRelaxation x y z) = Local
kind_of (TwoQubitDepolarizing p) = Depolarizing2q

pub action_kind : (c : NoiseChannel) → (action_of c).kind ≡ kind_of c
unfolding action_of pauli_action depol_action phase_action damp_action thermal_action depol2_action
action_kind (Pauli x y z) = refl
action_kind (Depolarizing p) = refl
action_kind (AmplitudeDamping p) = refl
action_kind (PhaseDamping p) = refl
action_kind (ThermalRelaxation x y z) = refl
action_kind (TwoQubitDepolarizing p) = refl

module _ (w : ℕ) (g : Gate) where
  one_target : (a b c : ℕ) (t : Term) → has_two_targets g ≡ false → conjugated w g a b t ≡ conjugated w g a c t
  unfolding conjugated
  one_target a b c t e =
      ap₂ (λ (k : Key) (n : Bool). term k (signed n t.coeff)) (one_target_key g w a b c t.key e)
      (negates_turns g (bits_at w a b t.key) (odd_y w t.key) ∙ ap (turn_sign (odd_y w t.key)) (one_target_phase g w a b c t.key e) ∙ sym (negates_turns g (bits_at w a c t.key) (odd_y w t.key)))

  pub gate_by_targets : (a b c d : ℕ) (t : Term) → gate_targets g a b ≡ gate_targets g c d → conjugated w g a b t ≡ conjugated w g c d t
  gate_by_targets a b c d t = go (has_two_targets g) refl
    where
      go : (two : Bool) → has_two_targets g ≡ two → cond two (a ∷ b ∷ []) (a ∷ []) ≡ cond two (c ∷ d ∷ []) (c ∷ [])
          → conjugated w g a b t ≡ conjugated w g c d t
      go true h e = ap₂ (λ (m n : ℕ). conjugated w g m n t) (cc) (cc)
      go false h e = ap (λ (m : ℕ). conjugated w g m b t) (cc) ∙ one_target c b d t h
