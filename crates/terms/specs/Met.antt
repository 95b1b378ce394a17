-- The targets of a step, and "how many terms, before it acted, had a letter on at least one of its targets".
use Rattle.std.specs.Prelude.{ℕ, ◌+◌, ◌/◌, Bool, true, false, cond, ◌&&◌, ◌||◌, List, [], ◌∷◌, ltb, Option, None, Some}
use Rattle.words.specs.declared.Gate.{Gate}
use Rattle.words.specs.Keys.{Key, has_letter}
use Rattle.words.specs.Gates.{has_two_targets}
use Rattle.terms.specs.declared.Axis.{Axis}
use Rattle.terms.specs.declared.Axis.TheVariants.{Z, Zz}
use Rattle.terms.specs.declared.ChannelKind.{ChannelKind}
use Rattle.terms.specs.declared.ChannelKind.TheVariants.{Local, Depolarizing2q}
use Rattle.terms.specs.Lists.{foldl}
use Rattle.terms.specs.Term.{Term}

-- one target, or two
abbrev pub one_or_two : Bool → ℕ → ℕ → List ℕ
one_or_two two a b = cond two (a ∷ b ∷ []) (a ∷ [])

-- the targets of a step: one, and a second where there is one
abbrev pub targets : ℕ → Option ℕ → List ℕ
targets a None = a ∷ []
targets a (Some b) = a ∷ b ∷ []

-- of a gate, a rotation and a channel
abbrev pub gate_targets : Gate → ℕ → ℕ → List ℕ
gate_targets g a b = one_or_two (has_two_targets g) a b

abbrev pub axis_targets : Axis → List ℕ
axis_targets (Z q) = q ∷ []
axis_targets (Zz a b) = a ∷ b ∷ []

-- "depol2 .. two" targets, the other channels one
abbrev pub acts_on_two : ChannelKind → Bool
acts_on_two Local = false
acts_on_two Depolarizing2q = true

abbrev pub kind_targets : ChannelKind → ℕ → ℕ → List ℕ
kind_targets k a b = one_or_two (acts_on_two k) a b

-- whether keys of 2 * w words have the qubits
abbrev pub in_words : ℕ → List ℕ → Bool
in_words w [] = true
in_words w (q ∷ qs) = ltb (q / 64) w && in_words w qs

-- a letter on at least one of the qubits
unfoldable pub letter_among : ℕ → List ℕ → Key → Bool
letter_among w [] k = false
letter_among w (q ∷ qs) k = has_letter w k q || letter_among w qs k

-- how many terms have one: what a step at the targets qs reports
abbrev pub add_met : ℕ → List ℕ → ℕ → Term → ℕ
add_met w qs n t = n + cond (letter_among w qs t.key) 1 0

abbrev pub met_terms : ℕ → List ℕ → List Term → ℕ
met_terms w qs ts = foldl (add_met w qs) 0 ts
