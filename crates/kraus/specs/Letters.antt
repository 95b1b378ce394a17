-- The channels on terms, by the letter of the word at the target: I, X, Z, Y where (x, z) is (0, 0), (1, 0), (0, 1), (1, 1).
use Rattle.std.specs.Prelude.{ℕ, Bool, true, false, cond, List, [], ◌∷◌, map, Float}
use Rattle.numbers.specs.Tests.{is_zero}
use Rattle.words.specs.Keys.{Key, bit_at, flip_at, z_at}
use Rattle.terms.specs.declared.NoiseChannel.{NoiseChannel}
use Rattle.terms.specs.declared.NoiseChannel.TheVariants as N
use Rattle.terms.specs.Coefficient.{scaled_of}
use Rattle.terms.specs.Lists.{foldl}
use Rattle.terms.specs.Term.{Term, term}
use Rattle.terms.specs.Channel.{insert}
use Rattle.kraus.specs.Formula.{rounded}
use Rattle.kraus.specs.Operators.{Letter, I, X, Y, Z}
use Rattle.kraus.specs.Channels.{Channel, Pauli, Depol, Damp, Phase, Thermal, multiplier, to_identity, multiplier2}

abbrev pub letter_of : Bool → Bool → Letter
letter_of false false = I
letter_of true false = X
letter_of true true = Y
letter_of false true = Z

abbrev pub letter_at : ℕ → ℕ → Key → Letter
letter_at w q k = letter_of (bit_at k q) (bit_at k (z_at w q))

abbrev pub scaled : Float → Term → Term
scaled f t = term t.key (scaled_of f t.coeff)

-- the multiplier of the letter; that of I is 1, and nothing is multiplied
abbrev pub by_letter : Channel → List Float → Letter → Term → Term
by_letter c rs I t = t
by_letter c rs X t = scaled (rounded rs (multiplier c X)) t
by_letter c rs Y t = scaled (rounded rs (multiplier c Y)) t
by_letter c rs Z t = scaled (rounded rs (multiplier c Z)) t

-- what goes to the identity, from Z: the word with I for Z (`z_to_i`, proofs/ByLetter)
abbrev pub identity_by : ℕ → ℕ → Float → Letter → List Term → Term → List Term
identity_by w q f I us t = us
identity_by w q f X us t = us
identity_by w q f Y us t = us
identity_by w q f Z us t = insert us (term (flip_at t.key (z_at w q)) (scaled_of f t.coeff))

-- a channel with one target: "damp and thermal first add Z's old coefficient, times `z_to_identity` if that isn't 0, to the identity term"
abbrev pub with_identity : ℕ → ℕ → Float → List Term → List Term
with_identity w q f ts = cond (is_zero f) ts (foldl (λ us t. identity_by w q f (letter_at w q t.key) us t) ts ts)

abbrev pub sent : ℕ → ℕ → Channel → List Float → List Term → List Term
sent w q c rs ts = map (λ t. by_letter c rs (letter_at w q t.key) t) (with_identity w q (rounded rs (to_identity c)) ts)

-- depol2
abbrev pub by_letters : List Float → Letter → Letter → Term → Term
by_letters rs I I t = t
by_letters rs I X t = scaled (rounded rs (multiplier2 I X)) t
by_letters rs I Y t = scaled (rounded rs (multiplier2 I Y)) t
by_letters rs I Z t = scaled (rounded rs (multiplier2 I Z)) t
by_letters rs X m t = scaled (rounded rs (multiplier2 X m)) t
by_letters rs Y m t = scaled (rounded rs (multiplier2 Y m)) t
by_letters rs Z m t = scaled (rounded rs (multiplier2 Z m)) t

abbrev pub sent2 : ℕ → ℕ → ℕ → List Float → List Term → List Term
sent2 w a b rs ts = map (λ t. by_letters rs (letter_at w a t.key) (letter_at w b t.key) t) ts

-- the six, with their reals in the order of the sheet
abbrev pub noisy : ℕ → ℕ → ℕ → NoiseChannel → List Term → List Term
noisy w a b (N.Pauli px py pz) ts = sent w a Pauli (px ∷ py ∷ pz ∷ []) ts
noisy w a b (N.Depolarizing p) ts = sent w a Depol (p ∷ []) ts
noisy w a b (N.AmplitudeDamping gamma) ts = sent w a Damp (gamma ∷ []) ts
noisy w a b (N.PhaseDamping gamma) ts = sent w a Phase (gamma ∷ []) ts
noisy w a b (N.ThermalRelaxation gad gpd excited) ts = sent w a Thermal (gad ∷ gpd ∷ excited ∷ []) ts
noisy w a b (N.TwoQubitDepolarizing p) ts = sent2 w a b (p ∷ []) ts
