-- "Channels: a multiplier for each of X, Y, Z, in the operation order of `channel_action`."
use Rattle.std.specs.Prelude.{ℕ, Bool, cond, not, ◌&&◌, ◌||◌, List, [], ◌∷◌, ◌++◌, map, get_or, take, Float}
use Rattle.std.specs.Float.{nan, binary64}
use Rattle.std.specs.Float.Ieee.{add, sub, mul, div}
use Rattle.numbers.specs.Constants.{zero64, one64, two64, three64, four64, fifteen64, sixteen64}
use Rattle.numbers.specs.Tests.{is_zero, at_least_zero}
use Rattle.numbers.specs.Root.{sqrt_of}
use Rattle.words.specs.Keys.{Key, bit_at, flip_at, z_at, has_letter}
use Rattle.terms.specs.declared.NoiseChannel.{NoiseChannel}
use Rattle.terms.specs.declared.NoiseChannel.TheVariants.{Pauli, Depolarizing, AmplitudeDamping, PhaseDamping, ThermalRelaxation, TwoQubitDepolarizing}
use Rattle.terms.specs.declared.ChannelKind.{ChannelKind}
use Rattle.terms.specs.declared.ChannelKind.TheVariants.{Local, Depolarizing2q}
use Rattle.terms.specs.declared.ChannelAction.{ChannelAction}
use Rattle.terms.specs.Coefficient.{scaled_of}
use Rattle.terms.specs.Lists.{foldl}
use Rattle.terms.specs.Term.{Term, term, is_in, add_to}

abbrev pub local : Float → Float → Float → Float → ChannelAction
local x y z i = record { kind = Local; lambda = x ∷ y ∷ z ∷ []; z_to_identity = i }

-- x - y, rounded once
infixl 30 ◌⊖◌
abbrev ◌⊖◌ : Float → Float → Float
x ⊖ y = sub binary64 x y

-- pi = 1 - px - py - pz; pi + px - py - pz, pi + py - px - pz, pi + pz - px - py
unfoldable pub pauli_action : Float → Float → Float → ChannelAction
pauli_action px py pz =
    let pi = one64 ⊖ px ⊖ py ⊖ pz in
    local (add binary64 pi px ⊖ py ⊖ pz) (add binary64 pi py ⊖ px ⊖ pz) (add binary64 pi pz ⊖ px ⊖ py) zero64

-- 1 - 4 p / 3
unfoldable pub depol_action : Float → ChannelAction
depol_action p = let l = one64 ⊖ div binary64 (mul binary64 four64 p) three64 in local l l l zero64

-- max(1 - gamma, 0), and its root: phase damping and amplitude damping
abbrev pub keep_of : Float → Float
keep_of gamma = at_least_zero (one64 ⊖ gamma)

unfoldable pub phase_action : Float → ChannelAction
phase_action gamma = let k = sqrt_of (keep_of gamma) in local k k one64 zero64

unfoldable pub damp_action : Float → ChannelAction
damp_action gamma = let k = keep_of gamma in local (sqrt_of k) (sqrt_of k) k gamma

-- gad × (1 - 2 excited) goes to the identity
unfoldable pub thermal_action : Float → Float → Float → ChannelAction
thermal_action gad gpd excited =
    let k = keep_of gad in
    let l = mul binary64 (sqrt_of k) (sqrt_of (keep_of gpd)) in
    local l l k (mul binary64 gad (one64 ⊖ mul binary64 two64 excited))

-- 1 - 16 p / 15, on two targets
unfoldable pub depol2_action : Float → ChannelAction
depol2_action p =
    let l = one64 ⊖ div binary64 (mul binary64 sixteen64 p) fifteen64 in
    record { kind = Depolarizing2q; lambda = l ∷ l ∷ l ∷ []; z_to_identity = zero64 }

-- `channel_action`
unfoldable pub action_of : NoiseChannel → ChannelAction
unfolding pauli_action depol_action phase_action damp_action thermal_action depol2_action
action_of (Pauli px py pz) = pauli_action px py pz
action_of (Depolarizing p) = depol_action p
action_of (PhaseDamping gamma) = phase_action gamma
action_of (AmplitudeDamping gamma) = damp_action gamma
action_of (ThermalRelaxation gad gpd excited) = thermal_action gad gpd excited
action_of (TwoQubitDepolarizing p) = depol2_action p

-- `pauli_letter`: the letters X, Y, Z at the target have index 0, 1, 2
abbrev pub is_zletter : ℕ → ℕ → Key → Bool
is_zletter w q k = not (bit_at k q) && bit_at k (z_at w q)

abbrev pub letter_index : ℕ → ℕ → Key → ℕ
letter_index w q k = cond (bit_at k q) (cond (bit_at k (z_at w q)) 1 0) 2

-- "to the identity term, appended if absent"
unfoldable pub insert : List Term → Term → List Term
insert ts t = cond (is_in t.key ts) (add_to t.key t.coeff ts) (ts ++ (t ∷ []))

-- "damp and thermal first add Z's old coefficient, times `z_to_identity` if that isn't 0, to the identity term":
-- the same word with z cleared at the target
abbrev pub branch : ℕ → ℕ → Float → List Term → Term → List Term
branch w q f ts t = cond (is_zletter w q t.key) (insert ts (term (flip_at t.key (z_at w q)) (scaled_of f t.coeff))) ts

-- the branches of the first i terms, as they are added row after row
abbrev pub branches_to : ℕ → ℕ → Float → ℕ → List Term → List Term
branches_to w q f i ts = foldl (branch w q f) ts (take i ts)

abbrev pub with_branches : ℕ → ℕ → Float → List Term → List Term
with_branches w q f ts = cond (is_zero f) ts (foldl (branch w q f) ts ts)

-- each term times the multiplier of its letter at the target
abbrev pub scaled_letter : ℕ → ℕ → List Float → Term → Term
scaled_letter w q l t =
    cond (has_letter w t.key q) (term t.key (scaled_of (get_or l (letter_index w q t.key) nan) t.coeff)) t

unfoldable pub scaled_local : ℕ → ℕ → List Float → List Term → List Term
scaled_local w q l ts = map (scaled_letter w q l) ts

-- "depol2 scales each term that has a letter on at least one target"
abbrev pub scaled_either : ℕ → ℕ → ℕ → Float → Term → Term
scaled_either w a b f t = cond (has_letter w t.key a || has_letter w t.key b) (term t.key (scaled_of f t.coeff)) t

-- `apply_backward_channel`: "damp and thermal first add .."
abbrev pub channel_by : ChannelKind → ℕ → ℕ → ℕ → ChannelAction → List Term → List Term
channel_by Local w a b c ts = scaled_local w a c.lambda (with_branches w a c.z_to_identity ts)
channel_by Depolarizing2q w a b c ts = map (scaled_either w a b (get_or c.lambda 0 nan)) ts

unfoldable pub channeled : ℕ → ℕ → ℕ → ChannelAction → List Term → List Term
unfolding scaled_local
channeled w a b c ts = channel_by c.kind w a b c ts
