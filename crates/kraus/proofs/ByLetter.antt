-- The definition of the channels (terms Channel) is that of the multipliers, letter by letter. Assumes nothing.
use Prim.Native.Nat.{ℕ, ◌*◌, ◌<◌}
use native.Mathlib.Omega.{arith}
use mathlib.Core.Path.{◌≡◌, refl, ap, ap₂, ◌∙◌, fun_ext}
use mathlib.Core.Logic.{◌≢◌}
use mathlib.Core.Bool.{Bool, true, false, not, cond, ◌&&◌, ◌||◌}
use mathlib.Core.List.{List, [], ◌∷◌, map}
use lib.ListN.{get_or}
use lib.Ieee.{Float, nan, of_bits}
use Rattle.numbers.specs.Tests.{is_zero}
use Rattle.words.specs.Keys.{Key, bit_at, flip_at, z_at}
use Rattle.words.proofs.KeyLaws.{bit_at_cleared, bit_at_flip_other}
use Rattle.terms.specs.declared.NoiseChannel.{NoiseChannel}
use Rattle.terms.specs.declared.NoiseChannel.TheVariants as N
use Rattle.terms.specs.Coefficient.{scaled_of}
use Rattle.terms.specs.Lists.{foldl}
use Rattle.terms.specs.Term.{Term, term}
use Rattle.terms.specs.Channel.{action_of, insert, channeled, scaled_letter, scaled_either, branch}
use Rattle.kraus.specs.Formula.{rounded}
use Rattle.kraus.specs.Operators.{I, Z}
use Rattle.kraus.specs.Channels.{Channel, Pauli, Depol, Damp, Phase, Thermal, to_identity, rounded_action, rounded_action2, either_letter}
use Rattle.kraus.specs.Letters.{letter_of, letter_at, by_letter, identity_by, sent, by_letters, sent2, noisy}

-- ---- the two readings: a channel's action is the rounded formulas

pub pauli_rounded : (px py pz : Float) → action_of (N.Pauli px py pz) ≡ rounded_action Pauli (px ∷ py ∷ pz ∷ [])
unfolding action_of rounded of_bits
pauli_rounded px py pz = refl

pub depol_rounded : (p : Float) → action_of (N.Depolarizing p) ≡ rounded_action Depol (p ∷ [])
unfolding action_of rounded of_bits
depol_rounded p = refl

pub damp_rounded : (gamma : Float) → action_of (N.AmplitudeDamping gamma) ≡ rounded_action Damp (gamma ∷ [])
unfolding action_of rounded of_bits
damp_rounded gamma = refl

pub phase_rounded : (gamma : Float) → action_of (N.PhaseDamping gamma) ≡ rounded_action Phase (gamma ∷ [])
unfolding action_of rounded of_bits
phase_rounded gamma = refl

pub thermal_rounded : (gad gpd excited : Float) → action_of (N.ThermalRelaxation gad gpd excited) ≡ rounded_action Thermal (gad ∷ gpd ∷ excited ∷ [])
unfolding action_of rounded of_bits
thermal_rounded gad gpd excited = refl

pub depol2_rounded : (p : Float) → action_of (N.TwoQubitDepolarizing p) ≡ rounded_action2 (p ∷ [])
unfolding action_of rounded of_bits
depol2_rounded p = refl

-- ---- the letters of the words

scaled_letter_lem : (c : Channel) (rs : List Float) (w q : ℕ) (t : Term)
    → scaled_letter w q (rounded_action c rs).lambda t ≡ by_letter c rs (letter_at w q t.key) t
scaled_letter_lem c rs w q t = go (bit_at t.key q) (bit_at t.key (z_at w q))
  where
    go : (x z : Bool)
        → cond (x || z) (term t.key (scaled_of (get_or (rounded_action c rs).lambda (cond x (cond z 1 0) 2) nan) t.coeff)) t
        ≡ by_letter c rs (letter_of x z) t
    go false false = refl
    go false true = refl
    go true false = refl
    go true true = refl

branched : (w q : ℕ) (f : Float) (us : List Term) (t : Term) → branch w q f us t ≡ identity_by w q f (letter_at w q t.key) us t
branched w q f us t = go (bit_at t.key q) (bit_at t.key (z_at w q))
  where
    go : (x z : Bool)
        → cond (not x && z) (insert us (term (flip_at t.key (z_at w q)) (scaled_of f t.coeff))) us ≡ identity_by w q f (letter_of x z) us t
    go false false = refl
    go false true = refl
    go true false = refl
    go true true = refl

scaled_either_lem : (rs : List Float) (w a b : ℕ) (t : Term)
    → scaled_either w a b (rounded rs either_letter) t ≡ by_letters rs (letter_at w a t.key) (letter_at w b t.key) t
scaled_either_lem rs w a b t = go (bit_at t.key a) (bit_at t.key (z_at w a)) (bit_at t.key b) (bit_at t.key (z_at w b))
  where
    go : (x z u v : Bool)
        → cond ((x || z) || (u || v)) (term t.key (scaled_of (rounded rs either_letter) t.coeff)) t ≡ by_letters rs (letter_of x z) (letter_of u v) t
    go false false false false = refl
    go false false false true = refl
    go false false true false = refl
    go false false true true = refl
    go false true u v = refl
    go true false u v = refl
    go true true u v = refl

one_target : (c : Channel) (rs : List Float) (w a b : ℕ) (ts : List Term) → channeled w a b (rounded_action c rs) ts ≡ sent w a c rs ts
unfolding channeled
one_target c rs w a b ts =
    ap₂ (λ (f : List Term → Term → List Term) (g : Term → Term). map g (cond (is_zero (rounded rs (to_identity c))) ts (foldl f ts ts)))
    (fun_ext (λ us. fun_ext (λ t. branched w a (rounded rs (to_identity c)) us t)))
    (fun_ext (λ t. scaled_letter_lem c rs w a t))

two_targets : (rs : List Float) (w a b : ℕ) (ts : List Term) → channeled w a b (rounded_action2 rs) ts ≡ sent2 w a b rs ts
unfolding channeled
two_targets rs w a b ts = ap (λ (g : Term → Term). map g ts) (fun_ext (λ t. scaled_either_lem rs w a b t))

-- the definition of a channel's step
pub channeled_published : (w a b : ℕ) (c : NoiseChannel) (ts : List Term) → channeled w a b (action_of c) ts ≡ noisy w a b c ts
channeled_published w a b (N.Pauli px py pz) ts = rw (pauli_rounded px py pz) (one_target Pauli _ w a b ts)
channeled_published w a b (N.Depolarizing p) ts = rw (depol_rounded p) (one_target Depol _ w a b ts)
channeled_published w a b (N.AmplitudeDamping gamma) ts = rw (damp_rounded gamma) (one_target Damp _ w a b ts)
channeled_published w a b (N.PhaseDamping gamma) ts = rw (phase_rounded gamma) (one_target Phase _ w a b ts)
channeled_published w a b (N.ThermalRelaxation gad gpd excited) ts = rw (thermal_rounded gad gpd excited) (one_target Thermal _ w a b ts)
channeled_published w a b (N.TwoQubitDepolarizing p) ts = rw (depol2_rounded p) (two_targets _ w a b ts)

-- the word that Z's branch goes to has I at the target, and every other letter as it was
pub z_to_i : (w q : ℕ) (k : Key) → q < 64 * w → letter_at w q k ≡ Z → letter_at w q (flip_at k (z_at w q)) ≡ I
z_to_i w q k l h = ap₂ letter_of (bit_at_flip_other k (z_at w q) q (λ z. omega arith) ∙ fst) (bit_at_cleared k (z_at w q) snd)
  where
    x_of : (x z : Bool) → letter_of x z ≡ Z → x ≡ false
    x_of false false e = refl
    x_of false true e = refl
    x_of true false e = cc
    x_of true true e = cc

    z_of : (x z : Bool) → letter_of x z ≡ Z → z ≡ true
    z_of false false e = cc
    z_of false true e = refl
    z_of true false e = cc
    z_of true true e = refl

    fst : bit_at k q ≡ false
    fst = x_of (bit_at k q) (bit_at k (z_at w q)) h

    snd : bit_at k (z_at w q) ≡ true
    snd = z_of (bit_at k q) (bit_at k (z_at w q)) h

pub others_kept : (w q r : ℕ) (k : Key) → r < 64 * w → r ≢ q → letter_at w r (flip_at k (z_at w q)) ≡ letter_at w r k
others_kept w q r k l d =
    ap₂ letter_of (bit_at_flip_other k (z_at w q) r (λ z. omega arith)) (bit_at_flip_other k (z_at w q) (z_at w r) (λ z. d (omega arith)))
