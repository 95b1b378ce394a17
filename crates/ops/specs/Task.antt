-- What a run is given, as values, and the questions that are put to it before it begins.
use Rattle.std.specs.Prelude.{ℕ, zero, suc, ◌*◌, Bool, true, false, cond, not, ◌&&◌, List, [], ◌∷◌, ltb, leb, eqb, length, Float}
use Rattle.std.specs.Float.Ieee.{eq}
use Rattle.numbers.specs.Constants.{one64}
use Rattle.numbers.specs.Tests.{is_finite, is_epsilon, in_sine, in_unit}
use Rattle.numbers.specs.Angle.{is_angle, is_mix}
use Rattle.words.specs.Keys.{Key, has_letter, width_of}
use Rattle.ops.specs.declared.Limits.{Limits}
use Rattle.ops.specs.declared.Op.{Op}
use Rattle.ops.specs.declared.Op.TheVariants.{Native, T, Tdg, Rz, P, Rzz, Pauli, Depol, Damp, Phase, Thermal, Depol2, Barrier}
use Rattle.ops.specs.Ops.{Sort, gate, rotation, channel, barrier, shape_of, targets}
use Rattle.ops.specs.declared.Run.{Run}
use Rattle.ops.specs.declared.Run.TheVariants.{Full, Cone, All, Path, Wide}

-- a `term` line: the word of its factors, and its weight
pub record Line : Type 0 where
  pub key : Key
  pub weight : Float

pub record Task : Type 0 where
  pub qubits : ℕ
  pub limits : Limits
  pub lines : List Line
  pub ops : List Op

abbrev pub width : Task → ℕ
width t = width_of t.qubits

-- a test of every element
unfoldable pub every : {A : Type 0} → (A → Bool) → List A → Bool
every p [] = true
every p (a ∷ l) = p a && every p l

-- the qubits below n at which a word has a letter
unfoldable pub letters_below : ℕ → ℕ → Key → List ℕ
letters_below w zero k = []
letters_below w (suc q) k = let r = letters_below w q k in cond (has_letter w k q) (q ∷ r) r

abbrev pub qubits_of : ℕ → Key → List ℕ
qubits_of w k = letters_below w (64 * w) k

-- 2. "Are qubits 1 to 256, limit 1 to 1,048,576, terms at most 1,024 and at most limit, ops at most 4,096?", of the four counts
abbrev pub counts_fit : ℕ → ℕ → ℕ → ℕ → Bool
counts_fit qubits limit terms ops =
    leb 1 qubits && leb qubits 256 && (leb 1 limit && leb limit 1048576) && (leb terms 1024 && leb terms limit && leb ops 4096)

unfoldable pub sizes_fit : Task → Bool
sizes_fit t = counts_fit t.qubits t.limits.limit (length t.lines) (length t.ops)

-- 3. "Does `cone` have one term of weight 1.0, `all` no terms, and do channels stand only in `path`?" `wide` "counts as `path`" (2026-10)
abbrev pub is_one : List Line → Bool
is_one [] = false
is_one (l ∷ []) = eq l.weight one64
is_one (l ∷ m ∷ ls) = false

abbrev pub not_channel : Sort → Bool
not_channel gate = true
not_channel rotation = true
not_channel channel = false
not_channel barrier = true

abbrev pub channel_free : Task → Bool
channel_free t = every (λ op. not_channel (shape_of op).sort) t.ops

unfoldable pub run_fits : Run → Task → Bool
unfolding every
run_fits Full t = channel_free t
run_fits Cone t = is_one t.lines && channel_free t
run_fits All t = eqb (length t.lines) 0 && channel_free t
run_fits Path t = true
run_fits Wide t = true

-- 4. "Are epsilon finite and at least 0, weights finite, sines and cosines from -1 to 1, rates and excited from 0 to 1?"
abbrev pub real_fits : Sort → Float → Bool
real_fits gate x = true
real_fits rotation x = in_sine x
real_fits channel x = in_unit x
real_fits barrier x = true

abbrev pub reals_fit : Op → Bool
reals_fit op = every (real_fits (shape_of op).sort) (shape_of op).reals

unfoldable pub reals_in_range : Task → Bool
unfolding every
reals_in_range t = is_epsilon t.limits.epsilon && every (λ l. is_finite l.weight) t.lines && every reals_fit t.ops

-- 11. "The trade now takes a pair as a rotation only if ..", "Pauli rates .. must sum to at most 1": rz, p and rzz carry a pair, pauli a triple. t and tdg
-- have their own sine and cosine, and the rates of thermal are no Pauli rates.
abbrev pub pair_holds : Op → Bool
pair_holds (Native g a b) = true
pair_holds (T q) = true
pair_holds (Tdg q) = true
pair_holds (Rz q s c) = is_angle s c
pair_holds (P q s c) = is_angle s c
pair_holds (Rzz a b s c) = is_angle s c
pair_holds (Pauli q x y z) = is_mix x y z
pair_holds (Depol q x) = true
pair_holds (Damp q x) = true
pair_holds (Phase q x) = true
pair_holds (Thermal q x y z) = true
pair_holds (Depol2 a b x) = true
pair_holds Barrier = true

unfoldable pub angles_hold : Task → Bool
unfolding every
angles_hold t = every pair_holds t.ops

-- 5. "Is every qubit below qubits?"
unfoldable pub qubits_below : Task → Bool
unfolding every letters_below
qubits_below t =
    every (λ l. every (λ q. ltb q t.qubits) (qubits_of (width t) l.key)) t.lines
    && every (λ op. every (λ q. ltb q t.qubits) (targets op)) t.ops

-- 6. "Are .. the two targets of one op, distinct?" (the qubits in one term are, where it is a word)
abbrev pub distinct_targets : List ℕ → Bool
distinct_targets [] = true
distinct_targets (a ∷ []) = true
distinct_targets (a ∷ b ∷ qs) = not (eqb a b)

unfoldable pub targets_differ : Task → Bool
unfolding every
targets_differ t = every (λ op. distinct_targets (targets op)) t.ops

-- all that is asked of the values before a run
abbrev pub passes : Run → Task → Bool
passes r t = sizes_fit t && run_fits r t && (reals_in_range t && (angles_hold t && (qubits_below t && targets_differ t)))
