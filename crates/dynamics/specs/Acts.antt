-- What an op does to a sum, without what follows it, and how many terms it meets.
use Rattle.std.specs.Prelude.{ℕ, cond, List, map, Float}
use Rattle.std.specs.Float.Ieee.{neg}
use Rattle.numbers.specs.Constants.{sine_t, cosine_t}
use Rattle.terms.specs.declared.Axis.{Axis}
use Rattle.terms.specs.declared.Axis.TheVariants.{Z, Zz}
use Rattle.terms.specs.declared.NoiseChannel.{NoiseChannel}
use Rattle.terms.specs.declared.NoiseChannel.TheVariants as N
use Rattle.terms.specs.Term.{Term, conjugated}
use Rattle.terms.specs.Rotation.{met_by, partner_by, rotated}
use Rattle.terms.specs.Channel.{action_of, channeled}
use Rattle.terms.specs.Met.{met_terms}
use Rattle.ops.specs.declared.Op.{Op}
use Rattle.ops.specs.declared.Op.TheVariants.{Native, T, Tdg, Rz, P, Rzz, Pauli, Depol, Damp, Phase, Thermal, Depol2, Barrier}
use Rattle.ops.specs.Ops.{targets, on_words}

-- rz and p, t and tdg, rzz
abbrev pub turned : ℕ → Axis → Float → Float → List Term → List Term
turned w x sin cos ts = rotated w (met_by x) (partner_by w x) sin cos ts

abbrev pub noisy : ℕ → ℕ → ℕ → NoiseChannel → List Term → List Term
noisy w a b c ts = channeled w a b (action_of c) ts

-- "tdg negates the sine"; "A barrier does truncation only"
abbrev pub act_on : ℕ → Op → List Term → List Term
act_on w (Native g a b) ts = map (conjugated w g a b) ts
act_on w (T q) ts = turned w (Z q) sine_t cosine_t ts
act_on w (Tdg q) ts = turned w (Z q) (neg sine_t) cosine_t ts
act_on w (Rz q s c) ts = turned w (Z q) s c ts
act_on w (P q s c) ts = turned w (Z q) s c ts
act_on w (Rzz a b s c) ts = turned w (Zz a b) s c ts
act_on w (Pauli q px py pz) ts = noisy w q 0 (N.Pauli px py pz) ts
act_on w (Depol q p) ts = noisy w q 0 (N.Depolarizing p) ts
act_on w (Damp q gamma) ts = noisy w q 0 (N.AmplitudeDamping gamma) ts
act_on w (Phase q gamma) ts = noisy w q 0 (N.PhaseDamping gamma) ts
act_on w (Thermal q gad gpd excited) ts = noisy w q 0 (N.ThermalRelaxation gad gpd excited) ts
act_on w (Depol2 a b p) ts = noisy w a b (N.TwoQubitDepolarizing p) ts
act_on w Barrier ts = ts

-- an op whose targets the words do not have does nothing
unfoldable pub act : ℕ → Op → List Term → List Term
act w op ts = cond (on_words w (targets op)) (act_on w op ts) ts

-- "how many terms, before it acted, had a letter on at least one of its targets". An op whose targets the words do not have meets nothing; "A
-- barrier counts 0", since it has no target.
unfoldable pub met : ℕ → Op → List Term → ℕ
met w op ts = cond (on_words w (targets op)) (met_terms w (targets op) ts) 0
