-- What an op keeps: widths, distinct words, at most twice the terms. Assumes nothing.
use mathlib.Core.Path.{◌≡◌, refl, sym, ap, ap₂, ◌∙◌}
use mathlib.Core.Bool.{Bool, true, false, cond, not, ◌&&◌, false≢true}
use mathlib.Core.List.{List, [], ◌∷◌, map}
use Prim.Native.Nat.{ℕ, ◌*◌, ◌≤◌}
use native.Mathlib.Omega.{arith}
use lib.Dec.{ltb, eqb}
use lib.ListN.{length, length-map}
use lib.Ieee.{Float}
use borrow.Author.Tests.{ltb-true, eqb-false, not-true}
use Rattle.words.specs.declared.Gate.{Gate}
use Rattle.words.specs.Gates.{has_two_targets, Targets}
use Rattle.terms.specs.declared.Axis.{Axis}
use Rattle.terms.specs.declared.Axis.TheVariants.{Z, Zz}
use Rattle.terms.specs.declared.NoiseChannel.{NoiseChannel}
use Rattle.terms.specs.Lists.{All}
use Rattle.terms.specs.Term.{Term, OnWidth, Distinct, conjugated}
use Rattle.terms.specs.Rotation.{met_by, partner_by, on_key}
use Rattle.terms.specs.Channel.{action_of}
use Rattle.terms.specs.Met.{one_or_two, axis_targets, in_words}
use Rattle.terms.proofs.CaseLaws.{and_true}
use Rattle.terms.proofs.AxisLaws.{axis_distinct, axis_width}
use Rattle.terms.proofs.CountLaws.{rotated_count, channeled_count}
use Rattle.terms.proofs.DistinctLaws.{conjugated_distinct, conjugated_width, channeled_distinct, channeled_width}
use Rattle.ops.specs.declared.Op.{Op}
use Rattle.ops.specs.declared.Op.TheVariants.{Native, T, Tdg, Rz, P, Rzz, Pauli, Depol, Damp, Phase, Thermal, Depol2, Barrier}
use Rattle.ops.specs.Ops.{targets, on_words}
use Rattle.dynamics.specs.Acts.{turned, noisy, act_on, act}
use Rattle.ops.proofs.TargetLaws.{qubit_test}

-- ---- targets that the words have

-- one target, or two
pub words_in : (w : ℕ) (two : Bool) (a b : ℕ) → on_words w (one_or_two two a b) ≡ true → in_words w (one_or_two two a b) ≡ true
unfolding on_words
words_in w true a b h =
    let p = and_true (ltb a (64 * w)) (ltb b (64 * w) && not (eqb a b)) h in
    let q = and_true (ltb b (64 * w)) (not (eqb a b)) p.1 in
    ap₂ (λ (x y : Bool). x && (y && true)) (qubit_test w a ∙ p.0) (qubit_test w b ∙ q.0)
words_in w false a b h = ap (λ (x : Bool). x && true) (qubit_test w a ∙ h)

pub axis_words : (w : ℕ) (x : Axis) → on_words w (axis_targets x) ≡ true → in_words w (axis_targets x) ≡ true
axis_words w (Z q) h = words_in w false q 0 h
axis_words w (Zz a b) h = words_in w true a b h

pub gate_targets : (w : ℕ) (g : Gate) (a b : ℕ) → on_words w (cond (has_two_targets g) (a ∷ b ∷ []) (a ∷ [])) ≡ true → Targets g w a b
unfolding on_words
gate_targets w g a b h = go (has_two_targets g) refl h
  where
    go : (t : Bool) → has_two_targets g ≡ t → on_words w (cond t (a ∷ b ∷ []) (a ∷ [])) ≡ true → Targets g w a b
    go true e h =
        let p = and_true (ltb a (64 * w)) _ h in
        let q = and_true (ltb b (64 * w)) _ p.1 in
        record { first = ltb-true a (64 * w) p.0; second = λ t. (ltb-true b (64 * w) q.0, eqb-false a b (not-true (eqb a b) q.1)) }
    go false e h = record { first = ltb-true a (64 * w) h; second = λ t. absurd (false≢true (sym e ∙ t)) }

pub axis_on : (w : ℕ) (q : ℕ) → on_words w (q ∷ []) ≡ true → on_key w (Z q) ≡ true
unfolding on_words
axis_on w q h = h

pub pair_on : (w a b : ℕ) → on_words w (a ∷ b ∷ []) ≡ true → on_key w (Zz a b) ≡ true
unfolding on_words
pair_on w a b h = h

-- ---- what an op keeps

module _ (w : ℕ) (ts : List Term) where
  -- a property of what an op makes, from the gate's, the rotation's and the channel's
  acts : (Q : List Term → Type 0) → ((g : Gate) (a b : ℕ) → Targets g w a b → Q (map (conjugated w g a b) ts))
      → ((x : Axis) (sin cos : Float) → Q (turned w x sin cos ts)) → ((a b : ℕ) (c : NoiseChannel) → Q (noisy w a b c ts)) → Q ts
      → (op : Op) → Q (act w op ts)
  unfolding act
  acts Q gates axes noise same op = go (on_words w (targets op)) refl
    where
      on : (op : Op) → on_words w (targets op) ≡ true → Q (act_on w op ts)
      on (Native g a b) e = gates g a b (gate_targets w g a b e)
      on (T q) e = axes (Z q) _ _
      on (Tdg q) e = axes (Z q) _ _
      on (Rz q s c) e = axes (Z q) s c
      on (P q s c) e = axes (Z q) s c
      on (Rzz a b s c) e = axes (Zz a b) s c
      on (Pauli q x y z) e = noise q 0 _
      on (Depol q p) e = noise q 0 _
      on (Damp q g) e = noise q 0 _
      on (Phase q g) e = noise q 0 _
      on (Thermal q d p x) e = noise q 0 _
      on (Depol2 a b p) e = noise a b _
      on Barrier e = same

      go : (b : Bool) → on_words w (targets op) ≡ b → Q (cond b (act_on w op ts) ts)
      go true e = on op e
      go false e = same

  pub act_width : (op : Op) → All (OnWidth w) ts → All (OnWidth w) (act w op ts)
  act_width op o = acts (All (OnWidth w)) (λ g a b t. conjugated_width g w a b ts o) (λ x sin cos. axis_width w x sin cos ts o)
      (λ a b c. channeled_width w a b (action_of c) ts o) o op

  pub act_distinct : (op : Op) → All (OnWidth w) ts → Distinct ts → Distinct (act w op ts)
  act_distinct op o d = acts Distinct (λ g a b t. conjugated_distinct g w a b ts t o d) (λ x sin cos. axis_distinct w x sin cos ts d)
      (λ a b c. channeled_distinct w a b (action_of c) ts d) d op

  pub act_count : (op : Op) → length (act w op ts) ≤ 2 * length ts
  act_count op = acts (λ us. length us ≤ 2 * length ts) (λ g a b t. rw length-map (omega arith))
      (λ x sin cos. rotated_count w (met_by x) (partner_by w x) sin cos ts) (λ a b c. channeled_count w a b (action_of c) ts) (omega arith) op
