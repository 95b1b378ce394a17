-- What an op does to a sum: ops that agree do the same up to the signs of zeros, an op that meets identities only changes nothing, and no
-- letter appears but at a target; and how many terms it meets: the same for sums that agree, none where it meets identities only, no more
-- than there are. Assumes nothing.
use Prim.Native.Nat.{ℕ, ◌*◌, ◌≤◌, zero-le}
use mathlib.Core.Path.{◌≡◌, refl, sym, ap, ◌∙◌, subst}
use mathlib.Core.Bool.{Bool, true, false, not, cond, ◌&&◌}
use mathlib.Core.List.{List, [], ◌∷◌, map}
use lib.Dec.{ltb, eqb}
use lib.ListN.{length, get_or}
use borrow.Author.Tests.{ltb-true}
use lib.Ieee.{Float, neg}
use Rattle.numbers.specs.Close.{◌≈◌, same}
use Rattle.numbers.specs.Constants.{zero64, sine_t, cosine_t}
use Rattle.numbers.proofs.CloseLaws.{≈_refl}
use Rattle.words.specs.declared.Gate.{Gate}
use Rattle.words.specs.Gates.{has_two_targets}
use Rattle.terms.specs.declared.Axis.{Axis}
use Rattle.terms.specs.declared.Axis.TheVariants.{Z, Zz}
use Rattle.terms.specs.declared.NoiseChannel.{NoiseChannel}
use Rattle.terms.specs.declared.NoiseChannel.TheVariants as N
use Rattle.terms.specs.declared.ChannelKind.{ChannelKind}
use Rattle.terms.specs.declared.ChannelKind.TheVariants as K
use Rattle.terms.specs.Term.{Term, conjugated}
use Rattle.terms.specs.Rotation.{met_by, partner_by}
use Rattle.terms.specs.Channel.{action_of}
use Rattle.terms.proofs.CaseLaws.{and_true, cond_holds}
use Rattle.terms.specs.Met.{gate_targets, axis_targets, kind_targets, met_terms}
use Rattle.terms.proofs.MetLaws as M
use Rattle.terms.specs.Lists.{Each}
use Rattle.terms.proofs.NearLaws.{each_refl, each_get_d, cond_same, Near, near_refl, near_sym, near_trans}
use Rattle.terms.proofs.NearSteps.{near_gate, near_rotated, near_channeled, NearChannel, near_action}
use Rattle.terms.proofs.NearSteps.{near_pauli, near_depolarizing, near_damping, near_phase, near_thermal, near_depolarizing2}
use Rattle.terms.proofs.TargetLaws.{kind_of, action_kind}
use Rattle.terms.proofs.LetterSteps.{Apart, Within, Clear, ClearAt, unmet_gate, unmet_rotated, unmet_channeled, clear_gate, clear_rotated, clear_channeled}
use Rattle.ops.specs.declared.Op.{Op}
use Rattle.ops.specs.declared.Op.TheVariants.{Native, T, Tdg, Rz, P, Rzz, Pauli, Depol, Damp, Phase, Thermal, Depol2, Barrier}
use Rattle.ops.specs.Ops.{shape_of, targets, on_words}
use Rattle.dynamics.specs.Acts.{turned, noisy, act_on, act, met}
use Rattle.ops.specs.SameOps.{with_parts, op_name, SameOp}

pub same_op : (op : Op) → SameOp ◌≈◌ op op
same_op op = record { name = refl; targets = refl; reals = each_refl ≈_refl (shape_of op).reals }

module _ (w : ℕ) where
  -- ---- ops that agree

  near_turned : (x : Axis) {s c s' c' : Float} {ts us : List Term} → s ≈ s' → c ≈ c' → Near ts us → Near (turned w x s c ts) (turned w x s' c' us)
  near_turned x p q = near_rotated w (met_by x) (partner_by w x) p q

  near_noisy : (a b : ℕ) {c d : NoiseChannel} {ts us : List Term} → NearChannel c d → Near ts us → Near (noisy w a b c ts) (noisy w a b d us)
  near_noisy a b p = near_channeled w a b (near_action p)

  -- one name and the same targets, with equal reals
  near_parts : (op : Op) (qs : List ℕ) {xs ys : List Float} {ts us : List Term} → Each ◌≈◌ xs ys → Near ts us
      → Near (act_on w (with_parts op qs xs) ts) (act_on w (with_parts op qs ys) us)
  near_parts op qs {xs} {ys} {ts} {us} e p = go op
    where
      at : (i : ℕ) → get_or xs i zero64 ≈ get_or ys i zero64
      at i = each_get_d ◌≈◌ i e same

      go : (op : Op) → Near (act_on w (with_parts op qs xs) ts) (act_on w (with_parts op qs ys) us)
      go (Native g a b) = near_gate w g _ _ _ _ refl p
      go (T q) = near_turned (Z _) same same p
      go (Tdg q) = near_turned (Z _) same same p
      go (Rz q s c) = near_turned (Z _) (at 0) (at 1) p
      go (P q s c) = near_turned (Z _) (at 0) (at 1) p
      go (Rzz a b s c) = near_turned (Zz _ _) (at 0) (at 1) p
      go (Pauli q x y z) = near_noisy _ 0 (near_pauli (at 0) (at 1) (at 2)) p
      go (Depol q x) = near_noisy _ 0 (near_depolarizing (at 0)) p
      go (Damp q x) = near_noisy _ 0 (near_damping (at 0)) p
      go (Phase q x) = near_noisy _ 0 (near_phase (at 0)) p
      go (Thermal q x y z) = near_noisy _ 0 (near_thermal (at 0) (at 1) (at 2)) p
      go (Depol2 a b x) = near_noisy _ _ (near_depolarizing2 (at 0)) p
      go Barrier = p

  -- an op is the one of its name with its targets and reals
  near_own : (op : Op) (ts : List Term) → Near (act_on w (with_parts (op_name op) (targets op) (shape_of op).reals) ts) (act_on w op ts)
  near_own (Native g a b) ts = near_gate w g _ _ a b (own (has_two_targets g)) (near_refl ts)
    where
      own : (two : Bool) → let qs = cond two (a ∷ b ∷ []) (a ∷ []) in cond two (get_or qs 0 0 ∷ get_or qs 1 0 ∷ []) (get_or qs 0 0 ∷ []) ≡ qs
      own true = refl
      own false = refl
  near_own (T q) ts = near_refl _
  near_own (Tdg q) ts = near_refl _
  near_own (Rz q s c) ts = near_refl _
  near_own (P q s c) ts = near_refl _
  near_own (Rzz a b s c) ts = near_refl _
  near_own (Pauli q x y z) ts = near_refl _
  near_own (Depol q x) ts = near_refl _
  near_own (Damp q x) ts = near_refl _
  near_own (Phase q x) ts = near_refl _
  near_own (Thermal q x y z) ts = near_refl _
  near_own (Depol2 a b x) ts = near_refl _
  near_own Barrier ts = near_refl _

  near_act_on : {o p : Op} {ts us : List Term} → SameOp ◌≈◌ o p → Near ts us → Near (act_on w o ts) (act_on w p us)
  near_act_on {o} {p} {ts} {us} e n =
      near_trans (near_sym (near_own o ts))
      (near_trans (near_parts (op_name o) (targets o) e.reals n)
      (subst (λ (m : Op). Near (act_on w (with_parts m (targets o) (shape_of p).reals) us) (act_on w p us)) (sym e.name)
      (subst (λ (qs : List ℕ). Near (act_on w (with_parts (op_name p) qs (shape_of p).reals) us) (act_on w p us)) (sym e.targets) (near_own p us))))

  pub act_near : {o p : Op} {ts us : List Term} → SameOp ◌≈◌ o p → Near ts us → Near (act w o ts) (act w p us)
  unfolding act
  act_near e n = cond_same Near (ap (on_words w) e.targets) (near_act_on e n) n

  -- ---- where an op acts

  within_one : (a : ℕ) → on_words w (a ∷ []) ≡ true → Within w (a ∷ [])
  unfolding on_words
  within_one a h = (ltb-true a (64 * w) h, tt)

  within_two : (a b : ℕ) → on_words w (a ∷ b ∷ []) ≡ true → Within w (a ∷ b ∷ [])
  unfolding on_words
  within_two a b h =
      let p = and_true (ltb a (64 * w)) (ltb b (64 * w) && not (eqb a b)) h in
      (ltb-true a (64 * w) p.0, within_one b (and_true (ltb b (64 * w)) (not (eqb a b)) p.1).0)

  -- what is asked of a step by its targets
  record ActsAt (qs : List ℕ) (f : List Term → List Term) : Type 0 where
    within : on_words w qs ≡ true → Within w qs
    unmet : (ts : List Term) → Within w qs → ClearAt w qs ts → f ts ≡ ts
    clear : (r : ℕ) (ts : List Term) → Within w qs → Apart r qs → Clear w r ts → Clear w r (f ts)

  local_gate : (g : Gate) (a b : ℕ) → ActsAt (gate_targets g a b) (λ ts. map (conjugated w g a b) ts)
  local_gate g a b = record { within = go (has_two_targets g); unmet = unmet_gate w g a b; clear = λ r. clear_gate w r g a b }
    where
      go : (two : Bool) → on_words w (cond two (a ∷ b ∷ []) (a ∷ [])) ≡ true → Within w (cond two (a ∷ b ∷ []) (a ∷ []))
      go true = within_two a b
      go false = within_one a

  local_turned : (x : Axis) (s c : Float) → ActsAt (axis_targets x) (turned w x s c)
  local_turned x s c = record { within = go x; unmet = unmet_rotated w x s c; clear = λ r ts v. clear_rotated w r x s c ts }
    where
      go : (x : Axis) → on_words w (axis_targets x) ≡ true → Within w (axis_targets x)
      go (Z q) = within_one q
      go (Zz a b) = within_two a b

  local_noisy : (a b : ℕ) (c : NoiseChannel) → ActsAt (kind_targets (kind_of c) a b) (noisy w a b c)
  local_noisy a b c = subst (λ (k : ChannelKind). ActsAt (kind_targets k a b) (noisy w a b c)) (action_kind c) record {
    within = go (action_of c).kind;
    unmet = unmet_channeled w a b (action_of c);
    clear = λ r ts v. clear_channeled w r a b (action_of c) ts;
  }
    where
      go : (k : ChannelKind) → on_words w (kind_targets k a b) ≡ true → Within w (kind_targets k a b)
      go K.Local = within_one a
      go K.Depolarizing2q = within_two a b

  local_op : (op : Op) → ActsAt (targets op) (act_on w op)
  local_op (Native g a b) = local_gate g a b
  local_op (T q) = local_turned (Z q) sine_t cosine_t
  local_op (Tdg q) = local_turned (Z q) (neg sine_t) cosine_t
  local_op (Rz q s c) = local_turned (Z q) s c
  local_op (P q s c) = local_turned (Z q) s c
  local_op (Rzz a b s c) = local_turned (Zz a b) s c
  local_op (Pauli q px py pz) = local_noisy q 0 (N.Pauli px py pz)
  local_op (Depol q p) = local_noisy q 0 (N.Depolarizing p)
  local_op (Damp q gamma) = local_noisy q 0 (N.AmplitudeDamping gamma)
  local_op (Phase q gamma) = local_noisy q 0 (N.PhaseDamping gamma)
  local_op (Thermal q gad gpd excited) = local_noisy q 0 (N.ThermalRelaxation gad gpd excited)
  local_op (Depol2 a b p) = local_noisy a b (N.TwoQubitDepolarizing p)
  local_op Barrier = record { within = λ h. tt; unmet = λ ts v h. refl; clear = λ r ts v n h. h }

  -- an op that meets identities only changes nothing
  pub act_unmet : (op : Op) (ts : List Term) → ClearAt w (targets op) ts → act w op ts ≡ ts
  unfolding act
  act_unmet op ts h = go (on_words w (targets op)) (local_op op).within
    where
      go : (on : Bool) → (on ≡ true → Within w (targets op)) → cond on (act_on w op ts) ts ≡ ts
      go true v = (local_op op).unmet ts (v refl) h
      go false v = refl

  -- no letter appears but at a target
  pub act_clear : (op : Op) (r : ℕ) (ts : List Term) → Apart r (targets op) → Clear w r ts → Clear w r (act w op ts)
  unfolding act
  act_clear op r ts n h = go (on_words w (targets op)) (local_op op).within
    where
      go : (on : Bool) → (on ≡ true → Within w (targets op)) → Clear w r (cond on (act_on w op ts) ts)
      go true v = (local_op op).clear r ts (v refl) n h
      go false v = h

  -- ---- how many terms an op meets

  pub met_near : {o p : Op} {ts us : List Term} → SameOp ◌≈◌ o p → Near ts us → met w o ts ≡ met w p us
  unfolding met
  met_near {o} {p} {ts} {us} e n =
      ap (λ (m : ℕ). cond (on_words w (targets o)) m 0) (M.met_near w (targets o) n) ∙ ap (λ (qs : List ℕ). cond (on_words w qs) (met_terms w qs us) 0) e.targets

  -- "since a skipped gate meets nothing"
  pub met_unmet : (op : Op) (ts : List Term) → ClearAt w (targets op) ts → met w op ts ≡ 0
  unfolding met
  met_unmet op ts h = go (on_words w (targets op)) (local_op op).within
    where
      go : (on : Bool) → (on ≡ true → Within w (targets op)) → cond on (met_terms w (targets op) ts) 0 ≡ 0
      go true v = M.met_none w (targets op) ts (v refl) h
      go false v = refl

  pub met_few : (op : Op) (ts : List Term) → met w op ts ≤ length ts
  unfolding met
  met_few op ts = cond_holds (λ n. n ≤ length ts) (on_words w (targets op)) (M.met_few w (targets op) ts) zero-le
