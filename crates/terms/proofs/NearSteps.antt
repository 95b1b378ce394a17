-- Each step takes lists of terms that agree up to the signs of zeros, and reals that do, to lists that do: a gate, a rotation, a channel. Assumes nothing.
use mathlib.Core.Path.{◌≡◌, refl, ap, ap₂, subst}
use Prim.Native.Nat.{ℕ}
use mathlib.Core.Bool.{Bool, not, ◌||◌}
use mathlib.Core.List.{List, [], ◌∷◌, map}
use mathlib.Core.Option as O
use lib.ListN.{get_or}
use lib.Ieee.{Float, nan, binary64, sub}
use Rattle.numbers.specs.Close.{◌≈◌, same}
use Rattle.numbers.specs.Constants.{three64, fifteen64}
use Rattle.numbers.specs.Root.{sqrt_of}
use Rattle.numbers.proofs.CloseLaws.{add_≈, sub_≈, mul_≈, div_≈, is_zero_≈, at_least_zero_≈, sqrt_≈}
use Rattle.words.specs.declared.Gate.{Gate}
use Rattle.words.specs.Keys.{Key, flip_at, z_at, has_letter, same_key}
use Rattle.words.specs.Gates.{bits_at, conj_key}
use Rattle.terms.specs.declared.NoiseChannel.{NoiseChannel}
use Rattle.terms.specs.declared.NoiseChannel.TheVariants.{Pauli, Depolarizing, AmplitudeDamping, PhaseDamping, ThermalRelaxation, TwoQubitDepolarizing}
use Rattle.terms.specs.declared.ChannelKind.{ChannelKind}
use Rattle.terms.specs.declared.ChannelKind.TheVariants.{Local, Depolarizing2q}
use Rattle.terms.specs.declared.ChannelAction.{ChannelAction}
use Rattle.terms.specs.Coefficient.{negates}
use Rattle.terms.specs.Term.{odd_y, Term, find, is_in, add_to, conjugated}
use Rattle.terms.specs.Rotation.{scaled_met, flipped_term, turned_term, appended_term, turned_row, appended_rows, rotated}
use Rattle.terms.specs.Channel.{keep_of, pauli_action, depol_action, phase_action, damp_action, thermal_action, depol2_action, action_of, is_zletter, letter_index}
use Rattle.terms.specs.Channel.{insert, branch, with_branches, scaled_letter, scaled_local, scaled_either, channel_by, channeled}
use Rattle.terms.specs.Lists.{Each, none, more}
use Rattle.terms.proofs.NearLaws.{each_map, each_append, each_fold, each_get_d, cond_both, cond_same}
use Rattle.terms.proofs.NearLaws.{NearC, near_scaled, near_flipped, near_plus, near_signed, NearTerm, at_key, by_key, Near}
use Rattle.terms.specs.Met.{gate_targets}
use Rattle.terms.proofs.TargetLaws.{gate_by_targets}

-- ---- gates

near_conjugated : (w : ℕ) (g : Gate) (a b : ℕ) {t u : Term} → NearTerm t u → NearTerm (conjugated w g a b t) (conjugated w g a b u)
unfolding conjugated
near_conjugated w g a b =
    by_key (λ t u. NearTerm (conjugated w g a b t) (conjugated w g a b u)) (λ k c d p. at_key (conj_key g w a b k) (near_signed (negates g (bits_at w a b k) (odd_y w k)) p))

-- with the same targets: a one-target gate's second number is none
pub near_gate : (w : ℕ) (g : Gate) (a b c d : ℕ) {ts us : List Term} → gate_targets g a b ≡ gate_targets g c d → Near ts us
    → Near (map (conjugated w g a b) ts) (map (conjugated w g c d) us)
near_gate w g a b c d e = each_map (conjugated w g a b) (conjugated w g c d)
    (λ t u p. subst (NearTerm (conjugated w g a b t)) (gate_by_targets w g a b c d u e) (near_conjugated w g a b p))

-- ---- rotations

data NearFound : O.Option Float → O.Option Float → Type 0 where
  absent : NearFound O.none O.none
  found : {c d : Float} → NearC c d → NearFound (O.some c) (O.some d)

near_find : (k : Key) {ts us : List Term} → Near ts us → NearFound (find k ts) (find k us)
unfolding find
near_find k none = absent
near_find k (more p ps) = cond_same NearFound (ap (same_key k) p.key) (found p.coeff) (near_find k ps)

module _ (w : ℕ) (met : Key → Bool) (partner : Key → Key) {sin sin' cos cos' : Float} (ps : sin ≈ sin') (pc : cos ≈ cos') where
  near_scaled_met : (t u : Term) → NearTerm t u → NearTerm (scaled_met w met partner sin cos t) (scaled_met w met partner sin' cos' u)
  near_scaled_met t u = by_key (λ t u. NearTerm (scaled_met w met partner sin cos t) (scaled_met w met partner sin' cos' u))
      (λ k c d p. cond_both NearTerm (met k) (at_key k (near_scaled pc p)) (at_key k p))

  near_flipped_term : {t u : Term} → NearTerm t u → NearTerm (flipped_term w met partner sin cos t) (flipped_term w met partner sin' cos' u)
  near_flipped_term = by_key (λ t u. NearTerm (flipped_term w met partner sin cos t) (flipped_term w met partner sin' cos' u)) (λ k c d p. at_key (partner k) (near_flipped (odd_y w k) ps p))

  near_turned_term : {f g : O.Option Float} {t u : Term} → NearFound f g → NearTerm t u
      → NearTerm (turned_term w met partner sin cos t f) (turned_term w met partner sin' cos' u g)
  near_turned_term absent p = cond_same NearTerm (is_zero_≈ pc) (near_flipped_term p) (record { key = p.key; coeff = near_scaled pc p.coeff })
  near_turned_term (found {c = c} {d = d} q) p = by_key (λ t u. NearTerm (turned_term w met partner sin cos t (O.some c)) (turned_term w met partner sin' cos' u (O.some d)))
      (λ k x y p. at_key k (near_plus (near_scaled pc p) (near_flipped (not (odd_y w k)) ps q))) p

  near_appended_term : {f g : O.Option Float} {t u : Term} → NearFound f g → NearTerm t u
      → Near (appended_term w met partner sin cos t f) (appended_term w met partner sin' cos' u g)
  near_appended_term absent p = cond_same Near (is_zero_≈ pc) none (more (near_flipped_term p) none)
  near_appended_term (found q) p = none

  module _ {old old' : List Term} (po : Near old old') where
    near_partner : {t u : Term} → NearTerm t u → NearFound (find (partner t.key) old) (find (partner u.key) old')
    near_partner = by_key (λ t u. NearFound (find (partner t.key) old) (find (partner u.key) old')) (λ k c d p. near_find (partner k) po)

    near_turned_row : (t u : Term) → NearTerm t u → NearTerm (turned_row w met partner sin cos old t) (turned_row w met partner sin' cos' old' u)
    near_turned_row t u p = cond_same NearTerm (ap met p.key) (near_turned_term (near_partner p) p) p

    near_appended_rows : {ts us : List Term} → Near ts us → Near (appended_rows w met partner sin cos old ts) (appended_rows w met partner sin' cos' old' us)
    unfolding appended_rows
    near_appended_rows none = none
    near_appended_rows (more p ps) = each_append (cond_same Near (ap met p.key) (near_appended_term (near_partner p) p) none) (near_appended_rows ps)

  pub near_rotated : {ts us : List Term} → Near ts us → Near (rotated w met partner sin cos ts) (rotated w met partner sin' cos' us)
  unfolding rotated
  near_rotated {ts} {us} p =
      cond_same Near (is_zero_≈ ps) (each_map (scaled_met w met partner sin cos) (scaled_met w met partner sin' cos') near_scaled_met p)
      (each_append (each_map (turned_row w met partner sin cos ts) (turned_row w met partner sin' cos' us) (near_turned_row p) p) (near_appended_rows p p))

-- ---- channels

near_is_in : (k : Key) {ts us : List Term} → Near ts us → is_in k ts ≡ is_in k us
unfolding is_in
near_is_in k none = refl
near_is_in k (more p ps) = ap₂ ◌||◌ (ap (same_key k) p.key) (near_is_in k ps)

near_add_to : (k : Key) {c d : Float} {ts us : List Term} → NearC c d → Near ts us → Near (add_to k c ts) (add_to k d us)
unfolding add_to
near_add_to k q none = none
near_add_to k q (more p ps) =
    cond_same Near (ap (same_key k) p.key) (more (record { key = p.key; coeff = near_plus p.coeff q }) ps) (more p (near_add_to k q ps))

near_insert : {t u : Term} {ts us : List Term} → Near ts us → NearTerm t u → Near (insert ts t) (insert us u)
unfolding insert
near_insert {t} {u} {ts} {us} p q = by_key (λ t u. Near (insert ts t) (insert us u))
    (λ k c d q. cond_same Near (near_is_in k p) (near_add_to k q p) (each_append p (more (at_key k q) none))) q

module _ (w q : ℕ) where
  module _ {f g : Float} (e : f ≈ g) where
    near_branch : (ts us : List Term) (t u : Term) → Near ts us → NearTerm t u → Near (branch w q f ts t) (branch w q g us u)
    near_branch ts us t u p = by_key (λ t u. Near (branch w q f ts t) (branch w q g us u))
        (λ k c d h. cond_both Near (is_zletter w q k) (near_insert p (at_key (flip_at k (z_at w q)) (near_scaled e h))) p)

    near_with_branches : {ts us : List Term} → Near ts us → Near (with_branches w q f ts) (with_branches w q g us)
    near_with_branches p = cond_same Near (is_zero_≈ e) p (each_fold Near (branch w q f) (branch w q g) near_branch p p)

  near_letter : {l m : List Float} → Each ◌≈◌ l m → (t u : Term) → NearTerm t u → NearTerm (scaled_letter w q l t) (scaled_letter w q m u)
  near_letter {l} {m} e t u = by_key (λ t u. NearTerm (scaled_letter w q l t) (scaled_letter w q m u))
      (λ k c d p. cond_both NearTerm (has_letter w k q) (at_key k (near_scaled (each_get_d ◌≈◌ (letter_index w q k) e same) p)) (at_key k p))

near_either : (w a b : ℕ) {f g : Float} → f ≈ g → (t u : Term) → NearTerm t u → NearTerm (scaled_either w a b f t) (scaled_either w a b g u)
near_either w a b {f} {g} e t u = by_key (λ t u. NearTerm (scaled_either w a b f t) (scaled_either w a b g u))
    (λ k c d p. cond_both NearTerm (has_letter w k a || has_letter w k b) (at_key k (near_scaled e p)) (at_key k p))

-- actions of one kind, equal as numbers
pub record NearAction (c d : ChannelAction) : Type 0 where
  pub kind : c.kind ≡ d.kind
  pub lambda : Each ◌≈◌ c.lambda d.lambda
  pub to_identity : c.z_to_identity ≈ d.z_to_identity

pub near_channeled : (w a b : ℕ) {c d : ChannelAction} {ts us : List Term} → NearAction c d → Near ts us → Near (channeled w a b c ts) (channeled w a b d us)
unfolding channeled scaled_local
near_channeled w a b {c} {d} {ts} {us} e p = subst (λ (k : ChannelKind). Near (channeled w a b c ts) (channel_by k w a b d us)) e.kind (go c.kind)
  where
    go : (k : ChannelKind) → Near (channel_by k w a b c ts) (channel_by k w a b d us)
    go Local = each_map (scaled_letter w a c.lambda) (scaled_letter w a d.lambda) (near_letter w a e.lambda) (near_with_branches w a e.to_identity p)
    go Depolarizing2q =
        each_map (scaled_either w a b (get_or c.lambda 0 nan)) (scaled_either w a b (get_or d.lambda 0 nan)) (near_either w a b (each_get_d ◌≈◌ 0 e.lambda same)) p

-- ---- the actions of channels with equal rates

-- one channel, its rates equal as numbers
pub data NearChannel : NoiseChannel → NoiseChannel → Type 0 where
  near_pauli : {x y z x' y' z' : Float} → x ≈ x' → y ≈ y' → z ≈ z' → NearChannel (Pauli x y z) (Pauli x' y' z')
  near_depolarizing : {p p' : Float} → p ≈ p' → NearChannel (Depolarizing p) (Depolarizing p')
  near_damping : {p p' : Float} → p ≈ p' → NearChannel (AmplitudeDamping p) (AmplitudeDamping p')
  near_phase : {p p' : Float} → p ≈ p' → NearChannel (PhaseDamping p) (PhaseDamping p')
  near_thermal : {x y z x' y' z' : Float} → x ≈ x' → y ≈ y' → z ≈ z' → NearChannel (ThermalRelaxation x y z) (ThermalRelaxation x' y' z')
  near_depolarizing2 : {p p' : Float} → p ≈ p' → NearChannel (TwoQubitDepolarizing p) (TwoQubitDepolarizing p')

infixl 30 ◌⊖◌
◌⊖◌ : {x y u v : Float} → x ≈ y → u ≈ v → sub binary64 x u ≈ sub binary64 y v
p ⊖ q = sub_≈ binary64 p q

three : {x y z x' y' z' : Float} → x ≈ x' → y ≈ y' → z ≈ z' → Each ◌≈◌ (x ∷ y ∷ z ∷ []) (x' ∷ y' ∷ z' ∷ [])
three p q r = more p (more q (more r none))

near_keep : {x y : Float} → x ≈ y → keep_of x ≈ keep_of y
near_keep p = at_least_zero_≈ (same ⊖ p)

near_root : {x y : Float} → x ≈ y → sqrt_of (keep_of x) ≈ sqrt_of (keep_of y)
near_root p = sqrt_≈ (near_keep p)

pub near_action : {c d : NoiseChannel} → NearChannel c d → NearAction (action_of c) (action_of d)
unfolding action_of pauli_action depol_action phase_action damp_action thermal_action depol2_action
near_action (near_pauli p q r) =
    let i = same ⊖ p ⊖ q ⊖ r in
    record { kind = refl; lambda = three (add_≈ binary64 i p ⊖ q ⊖ r) (add_≈ binary64 i q ⊖ p ⊖ r) (add_≈ binary64 i r ⊖ p ⊖ q); to_identity = same }
near_action (near_depolarizing p) =
    let l = same ⊖ div_≈ binary64 three64 (mul_≈ binary64 same p) in
    record { kind = refl; lambda = three l l l; to_identity = same }
near_action (near_damping p) = record { kind = refl; lambda = three (near_root p) (near_root p) (near_keep p); to_identity = p }
near_action (near_phase p) = record { kind = refl; lambda = three (near_root p) (near_root p) same; to_identity = same }
near_action (near_thermal p q r) =
    let l = mul_≈ binary64 (near_root p) (near_root q) in
    record { kind = refl; lambda = three l l (near_keep p); to_identity = mul_≈ binary64 p (same ⊖ mul_≈ binary64 same r) }
near_action (near_depolarizing2 p) =
    let l = same ⊖ div_≈ binary64 fifteen64 (mul_≈ binary64 same p) in
    record { kind = refl; lambda = three l l l; to_identity = same }
