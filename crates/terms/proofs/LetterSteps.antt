-- Where a step acts: it changes nothing where no term has a letter at its targets, and gives no term a letter elsewhere. Assumes nothing.
use Prim.Native.Nat.{ℕ, zero, suc, ◌*◌, ◌≤◌, ◌<◌}
use mathlib.Core.Path.{◌≡◌, refl, sym, ap, ap₂, ◌∙◌}
use mathlib.Core.Bool.{Bool, true, false, ◌&&◌, ◌||◌, cond, false≢true}
use mathlib.Core.Logic.{◌≢◌}
use mathlib.Core.List.{List, [], ◌∷◌, map, append-nil}
use native.Mathlib.Nat.{le_refl}
use native.Mathlib.Omega.{arith}
use lib.ListN.{length, get_or}
use lib.Ieee.{Float, nan}
use Rattle.numbers.specs.Tests.{is_zero}
use Rattle.words.specs.declared.Gate.{Gate}
use Rattle.words.specs.Keys.{Key, bit_at, flip_at, z_at}
use Rattle.words.specs.Gates.{has_two_targets, bits_at, conj_key, meets}
use Rattle.words.proofs.GateLaws.{unmet_key}
use Rattle.words.proofs.LetterLaws.{letter, letter_flip_z, no_letter, conj_key_letter}
use Rattle.terms.specs.declared.Axis.{Axis}
use Rattle.terms.specs.declared.Axis.TheVariants.{Z, Zz}
use Rattle.terms.specs.declared.ChannelKind.{ChannelKind}
use Rattle.terms.specs.declared.ChannelKind.TheVariants.{Local, Depolarizing2q}
use Rattle.terms.specs.declared.ChannelAction.{ChannelAction}
use Rattle.terms.specs.Lists.{All, foldl}
use Rattle.terms.specs.Coefficient.{signed}
use Rattle.terms.proofs.SignLaws.{unmet_sign}
use Rattle.terms.specs.Term.{odd_y, Term, term, no_term, conjugated}
use Rattle.terms.specs.Rotation.{met_by, partner_by, scaled_met, turned_row, appended_rows, rotated}
use Rattle.terms.specs.Branch.{branch_row, branch_to, branched}
use Rattle.terms.specs.Met.{gate_targets, axis_targets, kind_targets}
use Rattle.terms.specs.Channel.{branch, scaled_letter, scaled_local, scaled_either, channel_by, channeled}
use Rattle.terms.specs.Truncation.{kept_of}
use Rattle.terms.proofs.CaseLaws.{cond_holds}
use Rattle.terms.proofs.AllLaws.{all_at, all_imp, all_and}
use Rattle.terms.proofs.KeySteps.{keys_kept, keys_gate, keys_rotated, keys_channeled}

-- ---- a function, and a step, that change nothing where a property holds
module _ {A : Type 0} (P : A → Type 0) where
  map_same : (f : A → A) (l : List A) → ((a : A) → P a → f a ≡ a) → All P l → map f l ≡ l
  map_same f [] h p = refl
  map_same f (a ∷ l) h p = ap₂ {C = List A} ◌∷◌ (h a p.0) (map_same f l h p.1)

  fold_same : {S : Type 0} (f : S → A → S) (s : S) (l : List A) → ((a : A) → P a → f s a ≡ s) → All P l → foldl f s l ≡ s
  unfolding foldl
  fold_same f s [] h p = refl
  fold_same f s (a ∷ l) h p = rw (h a p.0) (fold_same f s l h p.1)

-- ---- qubits and letters

-- r is none of the qs
abbrev pub Apart : ℕ → List ℕ → Type 0
Apart r qs = All (λ q. q ≢ r) qs

module _ (w : ℕ) where
  -- qubits that the words have
  abbrev pub Within : List ℕ → Type 0
  Within qs = All (λ q. q < 64 * w) qs

  -- no term has a letter at q, or at any of the qs
  abbrev pub Clear : ℕ → List Term → Type 0
  Clear q ts = All (λ (t : Term). letter w t.key q ≡ false) ts

  abbrev pub ClearAt : List ℕ → List Term → Type 0
  ClearAt qs ts = All (λ q. Clear q ts) qs

  -- ---- a step that meets no letter changes nothing

  -- neither bit is set at q, or at any of the qs
  abbrev pub BareAt : Key → ℕ → Type 0
  BareAt k q = (bit_at k q ≡ false) × (bit_at k (z_at w q) ≡ false)

  abbrev pub Bare : Key → List ℕ → Type 0
  Bare k qs = All (BareAt k) qs

  bare : (qs : List ℕ) (ts : List Term) → Within qs → ClearAt qs ts → All (λ (t : Term). Bare t.key qs) ts
  bare qs [] v h = tt
  bare qs (t ∷ ts) v h = (
    all_imp (λ q. (q < 64 * w) × Clear q (t ∷ ts)) (BareAt t.key) qs (λ q p. no_letter w t.key q p.0 p.1.0)
        (all_and (λ q. q < 64 * w) (λ q. Clear q (t ∷ ts)) qs v h),
    bare qs ts v (all_imp (λ q. Clear q (t ∷ ts)) (λ q. Clear q ts) qs (λ q p. p.1) h),
  )

  bare_gate : (g : Gate) (a b : ℕ) (k : Key) → Bare k (gate_targets g a b) → meets g (bits_at w a b k) ≡ false
  bare_gate g a b k = go (has_two_targets g)
    where
      go : (two : Bool) → Bare k (cond two (a ∷ b ∷ []) (a ∷ []))
          → (bit_at k a || bit_at k (z_at w a) || (two && (bit_at k b || bit_at k (z_at w b)))) ≡ false
      go true h = rw (h.0.0, h.0.1, h.1.0.0, h.1.0.1)
      go false h = rw (h.0.0, h.0.1)

  pub bare_conjugated : (g : Gate) (a b : ℕ) (ts : List Term) → All (λ (t : Term). Bare t.key (gate_targets g a b)) ts → map (conjugated w g a b) ts ≡ ts
  unfolding conjugated
  bare_conjugated g a b ts h = map_same (λ (t : Term). Bare t.key (gate_targets g a b)) (conjugated w g a b) ts
      (λ t p. let m = bare_gate g a b t.key p in
      ap₂ (λ (k : Key) (n : Bool). term k (signed n t.coeff)) (unmet_key g w a b t.key m) (unmet_sign g (bits_at w a b t.key) (odd_y w t.key) m)) h

  pub unmet_gate : (g : Gate) (a b : ℕ) (ts : List Term) → Within (gate_targets g a b) → ClearAt (gate_targets g a b) ts → map (conjugated w g a b) ts ≡ ts
  unmet_gate g a b ts v h = bare_conjugated g a b ts (bare (gate_targets g a b) ts v h)

module _ (w : ℕ) (met : Key → Bool) (partner : Key → Key) (sin cos : Float) where
  abbrev Unmet : Term → Type 0
  Unmet t = met t.key ≡ false

  unmet_appended : (old ts : List Term) → All Unmet ts → appended_rows w met partner sin cos old ts ≡ []
  unfolding appended_rows
  unmet_appended old [] h = refl
  unmet_appended old (t ∷ ts) h = rw h.0 (unmet_appended old ts h.1)

  -- the rotation in place, row after row
  unmet_rows_to : (n i : ℕ) (ts : List Term) → i ≤ length ts → All Unmet ts → branch_to w met partner sin cos n i ts ≡ ts
  unfolding branch_to branch_row
  unmet_rows_to n zero ts l h = refl
  unmet_rows_to n (suc i) ts l h = rw (unmet_rows_to n i ts (omega arith) h, all_at Unmet ts i no_term (omega arith) h) refl

  unmet_in_place : (ts : List Term) → All Unmet ts → branched w met partner sin cos ts ≡ ts
  unfolding branched
  unmet_in_place ts h =
      cond_holds (λ us. us ≡ ts) (is_zero sin) (map_same Unmet (scaled_met w met partner sin cos) ts (λ t e. rw e) h) (unmet_rows_to (length ts) (length ts) ts (le_refl _) h)

  unmet_rows : (ts : List Term) → All Unmet ts → rotated w met partner sin cos ts ≡ ts
  unfolding rotated
  unmet_rows ts h =
      cond_holds (λ us. us ≡ ts) (is_zero sin) (map_same Unmet (scaled_met w met partner sin cos) ts (λ t e. rw e) h)
      (rw (map_same Unmet (turned_row w met partner sin cos ts) ts (λ t e. rw e) h, unmet_appended ts ts h) (append-nil ts))

module _ (w : ℕ) where
  bare_axis : (x : Axis) (k : Key) → Bare w k (axis_targets x) → met_by x k ≡ false
  unfolding met_by
  bare_axis (Z q) k h = h.0.0
  bare_axis (Zz a b) k h = rw (h.0.0, h.1.0.0)

  bare_unmet : (x : Axis) (ts : List Term) → All (λ (t : Term). Bare w t.key (axis_targets x)) ts → All (λ (t : Term). met_by x t.key ≡ false) ts
  bare_unmet x ts = all_imp (λ (t : Term). Bare w t.key (axis_targets x)) (λ t. met_by x t.key ≡ false) ts (λ t p. bare_axis x t.key p)

  pub bare_branched : (x : Axis) (sin cos : Float) (ts : List Term) → All (λ (t : Term). Bare w t.key (axis_targets x)) ts
      → branched w (met_by x) (partner_by w x) sin cos ts ≡ ts
  bare_branched x sin cos ts h = unmet_in_place w (met_by x) (partner_by w x) sin cos ts (bare_unmet x ts h)

  pub unmet_rotated : (x : Axis) (sin cos : Float) (ts : List Term) → Within w (axis_targets x) → ClearAt w (axis_targets x) ts
      → rotated w (met_by x) (partner_by w x) sin cos ts ≡ ts
  unmet_rotated x sin cos ts v h = unmet_rows w (met_by x) (partner_by w x) sin cos ts (bare_unmet x ts (bare w (axis_targets x) ts v h))

  pub bare_channeled : (a b : ℕ) (c : ChannelAction) (ts : List Term) → All (λ (t : Term). Bare w t.key (kind_targets c.kind a b)) ts → channeled w a b c ts ≡ ts
  unfolding channeled scaled_local
  bare_channeled a b c ts h = go c.kind h
    where
      go : (k : ChannelKind) → All (λ (t : Term). Bare w t.key (kind_targets k a b)) ts → channel_by k w a b c ts ≡ ts
      go Local p =
          let f = c.z_to_identity in
          let P : Term → Type 0 = λ t. Bare w t.key (a ∷ []) in
          ap (map (scaled_letter w a c.lambda)) (cond_holds (λ us. us ≡ ts) (is_zero f) refl (fold_same P (branch w a f) ts ts (λ t e. rw (e.0.0, e.0.1)) p))
          ∙ map_same P (scaled_letter w a c.lambda) ts (λ t e. rw (e.0.0, e.0.1)) p
      go Depolarizing2q p = map_same (λ (t : Term). Bare w t.key (a ∷ b ∷ [])) (scaled_either w a b (get_or c.lambda 0 nan)) ts
          (λ t e. rw (e.0.0, e.0.1, e.1.0.0, e.1.0.1)) p

  pub unmet_channeled : (a b : ℕ) (c : ChannelAction) (ts : List Term) → Within w (kind_targets c.kind a b) → ClearAt w (kind_targets c.kind a b) ts
      → channeled w a b c ts ≡ ts
  unmet_channeled a b c ts v h = bare_channeled a b c ts (bare w (kind_targets c.kind a b) ts v h)

  -- ---- no letter appears but at a target
  module _ (r : ℕ) where
    abbrev NoLetter : Key → Type 0
    NoLetter k = letter w k r ≡ false

    pub clear_kept : (e : Float) (ts : List Term) → Clear w r ts → Clear w r (kept_of e ts)
    clear_kept = keys_kept NoLetter

    pub clear_gate : (g : Gate) (a b : ℕ) (ts : List Term) → Within w (gate_targets g a b) → Apart r (gate_targets g a b) → Clear w r ts
        → Clear w r (map (conjugated w g a b) ts)
    clear_gate g a b ts v n = keys_gate NoLetter w g a b (λ k e. go (has_two_targets g) refl k v n ∙ e) ts
      where
        go : (two : Bool) → has_two_targets g ≡ two → (k : Key) → Within w (cond two (a ∷ b ∷ []) (a ∷ [])) → Apart r (cond two (a ∷ b ∷ []) (a ∷ []))
            → letter w (conj_key g w a b k) r ≡ letter w k r
        go true h k v n = conj_key_letter w g a b k r v.0 n.0 (λ t. (v.1.0, n.1.0))
        go false h k v n = conj_key_letter w g a b k r v.0 n.0 (λ t. absurd (false≢true (sym h ∙ t)))

    clear_partner : (x : Axis) → Apart r (axis_targets x) → (k : Key) → NoLetter k → NoLetter (partner_by w x k)
    unfolding partner_by
    clear_partner (Z q) n k e = letter_flip_z w k q r n.0 ∙ e
    clear_partner (Zz a b) n k e = letter_flip_z w (flip_at k (z_at w a)) b r n.1.0 ∙ letter_flip_z w k a r n.0 ∙ e

    pub clear_rotated : (x : Axis) (sin cos : Float) (ts : List Term) → Apart r (axis_targets x) → Clear w r ts
        → Clear w r (rotated w (met_by x) (partner_by w x) sin cos ts)
    clear_rotated x sin cos ts n = keys_rotated NoLetter w (met_by x) (partner_by w x) sin cos (clear_partner x n) ts

    pub clear_channeled : (a b : ℕ) (c : ChannelAction) (ts : List Term) → Apart r (kind_targets c.kind a b) → Clear w r ts → Clear w r (channeled w a b c ts)
    clear_channeled a b c ts n = keys_channeled NoLetter w a b (λ k e. letter_flip_z w k a r (first c.kind n) ∙ e) c ts
      where
        first : (k : ChannelKind) → Apart r (kind_targets k a b) → a ≢ r
        first Local n = n.0
        first Depolarizing2q n = n.0
