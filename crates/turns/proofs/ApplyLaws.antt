-- From what a public step leaves to what an op does to the terms. Assumes nothing.
use mathlib.Core.Path.{◌≡◌, sym, ap, ap₂, ◌∙◌, subst, subst⁻¹}
use mathlib.Core.Bool.{Bool, true, false, cond, ◌&&◌}
use mathlib.Core.List.{List, [], ◌∷◌, map}
use Prim.Native.Nat.{ℕ, ◌*◌, ◌≤◌}
use native.Mathlib.Nat.{le_trans, le_refl}
use native.Mathlib.Omega.{arith}
use lib.ListN.{length, length-map}
use lib.Ieee.{Float}
use borrow.Author.Tests.{le-leb}
use Rattle.words.specs.declared.Gate.{Gate}
use Rattle.words.specs.Keys.{Words}
use Rattle.words.specs.Gates.{has_two_targets}
use Rattle.terms.specs.declared.Axis.{Axis}
use Rattle.terms.specs.declared.Axis.TheVariants.{Z, Zz}
use Rattle.terms.specs.declared.NoiseChannel.{NoiseChannel}
use Rattle.terms.specs.Lists.{All}
use Rattle.terms.specs.Term.{Term, OnWidth, Distinct, conjugated}
use Rattle.terms.specs.Rotation.{met_by, partner_by, on_key}
use Rattle.terms.specs.Channel.{action_of}
use Rattle.terms.specs.declared.ChannelKind.{ChannelKind}
use Rattle.terms.specs.Met.{gate_targets, axis_targets, acts_on_two, kind_targets, in_words, met_terms}
use Rattle.terms.proofs.AllLaws.{all_imp}
use Rattle.terms.proofs.AxisLaws.{axis_width}
use Rattle.terms.proofs.CountLaws.{rotated_count, channeled_count}
use Rattle.terms.proofs.DistinctLaws.{conjugated_width, channeled_width}
use Rattle.terms.proofs.ListLaws.{length_tab}
use Rattle.terms.proofs.TargetLaws.{kind_of, action_kind}
use Rattle.rows.specs.declared.Rows.{Rows}
use Rattle.rows.specs.declared.Step.{Step}
use Rattle.rows.specs.Lent.{row_terms, SameRows, OnRows}
use Rattle.rows.specs.Rows.{term_at, terms_in, rows_in, met_in, Stepped, Grown, Holds}
use Rattle.rows.proofs.HoldLaws.{hold_start, hold_wide, room_less}
use Rattle.rows.proofs.StepLaws.{rows_room}
use Rattle.rows.proofs.ReadLaws.{Keyed, step_holds}
use Rattle.branches.specs.declared.rotation.Rotation.{Rotation}
use Rattle.branches.specs.Rotated.{Rotated}
use Rattle.branches.proofs.RotatedLaws.{terms_width}
use Rattle.ops.specs.declared.Op.{Op}
use Rattle.ops.specs.declared.Op.TheVariants.{Native, Barrier}
use Rattle.ops.specs.declared.marks.Targets.{Targets}
use Rattle.ops.specs.Ops.{targets, on_words}
use Rattle.ops.specs.Sets.{packed, list_of}
use Rattle.ops.proofs.MarkLaws.{list_packed}
use Rattle.dynamics.specs.Acts.{turned, noisy, act_on, act, met}
use Rattle.dynamics.proofs.ActLaws.{met_unmet}
use Rattle.dynamics.proofs.KeptLaws.{words_in, axis_words, axis_on, pair_on}

axis_key : (w : ℕ) (x : Axis) → on_words w (axis_targets x) ≡ true → on_key w x ≡ true
axis_key w (Z q) h = axis_on w q h
axis_key w (Zz a b) h = pair_on w a b h

-- the code's test of an op's targets
pub targets_test : (w : ℕ) (op : Op) {t : Targets} {b c : Bool} → t ≡ packed (targets op) → b ≡ on_words w (list_of t) → b ≡ c → on_words w (targets op) ≡ c
targets_test w op e h k = ap (on_words w) (sym (ap list_of e ∙ list_packed op)) ∙ sym h ∙ k

pub here_width : (w n : ℕ) (ws : List ℕ) (cs : List Float) → 2 * n ≤ rows_in w ws cs → Words ws → All (OnWidth w) (terms_in (2 * w) n ws cs)
here_width w n ws cs room ok = terms_width w n ws cs (room_less (omega arith) (rows_room w (2 * n) ws cs room)) ok

module _ (w n : ℕ) (op : Op) (ws : List ℕ) (cs : List Float) where
  abbrev here : List Term
  here = terms_in (2 * w) n ws cs

  -- how many terms the op met, and what it made of them
  abbrev pub Did : Step → List ℕ → List Float → Type 0
  Did r ws' cs' = (r.met ≡ met w op here) × Holds (2 * w) (2 * n) r.count (act w op here) ws ws' cs cs'

  long : length here ≡ n
  long = length_tab n (term_at (2 * w) ws cs)

  -- an op whose targets the words do not have
  pub skipped : on_words w (targets op) ≡ false → Did (record { count = n; met = 0 }) ws cs
  unfolding act met
  skipped e = (
    sym (ap (λ (b : Bool). cond b (met_terms w (targets op) here) 0) e),
    subst⁻¹ (λ (b : Bool). Holds (2 * w) (2 * n) n (cond b (act_on w op here) here) ws ws cs cs) e (hold_start (2 * w) (2 * n) n ws cs),
  )

  module _ (on : on_words w (targets op) ≡ true) where
    met_here : met_terms w (targets op) here ≡ met w op here
    unfolding met
    met_here = sym (ap (λ (b : Bool). cond b (met_terms w (targets op) here) 0) on)

    acted : {m : ℕ} {ws' : List ℕ} {cs' : List Float} → Holds (2 * w) (2 * n) m (act_on w op here) ws ws' cs cs' → Holds (2 * w) (2 * n) m (act w op here) ws ws' cs cs'
    unfolding act
    acted {m} {ws'} {cs'} H = subst⁻¹ (λ (b : Bool). Holds (2 * w) (2 * n) m (cond b (act_on w op here) here) ws ws' cs cs') on H

    keyed : (us : List Term) → All (OnWidth w) us → All (Keyed (2 * w)) us
    keyed us o = all_imp (OnWidth w) (Keyed (2 * w)) us (λ t x. x.long) o

    module _ (room : 2 * n ≤ rows_in w ws cs) (ok : Words ws) {r : Step} {ws' : List ℕ} {cs' : List Float} where
      module _ (qs : List ℕ) (us : List Term) (eq : qs ≡ targets op) (eu : us ≡ act_on w op here) (in_words_lem : in_words w qs ≡ true) (o : All (OnWidth w) us) (m : r.met ≡ met_in w qs n ws cs) where
        did : {R : ℕ} → R ≤ 2 * n → Holds (2 * w) R r.count us ws ws' cs cs' → Did r ws' cs'
        did h H = (
          m ∙ ap₂ (λ (x y : Bool). cond (x && y) (met_terms w qs here) 0) (le-leb n (rows_in w ws cs) (omega arith)) in_words_lem
              ∙ ap (λ (ps : List ℕ). met_terms w ps here) eq ∙ met_here,
          acted (subst (λ (ts : List Term). Holds (2 * w) (2 * n) r.count ts ws ws' cs cs') eu (hold_wide h H)),
        )

        stepped : Stepped w n n n us r.count ws ws' cs cs' → length us ≡ n → Did r ws' cs'
        stepped S e = did (omega arith) (step_holds w n n n S (le-leb n (rows_in w ws cs) (omega arith)) (omega arith) (omega arith) (keyed us o))

        grown : Grown w n us r.count ws ws' cs cs' → length us ≤ 2 * n → Did r ws' cs'
        grown G c = did c (step_holds w (2 * n) (length us) n G (le-leb (2 * n) (rows_in w ws cs) room) (le_trans c room) (le_refl _) (keyed us o))

      pub gate_did : (g : Gate) (a b : ℕ) → op ≡ Native g a b
          → (r.met ≡ met_in w (gate_targets g a b) n ws cs) × Stepped w n n n (map (conjugated w g a b) here) r.count ws ws' cs cs' → Did r ws' cs'
      gate_did g a b e S =
          let eq : gate_targets g a b ≡ targets op = sym (ap targets e) in
          stepped (gate_targets g a b) (map (conjugated w g a b) here) eq (sym (ap (λ (o : Op). act_on w o here) e))
          (words_in w (has_two_targets g) a b (ap (on_words w) eq ∙ on)) (conjugated_width g w a b here (here_width w n ws cs room ok)) S.0 S.1 (length-map here (conjugated w g a b) ∙ long)

      pub rotation_did : (o : Op) (x : Rotation) → op ≡ o → axis_targets x.axis ≡ targets o → turned w x.axis x.sin x.cos here ≡ act_on w o here → Distinct here
          → (r.met ≡ met_in w (axis_targets x.axis) n ws cs) × Rotated w n x.axis x.sin x.cos r.count ws ws' cs cs' → Did r ws' cs'
      rotation_did o x e et ea d R =
          let eq : axis_targets x.axis ≡ targets op = et ∙ sym (ap targets e) in
          let h : on_words w (axis_targets x.axis) ≡ true = ap (on_words w) eq ∙ on in
          grown (axis_targets x.axis) (turned w x.axis x.sin x.cos here) eq (ea ∙ sym (ap (λ (o : Op). act_on w o here) e)) (axis_words w x.axis h)
          (axis_width w x.axis x.sin x.cos here (here_width w n ws cs room ok)) R.0 (R.1.from_old (axis_key w x.axis h) d)
          (let c = rotated_count w (met_by x.axis) (partner_by w x.axis) x.sin x.cos here in omega (arith, long, c))

      -- about Z, with a sine and a cosine that are those of the op
      pub z_did : (o : Op) (q : ℕ) (s c : Float) {x : Rotation} {u v : Float} → op ≡ o → x ≡ record { axis = Z q; sin = u; cos = v } → u ≡ s → v ≡ c → q ∷ [] ≡ targets o
          → turned w (Z q) s c here ≡ act_on w o here → Distinct here
          → (r.met ≡ met_in w (axis_targets x.axis) n ws cs) × Rotated w n x.axis x.sin x.cos r.count ws ws' cs cs' → Did r ws' cs'
      z_did o q s c {x} {u} {v} e ex es ec et ea d R =
          rotation_did o x e (ap (λ (y : Rotation). axis_targets y.axis) ex ∙ et)
          (ap (λ (y : Rotation). turned w y.axis y.sin y.cos here) ex ∙ (λ k. turned w (Z q) (es k) (ec k) here) ∙ ea) d R

      pub channel_did : (o : Op) (c : NoiseChannel) (a b : ℕ) → op ≡ o → kind_targets (kind_of c) a b ≡ targets o → noisy w a b c here ≡ act_on w o here
          → (r.met ≡ met_in w (kind_targets (action_of c).kind a b) n ws cs) × Grown w n (noisy w a b c here) r.count ws ws' cs cs' → Did r ws' cs'
      channel_did o c a b e et ea G =
          let eq : kind_targets (action_of c).kind a b ≡ targets op = ap (λ (k : ChannelKind). kind_targets k a b) (action_kind c) ∙ et ∙ sym (ap targets e) in
          grown (kind_targets (action_of c).kind a b) (noisy w a b c here) eq (ea ∙ sym (ap (λ (o : Op). act_on w o here) e))
          (words_in w (acts_on_two (action_of c).kind) a b (ap (on_words w) eq ∙ on)) (channeled_width w a b (action_of c) here (here_width w n ws cs room ok)) G.0 G.1
          (let s = channeled_count w a b (action_of c) here in omega (arith, long, s))

  -- a barrier meets nothing and changes nothing
  pub barrier_did : op ≡ Barrier → Did (record { count = n; met = 0 }) ws cs
  unfolding act on_words
  barrier_did e = subst⁻¹ (λ (o : Op). (0 ≡ met w o here) × Holds (2 * w) (2 * n) n (act w o here) ws ws cs cs) e
      (sym (met_unmet w Barrier here tt), hold_start (2 * w) (2 * n) n ws cs)

-- what was done, of lent rows
pub lent_did : (n : ℕ) (op : Op) {k : Step} {r r' : Rows} → SameRows r r' → Did r.w n op r.words.now r.coeffs.now k r'.words.now r'.coeffs.now
    → (k.met ≡ met r.w op (row_terms r n)) × OnRows (Holds (2 * r.w) (2 * n) k.count (act r.w op (row_terms r n))) r r'
lent_did n op s d = (d.0, record { same = s; left = d.1 })
