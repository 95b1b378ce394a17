-- What the proofs of one turn use of its definition. Assumes nothing.
use mathlib.Core.Path.{◌≡◌, refl, sym, ap, ap₂, ◌∙◌, subst, subst⁻¹}
use mathlib.Core.Bool.{Bool, true, false, cond, ◌&&◌}
use mathlib.Core.List.{List, []}
use Prim.Native.Nat.{ℕ, ◌+◌, ◌*◌, ◌^◌, ◌≤◌, ◌<◌, max, zero-le}
use native.Mathlib.Omega.{arith}
use lib.Dec.{leb, ltb}
use lib.ListN.{length}
use lib.Ieee.{Float, binary64, add}
use borrow.Author.Tests.{le-leb, leb-true}
use Rattle.std.specs.Prelude.{Result, Ok, Err, IfOk}
use Rattle.numbers.specs.Constants.{zero64}
use Rattle.numbers.specs.Tests.{is_finite}
use Rattle.words.specs.Keys.{Words}
use Rattle.terms.specs.Lists.{tab}
use Rattle.terms.specs.Term.{Term, OnWidth, Distinct}
use Rattle.terms.specs.Truncation.{kept_of, dropped_of, crowded}
use Rattle.terms.proofs.AllLaws.{all_imp}
use Rattle.terms.proofs.CountLaws.{kept_count}
use Rattle.terms.proofs.DistinctLaws.{kept_all, kept_distinct, distinct_of}
use Rattle.terms.proofs.ListLaws.{length_tab}
use Rattle.rows.specs.Rows.{term_at, terms_in, rows_in, Holds}
use Rattle.rows.proofs.HoldLaws.{hold_start, hold_count, hold_trans, hold_wide}
use Rattle.rows.proofs.StepLaws.{rows_room, held_rows}
use Rattle.rows.proofs.ReadLaws.{Keyed, step_holds, step_count}
use Rattle.sums.specs.declared.Kept.{Kept}
use Rattle.sums.specs.Steps.{Truncated}
use Rattle.sums.proofs.MeanLaws.{finite_terms}
use Rattle.branches.proofs.RotatedLaws.{terms_width}
use Rattle.ops.specs.declared.Limits.{Limits}
use Rattle.ops.specs.declared.Op.{Op}
use Rattle.ops.specs.declared.Refusal.{Refusal}
use Rattle.ops.specs.declared.Refusal.TheVariants.{NotFinite, TooMany}
use Rattle.turns.specs.declared.Progress.{Progress}
use Rattle.dynamics.specs.Acts.{act, met}
use Rattle.dynamics.specs.Turn.{Stage, going, ask, State, state, fine, drop_small, truncated, counted, checked, settle}
use Rattle.dynamics.specs.Runs.{turn}
use Rattle.turns.specs.Told.{tally, stage_terms, state_in, stage_in, fine_in, within_of, CheckedIn, AfterDrop, Ready, Tells}
use Rattle.dynamics.proofs.ActLaws.{met_few}
use Rattle.dynamics.proofs.KeptLaws.{act_distinct, act_count}
use Rattle.turns.proofs.ApplyLaws.{here_width}

-- ---- question 8

pub fine_in_lem : (w : ℕ) (p : Progress) (ws : List ℕ) (cs : List Float) → fine_in p cs ≡ fine (state_in w p ws cs)
fine_in_lem w p ws cs = ap (λ (b : Bool). b && is_finite p.tally.discarded) (sym (finite_terms (2 * w) p.count ws cs))

-- ---- drops

pub long : (w n : ℕ) (ws : List ℕ) (cs : List Float) → length (terms_in (2 * w) n ws cs) ≡ n
long w n ws cs = length_tab n (term_at (2 * w) ws cs)

module _ (w : ℕ) (p : Progress) (ws : List ℕ) (cs : List Float) where
  abbrev here : List Term
  here = terms_in (2 * w) p.count ws cs

  pub left_same : AfterDrop w p.count p ws ws cs cs (state_in w p ws cs)
  left_same = record { answer = λ k. record { count = sym (long w p.count ws cs) k; tally = p.tally }; rows = hold_start (2 * w) p.count p.count ws cs }

  pub dropped : (e : Float) {r : Kept} {ws' : List ℕ} {cs' : List Float} → p.count ≤ rows_in w ws cs → Words ws → Truncated w p.count e r ws ws' cs cs'
      → AfterDrop w p.count (record { count = r.count; tally = tally p.tally.peak (add binary64 p.tally.discarded r.dropped) p.tally.touched }) ws ws' cs cs'
      (drop_small e (state_in w p ws cs))
  dropped e {r} {ws'} {cs'} room ok D =
      let n : ℕ = p.count in
      let all = le-leb n (rows_in w ws cs) room in
      let count : length (kept_of e here) ≤ n = let k = kept_count e here in omega (arith, long w p.count ws cs, k) in
      let widths = all_imp (OnWidth w) (Keyed (2 * w)) here (λ u x. x.long) (terms_width w n ws cs (rows_room w n ws cs room) ok) in
      let keyed = kept_all (Keyed (2 * w)) e here widths in
      let same : r.count ≡ length (kept_of e here) = step_count w n n n D.step all room count keyed in
      let sum : r.dropped ≡ dropped_of e here = D.sum ∙ ap (λ (b : Bool). cond b (dropped_of e here) zero64) all in
      record {
        answer = λ k. record { count = same k; tally = tally p.tally.peak (add binary64 p.tally.discarded (sum k)) p.tally.touched };
        rows = step_holds w n n n D.step all room count keyed;
      }

module _ (l : Limits) (w : ℕ) (p : Progress) (ws : List ℕ) (cs : List Float) where
  crowd : {b : Bool} → b ≡ (ltb 0 l.max_terms && ltb l.max_terms p.count) → b ≡ crowded l.max_terms (terms_in (2 * w) p.count ws cs)
  crowd e = e ∙ ap (λ (m : ℕ). ltb 0 l.max_terms && ltb l.max_terms m) (sym (long w p.count ws cs))

  -- what was dropped, or was not, as the test of the count says
  pub enforced : {b : Bool} {r : Progress} {ws' : List ℕ} {cs' : List Float} → b ≡ (ltb 0 l.max_terms && ltb l.max_terms p.count) → b ≡ true
      → AfterDrop w p.count r ws ws' cs cs' (drop_small l.epsilon (state_in w p ws cs)) → AfterDrop w p.count r ws ws' cs cs' (truncated l (state_in w p ws cs))
  enforced {b} {r} {ws'} {cs'} e y L =
      subst (λ (b : Bool). AfterDrop w p.count r ws ws' cs cs' (cond b (drop_small l.epsilon (state_in w p ws cs)) (state_in w p ws cs))) (sym y ∙ crowd e) L

  pub not_enforced : {b : Bool} → b ≡ (ltb 0 l.max_terms && ltb l.max_terms p.count) → b ≡ false → AfterDrop w p.count p ws ws cs cs (truncated l (state_in w p ws cs))
  not_enforced {b} e y =
      subst (λ (b : Bool). AfterDrop w p.count p ws ws cs cs (cond b (drop_small l.epsilon (state_in w p ws cs)) (state_in w p ws cs))) (sym y ∙ crowd e) (left_same w p ws cs)

-- ---- questions 8 and 9

module _ (l : Limits) (p : Progress) (cs : List Float) {b : Bool} (q : b ≡ fine_in p cs) where
  pub checked_8 : b ≡ false → CheckedIn l p cs (Err NotFinite)
  unfolding checked
  checked_8 e w ws = let s : State = state_in w p ws cs in
      sym (ap (λ (x : Bool). ask 8 x (ask 9 (leb (length s.terms) l.limit) (going (counted s)))) (sym (fine_in_lem w p ws cs) ∙ sym q ∙ e))

  pub checked_fine : {r : Result Progress Refusal} → b ≡ true → r ≡ within_of l p → CheckedIn l p cs r
  unfolding checked
  checked_fine {r} e h w ws =
      ap (λ (x : Result Progress Refusal). stage_in w x ws cs) h ∙ go (leb p.count l.limit)
      ∙ ap (λ (m : ℕ). ask 9 (leb m l.limit) (going (state s.terms (max s.peak m) s.discarded s.touched))) (sym (long w p.count ws cs))
      ∙ sym (ap (λ (x : Bool). ask 8 x (ask 9 (leb (length s.terms) l.limit) (going (counted s)))) (sym (fine_in_lem w p ws cs) ∙ sym q ∙ e))
    where
      s : State
      s = state_in w p ws cs

      go : (x : Bool) → stage_in w (cond x (Ok (record { count = p.count; tally = tally (max p.tally.peak p.count) p.tally.discarded p.tally.touched })) (Err TooMany)) ws cs
          ≡ ask 9 x (going (state s.terms (max s.peak p.count) s.discarded s.touched))
      go true = refl
      go false = refl

-- ---- what follows an op

-- what holds of no terms, and of the terms of s if they are at most limit, holds of the terms that questions 8 and 9 leave
checked_terms : (l : Limits) (s : State) (P : List Term → Type 0) → P [] → (length s.terms ≤ l.limit → P s.terms) → P (stage_terms (checked l s))
unfolding checked
checked_terms l s P none all = go (fine s)
  where
    few : (b : Bool) → leb (length s.terms) l.limit ≡ b → P (stage_terms (ask 9 b (going (counted s))))
    few true e = all (leb-true _ _ e)
    few false e = none

    go : (b : Bool) → P (stage_terms (ask 8 b (ask 9 (leb (length s.terms) l.limit) (going (counted s)))))
    go true = few _ refl
    go false = none

none_distinct : Distinct []
none_distinct = distinct_of [] tt

-- no terms, in rows that held some
pub emptied : {s R m : ℕ} {ts : List Term} {ws₀ ws : List ℕ} {cs₀ cs : List Float} → Holds s R m ts ws₀ ws cs₀ cs → Holds s R 0 [] ws₀ ws cs₀ cs
unfolding tab
emptied H = record { terms = refl; words_kept = H.words_kept; coeffs_kept = H.coeffs_kept; words_long = H.words_long; coeffs_long = H.coeffs_long }

-- nothing done yet
pub untouched : (s R : ℕ) (ws : List ℕ) (cs : List Float) → Holds s R 0 [] ws ws cs cs
unfolding tab
untouched s R ws cs = record { terms = refl; words_kept = refl; coeffs_kept = refl; words_long = refl; coeffs_long = refl }

-- the terms that an answer has in the rows, at most limit and distinct
ready_of : (w : ℕ) (l : Limits) (r : Result Progress Refusal) (ws : List ℕ) (cs : List Float) → 2 * l.limit ≤ rows_in w ws cs → length (stage_terms (stage_in w r ws cs)) ≤ l.limit
    → Distinct (stage_terms (stage_in w r ws cs)) → IfOk r (λ p. Ready w l p.count ws cs)
ready_of w l (Err e) ws cs room few sound = tt
ready_of w l (Ok p) ws cs room few sound = record { few = subst (λ (m : ℕ). m ≤ l.limit) (long w p.count ws cs) few; room = room; sound = sound }

truncated_distinct : (l : Limits) (s : State) → Distinct s.terms → Distinct (truncated l s).terms
truncated_distinct l s d = go (crowded l.max_terms s.terms)
  where
    go : (b : Bool) → Distinct (cond b (drop_small l.epsilon s) s).terms
    go true = kept_distinct l.epsilon s.terms d
    go false = d

module _ (l : Limits) (w : ℕ) (p : Progress) (ws : List ℕ) (cs : List Float) where
  pub settled_8 : {b : Bool} → b ≡ fine_in p cs → b ≡ false → Tells w l (Err NotFinite) ws ws cs cs (settle l (state_in w p ws cs))
  unfolding settle
  settled_8 q e = record {
    told = sym (ap (λ (b : Bool). ask 8 b (checked l (truncated l (state_in w p ws cs)))) (sym (fine_in_lem w p ws cs) ∙ sym q ∙ e));
    rows = untouched (2 * w) (2 * l.limit) ws cs;
    ready = tt;
  }

  pub settled : {b : Bool} {left : Progress} {r : Result Progress Refusal} {ws' : List ℕ} {cs' : List Float} → b ≡ fine_in p cs → b ≡ true → p.count ≤ 2 * l.limit
      → 2 * l.limit ≤ rows_in w ws cs → Distinct (terms_in (2 * w) p.count ws cs)
      → AfterDrop w p.count left ws ws' cs cs' (truncated l (state_in w p ws cs)) → CheckedIn l left cs' r → Tells w l r ws ws' cs cs' (settle l (state_in w p ws cs))
  unfolding settle
  settled {b} {left} {r} {ws'} {cs'} q e few room d L C =
      let s₁ : State = truncated l (state_in w p ws cs) in
      let same : state_in w left ws' cs' ≡ s₁ = λ k. state (L.rows.terms k) (L.answer k).tally.peak (L.answer k).tally.discarded (L.answer k).tally.touched in
      let told : stage_in w r ws' cs' ≡ checked l s₁ = C w ws' ∙ ap (checked l) same in
      record {
        told = told ∙ sym (ap (λ (b : Bool). ask 8 b (checked l s₁)) (sym (fine_in_lem w p ws cs) ∙ sym q ∙ e));
        rows = emptied (hold_wide few L.rows);
        ready = ready_of w l r ws' cs' (subst⁻¹ (λ (x : ℕ). 2 * l.limit ≤ x) (held_rows w L.rows) room)
            (subst⁻¹ (λ (s : Stage State). length (stage_terms s) ≤ l.limit) told (checked_terms l s₁ (λ ts. length ts ≤ l.limit) zero-le (λ h. h)))
            (subst⁻¹ (λ (s : Stage State). Distinct (stage_terms s)) told (checked_terms l s₁ Distinct none_distinct (λ h. truncated_distinct l (state_in w p ws cs) d)));
      }

-- ---- a turn

module _ (l : Limits) (w : ℕ) (op : Op) (p : Progress) (ws : List ℕ) (cs : List Float) (ready : Ready w l p.count ws cs) where
  twice : 2 * p.count ≤ rows_in w ws cs
  twice = let h = ready.few in let r = ready.room in omega (arith, h, r)

  -- an op meets at most limit terms, so there is room to count them
  pub turn_slack : {k : ℕ} → k ≡ met w op (terms_in (2 * w) p.count ws cs) → p.tally.touched + l.limit < 2 ^ 64 → p.tally.touched + k < 2 ^ 64
  turn_slack e h = let f = met_few w op (terms_in (2 * w) p.count ws cs) in let few = ready.few in omega (arith, e, f, few, h, long w p.count ws cs)

  module _ {m : ℕ} {ws' : List ℕ} {cs' : List Float} (H : Holds (2 * w) (2 * p.count) m (act w op (terms_in (2 * w) p.count ws cs)) ws ws' cs cs') where
    pub turn_ready : Words ws → (m ≤ 2 * l.limit) × (2 * l.limit ≤ rows_in w ws' cs') × Distinct (terms_in (2 * w) m ws' cs')
    turn_ready ok = (
      (let k = act_count w (terms_in (2 * w) p.count ws cs) op in let h = ready.few in omega (arith, k, h, hold_count H, long w p.count ws cs)),
      subst⁻¹ (λ (x : ℕ). 2 * l.limit ≤ x) (held_rows w H) ready.room,
      subst⁻¹ Distinct H.terms (act_distinct w (terms_in (2 * w) p.count ws cs) op (here_width w p.count ws cs twice ok) ready.sound),
    )

    -- what follows the op, told of the rows before it
    pub turn_told : {k : ℕ} {r : Result Progress Refusal} {ws'' : List ℕ} {cs'' : List Float} → k ≡ met w op (terms_in (2 * w) p.count ws cs)
        → Tells w l r ws' ws'' cs' cs'' (settle l (state_in w (record { count = m; tally = tally p.tally.peak p.tally.discarded (p.tally.touched + k) }) ws' cs'))
        → Tells w l r ws ws'' cs cs'' (turn w l op (state_in w p ws cs))
    turn_told e T = record {
      told = T.told ∙ ap₂ (λ (ts : List Term) (i : ℕ). settle l (state ts p.tally.peak p.tally.discarded (p.tally.touched + i))) H.terms e;
      rows = hold_trans (emptied (hold_wide {S = 2 * l.limit} (let h = ready.few in omega arith) H)) T.rows;
      ready = T.ready;
    }
