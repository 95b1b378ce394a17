-- What the proof of the loop over the qubits uses of `all`, and what the whole run leaves. Assumes nothing.
use mathlib.Core.Path.{◌≡◌, refl, sym, ap, ap₂, ◌∙◌, subst, subst⁻¹}
use mathlib.Core.Bool.{Bool, true, false, cond, ◌&&◌}
use mathlib.Core.List.{List, [], ◌∷◌, ◌++◌}
use Prim.Native.Nat.{ℕ, zero, suc, ◌+◌, ◌-◌, ◌*◌, ◌^◌, ◌≤◌, ◌<◌, zero-le}
use native.Mathlib.Nat.{le_refl}
use native.Mathlib.Numerals.{add-one}
use native.Mathlib.Omega.{arith}
use lib.Dec.{leb}
use lib.ListN.{length, get_or, set, take, drop, replicate, length-set, length-map, length-take, take-append-drop}
use lib.Seq.{take-suc-set, drop-set-lt}
use lib.Ieee.{Float}
use borrow.Author.Tests.{le-leb, leb-true}
use Rattle.std.specs.Prelude.{Result, Ok, Err}
use Rattle.numbers.specs.Constants.{zero64}
use Rattle.words.specs.Keys.{width_of}
use Rattle.terms.proofs.CaseLaws.{and_true}
use Rattle.rows.specs.Rows.{rows_in, words_with, coeffs_with, Stepped, Holds}
use Rattle.rows.specs.Cleared.{Cleared}
use Rattle.rows.proofs.RowLaws.{drop_more}
use Rattle.rows.proofs.HoldLaws.{hold_trans, hold_wide}
use Rattle.rows.proofs.StepLaws.{held_rows}
use Rattle.rows.proofs.ClearLaws.{stepped_cleared}
use Rattle.ops.specs.declared.Limits.{Limits}
use Rattle.ops.specs.declared.Op.{Op}
use Rattle.ops.specs.declared.Refusal.{Refusal}
use Rattle.ops.specs.Refusals.{number_of}
use Rattle.ops.specs.Marks.{mark_all}
use Rattle.ops.specs.Sets.{overlay}
use Rattle.ops.proofs.SizeLaws.{counts_say}
use Rattle.turns.specs.declared.Tally.{Tally}
use Rattle.turns.specs.declared.Progress.{Progress}
use Rattle.turns.specs.declared.Finished.{Finished}
use Rattle.dynamics.specs.Turn.{UnlessRefused, Stage, refused, going, bind, ask, State, Outcome, outcome}
use Rattle.dynamics.specs.Runs.{marked_run}
use Rattle.dynamics.specs.Outcome.{add_z, all_runs, z_state, z_step}
use Rattle.dynamics.proofs.StageLaws.{bind_same}
use Rattle.dynamics.proofs.CountedRuns.{Met}
use Rattle.turns.specs.Told.{tally, state_in, Tells, Ends}
use Rattle.turns.specs.SumRuns.{Results, told_by, results_of}
use Rattle.turns.specs.AllRuns.{all_task, fits_all, room_all, all_held, all_asked, means_of, AllRan}
use Rattle.turns.specs.Means.{early_all, outcome_with, tallied, all_to, AllReady, Answers, AllTold, AllLeaves}
use Rattle.turns.proofs.TurnLaws.{emptied, untouched}
use Rattle.turns.proofs.RunLaws.{ends_refused, ends_going}
use Rattle.turns.proofs.MarkRuns.{marked_overlay}
use Rattle.turns.proofs.SumCounts.{ending_met, one_met, all_met}

-- ---- one qubit's run

pub z_answers : (w : ℕ) (l : Limits) (marks : List Bool) (ops : List Op) (q : ℕ) (t : Tally) {start : Progress} {r : Result Finished Refusal} {ws ws' ws'' : List ℕ} {cs cs' cs'' : List Float}
    → 2 * l.limit ≤ rows_in w ws cs → Tells w l (Ok start) ws ws' cs cs' (going (z_state w q (tallied t))) → Ends w l r ws' ws'' cs' cs'' (marked_run w l marks ops (state_in w start ws' cs'))
    → Answers w r ws ws'' cs cs'' (marked_run w l marks ops (z_state w q (tallied t)))
z_answers w l marks ops q t room S E = record {
  answer = E.answer ∙ ap (λ (s : Stage State). results_of (bind s (marked_run w l marks ops))) S.told;
  rows = emptied (hold_wide room (hold_trans S.rows (emptied E.rows)));
}

-- ---- the loop

module _ (w : ℕ) (l : Limits) (marks : List Bool) (ops : List Op) where
  -- a refusal of the first qubits' runs is one of all
  all_refused_at : (k j n : ℕ) → all_to w l marks ops k ≡ refused n → all_to w l marks ops (j + k) ≡ refused n
  unfolding all_to
  all_refused_at k zero n e = let z : 0 + k ≡ k = omega arith in ap (all_to w l marks ops) z ∙ e
  all_refused_at k (suc j) n e =
      let z : suc j + k ≡ suc (j + k) = omega arith in
      ap (all_to w l marks ops) z ∙ ap (λ (s : Stage Outcome). bind s (z_step w l marks ops (j + k))) (all_refused_at k j n e)

  module _ (ws₀ : List ℕ) (cs₀ m₀ : List Float) where
    abbrev pub Qubits : ℕ → Result Tally Refusal → List ℕ → List Float → List Float → Type 0
    Qubits q r ws cs ms = AllTold w q r ws₀ ws cs₀ cs m₀ ms (all_to w l marks ops q)

    pub qubits_none : {t : Tally} → t ≡ tally 0 zero64 0 → Qubits 0 (Ok t) ws₀ cs₀ m₀
    unfolding all_to
    qubits_none e = record { told = ap (λ (t : Tally). going (outcome_with [] t)) e; rows = untouched (2 * w) (rows_in w ws₀ cs₀) ws₀ cs₀; kept = refl; long = refl }

    pub qubits_refused : (q n : ℕ) {e : Refusal} {ws : List ℕ} {cs ms : List Float} → q ≤ n → Qubits q (Err e) ws cs ms → Qubits n (Err e) ws cs ms
    qubits_refused q n {e} h T = record {
      told = sym (all_refused_at q (n - q) (number_of e) (sym T.told)) ∙ (let z : n - q + q ≡ n = omega arith in ap (all_to w l marks ops) z);
      rows = T.rows;
      kept = drop_more q n _ m₀ h T.kept;
      long = T.long;
    }

    pub qubits_all : (q : ℕ) {n : ℕ} {r : Result Tally Refusal} {ws : List ℕ} {cs ms : List Float} → q ≡ n → Qubits q r ws cs ms → Qubits n r ws cs ms
    qubits_all q {n} {r} {ws} {cs} {ms} e T = subst (λ (k : ℕ). Qubits k r ws cs ms) e T

    module _ {q k : ℕ} {t : Tally} {ws : List ℕ} {cs ms : List Float} (ready : AllReady w k l ops ws₀ cs₀ m₀) (inside : q < k) (T : Qubits q (Ok t) ws cs ms) where
      pub z_ready : (1 ≤ l.limit) × (w ≤ 4) × (q < 64 * w) × (2 * l.limit ≤ rows_in w ws cs) × (l.limit ≤ 1048576) × (length ops ≤ 4096)
      z_ready =
          let b = ready.wide in (
            ready.some,
            ready.narrow,
            omega arith,
            subst⁻¹ (λ (x : ℕ). 2 * l.limit ≤ x) (held_rows w T.rows) ready.room,
            ready.low,
            ready.short,
          )

      pub z_place : q < length ms
      z_place = let p = ready.places in let e = T.long in omega arith

      next_is : all_to w l marks ops (q + 1) ≡ bind (marked_run w l marks ops (z_state w q (tallied t))) (λ o. going (add_z (outcome_with (take q ms) t) o))
      unfolding all_to
      next_is = ap (all_to w l marks ops) (add-one q) ∙ ap (λ (s : Stage Outcome). bind s (z_step w l marks ops q)) (sym T.told)

      next_rows : {ws' : List ℕ} {cs' : List Float} → Holds (2 * w) (rows_in w ws cs) 0 [] ws ws' cs cs' → Holds (2 * w) (rows_in w ws₀ cs₀) 0 [] ws₀ ws' cs₀ cs'
      next_rows {ws'} {cs'} H = hold_trans T.rows (subst (λ (R : ℕ). Holds (2 * w) R 0 [] ws ws' cs cs') (held_rows w T.rows) H)

      -- what this run's ops meet, after the runs before it, fits 64 bits
      pub z_slack : {f : Finished} {ws' : List ℕ} {cs' : List Float} → Answers w (Ok f) ws ws' cs cs' (marked_run w l marks ops (z_state w q (tallied t))) → t.touched + f.tally.touched < 2 ^ 64
      z_slack A =
          let one = ending_met 4294967296 (marked_run w l marks ops (z_state w q (tallied t))) A.answer (one_met w l marks ops ready.short ready.low (z_state w q (tallied t)) ready.some refl) in
          let before : t.touched ≤ q * 4294967296 = subst⁻¹ (UnlessRefused (Met (q * 4294967296))) T.told (all_met w l marks ops ready.short ready.low ready.some q) in
          let n₁ = ready.narrow in
          let n₂ = ready.wide in
          omega (arith, one, before, n₁, n₂, inside)

      pub z_done : {f : Finished} {ws' : List ℕ} {cs' : List Float} → Answers w (Ok f) ws ws' cs cs' (marked_run w l marks ops (z_state w q (tallied t)))
          → Qubits (q + 1) (Ok (tally f.tally.peak f.tally.discarded (t.touched + f.tally.touched))) ws' cs' (set ms q f.mean)
      z_done {f} A =
          let v = ends_going f (marked_run w l marks ops (z_state w q (tallied t))) A.answer in
          let o : Outcome = v.0 in
          record {
            told = ap (λ (k : List Float). going (outcome [] zero64 k f.tally.peak f.tally.discarded (t.touched + f.tally.touched)))
                (ap (λ (n : ℕ). take n (set ms q f.mean)) (add-one q) ∙ take-suc-set ms q f.mean z_place)
                ∙ (λ z. going (add_z (outcome_with (take q ms) t) (record { terms = o.terms; mean = v.2.mean z; means = o.means; peak = v.2.peak z; discarded = v.2.discarded z; touched = v.2.touched z })))
                ∙ ap (λ (s : Stage Outcome). bind s (λ o. going (add_z (outcome_with (take q ms) t) o))) (sym v.1)
                ∙ sym next_is;
            rows = next_rows A.rows;
            kept = drop-set-lt (q + 1) ms q f.mean (omega arith) ∙ drop_more q (q + 1) ms m₀ (omega arith) T.kept;
            long = length-set ms q f.mean ∙ T.long;
          }

      pub z_refused : {e : Refusal} {ws' : List ℕ} {cs' : List Float} → Answers w (Err e) ws ws' cs cs' (marked_run w l marks ops (z_state w q (tallied t))) → Qubits k (Err e) ws' cs' ms
      z_refused {e} A = qubits_refused (q + 1) k (omega arith) (record {
        told = ap (λ (s : Stage Outcome). bind s (λ o. going (add_z (outcome_with (take q ms) t) o))) (ends_refused e (marked_run w l marks ops (z_state w q (tallied t))) A.answer) ∙ sym next_is;
        rows = next_rows A.rows;
        kept = drop_more q (q + 1) ms m₀ (omega arith) T.kept;
        long = T.long;
      })

-- ---- the memory that all runs leave

zeros_are : (n : ℕ) (l : List Float) → length l ≡ n → ((i : ℕ) → i < n → get_or l i zero64 ≡ zero64) → l ≡ replicate n zero64
zeros_are zero [] e h = refl
zeros_are zero (x ∷ l) e h = absurd (omega arith)
zeros_are (suc n) [] e h = absurd (omega arith)
zeros_are (suc n) (x ∷ l) e h = λ k. h zero (omega arith) k ∷ zeros_are n l (omega arith) (λ i j. h (suc i) (omega arith)) k

module _ (w n : ℕ) {R k : ℕ} {ws ws' ws'' : List ℕ} {cs cs' cs'' m₀ m : List Float} {ix ix' : List ℕ} {run : Stage Outcome} where
  leaves : {at : Result Tally Refusal} {r : Result Finished Refusal} {m' : List Float} → AllTold w n at ws ws' cs cs' m₀ m run → R ≡ rows_in w ws cs → Cleared w 0 R ws' ws'' cs' cs''
      → ix' ≡ replicate k 0 → k ≡ length ix → told_by r ≡ results_of run → m' ≡ means_of n run ++ drop n m₀ → AllLeaves w n r ws ws'' cs cs'' m₀ m' ix ix' run
  leaves P e C z long a c =
      let rows : ℕ = rows_in w ws cs in
      let S : Stepped w rows rows 0 [] 0 ws ws'' cs cs'' = stepped_cleared w rows P.rows 0 zero-le (le_refl rows) (subst (λ (k : ℕ). Cleared w 0 k ws' ws'' cs' cs'') e C) in
      let full : leb rows rows ≡ true = le-leb rows rows (le_refl rows) in
      record {
        answer = a;
        words = S.words ∙ ap (λ (b : Bool). cond b (words_with w rows [] ws) ws) full;
        coeffs = S.coeffs ∙ ap (λ (b : Bool). cond b (coeffs_with rows [] cs) cs) full;
        means = c;
        index = z ∙ ap (λ (j : ℕ). replicate j 0) long;
      }

  pub leaves_done : {t : Tally} → AllTold w n (Ok t) ws ws' cs cs' m₀ m run → R ≡ rows_in w ws cs → Cleared w 0 R ws' ws'' cs' cs'' → ix' ≡ replicate k 0 → k ≡ length ix
      → AllLeaves w n (Ok (record { mean = zero64; count = 0; tally = t })) ws ws'' cs cs'' m₀ m ix ix' run
  leaves_done P e C z long = leaves P e C z long
      (ap results_of P.told)
      (sym (take-append-drop n m) ∙ ap (λ (r : List Float). take n m ++ r) P.kept ∙ ap (λ (s : Stage Outcome). means_of n s ++ drop n m₀) P.told)

  -- after a refusal zeros are written over the first n means
  pub leaves_refused : (front : List Float) {e : Refusal} → AllTold w n (Err e) ws ws' cs cs' m₀ m run → R ≡ rows_in w ws cs → Cleared w 0 R ws' ws'' cs' cs'' → ix' ≡ replicate k 0 → k ≡ length ix
      → n ≤ length m → length front ≡ length (take n m) → ((i : ℕ) → i < length (take n m) → get_or front i zero64 ≡ zero64)
      → AllLeaves w n (Err e) ws ws'' cs cs'' m₀ (front ++ drop n m) ix ix' run
  leaves_refused front P e C z long some full zeros =
      let t : length (take n m) ≡ n = let c = length-take n m in omega arith in
      leaves P e C z long (ap results_of P.told)
      (ap₂ ◌++◌ (zeros_are n front (full ∙ t) (λ i h. zeros i (subst⁻¹ (λ (x : ℕ). i < x) t h))) P.kept ∙ ap (λ (s : Stage Outcome). means_of n s ++ drop n m₀) P.told)

-- ---- the whole run

-- marks of all ops, written over others
all_marks : (qubits : ℕ) (l : Limits) (ops : List Op) (over : List Bool) (k : ℕ) → length ops ≤ length over
    → all_to (width_of qubits) l (overlay (mark_all ops) over) ops k ≡ all_runs (all_task qubits l ops) k
unfolding all_to all_runs
all_marks qubits l ops over zero h = refl
all_marks qubits l ops over (suc k) h =
    let w : ℕ = width_of qubits in
    ap (λ (s : Stage Outcome). bind s (z_step w l (overlay (mark_all ops) over) ops k)) (all_marks qubits l ops over k h)
    ∙ bind_same (all_runs (all_task qubits l ops) k) (z_step w l (overlay (mark_all ops) over) ops k) (z_step w l (mark_all ops) ops k)
    (λ a. ap (λ (s : Stage Outcome). bind s (λ o. going (add_z a o))) (marked_overlay w l (mark_all ops) over ops (z_state w k a) (length-map ops (λ op. true)) h))

module _ (qubits : ℕ) (l : Limits) (ops : List Op) (ws : List ℕ) (cs ms : List Float) (ix : List ℕ) {w R : ℕ} (ew : w ≡ width_of qubits) (er : R ≡ rows_in w ws cs) where
  abbrev rows : ℕ
  rows = rows_in (width_of qubits) ws cs

  rows_are : R ≡ rows
  rows_are = er ∙ ap (λ (v : ℕ). rows_in v ws cs) ew

  abbrev Told : Bool → Bool → Result Finished Refusal → List ℕ → List Float → List Float → List ℕ → Type 0
  Told f r end ws' cs' ms' ix' = AllRan qubits (f && r) (ask 2 f (ask 7 r (all_runs (all_task qubits l ops) qubits))) end ws ws' cs cs' ms ms' ix ix'

  pub all_refused : {e : Refusal} → refused (number_of e) ≡ early_all qubits l ops R (length ms)
      → AllRan qubits (all_held qubits l ops rows (length ms)) (all_asked qubits l ops rows (length ms)) (Err e) ws ws cs cs ms ms ix ix
  all_refused {e} h = go (fits_all qubits l ops) (room_all qubits l rows (length ms)) (h ∙ ap (λ (x : ℕ). early_all qubits l ops x (length ms)) rows_are)
    where
      go : (f r : Bool) → refused (number_of e) ≡ ask 2 f (ask 7 r (going (tt {0}))) → Told f r (Err e) ws cs ms ix
      go true true h = absurd (never h)
        where
          never : refused (number_of e) ≡ going (tt {0}) → ⊥
          never h = cc
      go true false h = record { answer = ap number h; words = refl; coeffs = refl; means = refl; index = refl }
        where
          number : Stage (Unit {0}) → Stage Results
          number (refused n) = refused n
          number (going x) = refused 0
      go false r h = record { answer = ap number h; words = refl; coeffs = refl; means = refl; index = refl }
        where
          number : Stage (Unit {0}) → Stage Results
          number (refused n) = refused n
          number (going x) = refused 0

  module _ (h : going (tt {0}) ≡ early_all qubits l ops R (length ms)) where
    both : (fits_all qubits l ops ≡ true) × (room_all qubits l rows (length ms) ≡ true)
    both = go (fits_all qubits l ops) (room_all qubits l rows (length ms)) (h ∙ ap (λ (x : ℕ). early_all qubits l ops x (length ms)) rows_are)
      where
        go : (f r : Bool) → going (tt {0}) ≡ ask 2 f (ask 7 r (going (tt {0}))) → (f ≡ true) × (r ≡ true)
        go true true h = (refl, refl)
        go true false h = absurd cc
        go false r h = absurd cc

    pub all_ready : AllReady w qubits l ops ws cs ms
    all_ready =
        let c = counts_say qubits l.limit 0 (length ops) both.0 in
        let r = and_true (leb (2 * l.limit) rows) (leb qubits (length ms)) both.1 in
        let few = c.qubits in
        record {
          some = c.some_limit;
          low = c.limit;
          short = c.ops;
          narrow = omega (arith, few);
          wide = omega arith;
          room = subst (λ (v : ℕ). 2 * l.limit ≤ rows_in v ws cs) (sym ew) (leb-true (2 * l.limit) rows r.0);
          places = leb-true qubits (length ms) r.1;
        }

    pub all_on : (over : List Bool) {marks : List Bool} {end : Result Finished Refusal} {ws' : List ℕ} {cs' ms' : List Float} {ix' : List ℕ} → 4096 ≤ length over → marks ≡ overlay (mark_all ops) over
        → AllLeaves w qubits end ws ws' cs cs' ms ms' ix ix' (all_to w l marks ops qubits)
        → AllRan qubits (all_held qubits l ops rows (length ms)) (all_asked qubits l ops rows (length ms)) end ws ws' cs cs' ms ms' ix ix'
    all_on over {marks} {end} {ws'} {cs'} {ms'} {ix'} long em A =
        let run : Stage Outcome = all_runs (all_task qubits l ops) qubits in
        let short = all_ready.short in
        let same : all_to w l marks ops qubits ≡ run = (λ k. all_to (ew k) l (em k) ops qubits) ∙ all_marks qubits l ops over qubits (omega arith) in
        let B : AllLeaves (width_of qubits) qubits end ws ws' cs cs' ms ms' ix ix' run =
        subst (λ (s : Stage Outcome). AllLeaves (width_of qubits) qubits end ws ws' cs cs' ms ms' ix ix' s) same
        (subst (λ (v : ℕ). AllLeaves v qubits end ws ws' cs cs' ms ms' ix ix' (all_to w l marks ops qubits)) ew A) in
        subst (λ (f : Bool). Told f (room_all qubits l rows (length ms)) end ws' cs' ms' ix') (sym both.0)
        (subst (λ (r : Bool). Told true r end ws' cs' ms' ix') (sym both.1)
        (record { answer = B.answer; words = B.words; coeffs = B.coeffs; means = B.means; index = B.index }))
