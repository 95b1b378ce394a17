-- What the proof of the loop over the ops, from the last index down, uses of `runs`, and what a public run leaves. Assumes nothing.
use mathlib.Core.Path.{◌≡◌, refl, sym, ap, ap₂, ◌∙◌, subst, subst⁻¹}
use mathlib.Core.Bool.{Bool, true, false, cond, ◌&&◌, false≢true}
use mathlib.Core.List.{List, [], ◌∷◌}
use Prim.Native.Nat.{ℕ, zero, suc, ◌+◌, ◌-◌, ◌*◌, ◌/◌, ◌^◌, ◌≤◌, ◌<◌, min}
use native.Mathlib.Nat.{le_refl}
use native.Mathlib.Omega.{arith}
use lib.Dec.{eqb, leb}
use lib.ListN.{length, get_or, drop, replicate, length-drop}
use borrow.Author.Tests.{le-leb, leb-true}
use lib.Seq.{drop-cons}
use lib.Ieee.{Float}
use Rattle.std.specs.Prelude.{Option, Some, None, option_map, IfSome, IfOk, Result, Ok, Err}
use Rattle.std.specs.List.{find}
use Rattle.std.proofs.lemmas.Bool.{eqb-true}
use Rattle.std.proofs.lemmas.Option.{IfSome_then}
use Rattle.terms.specs.Term.{no_term}
use Rattle.rows.specs.Rows.{term_at, terms_in, rows_in, words_with, coeffs_with, Stepped, Holds, Room}
use Rattle.rows.specs.Cleared.{Cleared}
use Rattle.words.specs.declared.Gate.TheVariants.{Id}
use Rattle.rows.specs.declared.Rows.{Rows}
use Rattle.rows.specs.Lent.{SameRows}
use Rattle.rows.proofs.LentLaws.{same_trans}
use Rattle.rows.proofs.HoldLaws.{hold_trans, hold_wide, room_less, room_at}
use Rattle.rows.proofs.RowLaws.{length_key}
use Rattle.rows.proofs.ReadLaws.{Keyed, step_holds}
use Rattle.terms.specs.Lists.{All}
use Rattle.terms.proofs.AllLaws.{all_of}
use Rattle.terms.proofs.ListLaws.{length_tab, get_d_tab}
use Rattle.rows.proofs.ClearLaws.{stepped_cleared}
use Rattle.rows.proofs.StepLaws.{rows_room, held_room, twice_yes, twice_no}
use Rattle.ops.specs.declared.Limits.{Limits}
use Rattle.ops.specs.declared.Op.{Op}
use Rattle.ops.specs.declared.Op.TheVariants.{Native}
use Rattle.ops.specs.declared.Refusal.{Refusal}
use Rattle.ops.specs.declared.Refusal.TheVariants.{Layout, Counts, RunLines, Reals, Qubits, Repeats, NotFinite, TooMany, Angles}
use Rattle.ops.specs.declared.Refusal.TheVariants as E
use Rattle.ops.specs.Refusals.{number_of}
use Rattle.turns.specs.declared.Progress.{Progress}
use Rattle.turns.specs.declared.Finished.{Finished}
use Rattle.dynamics.specs.Turn.{Stage, refused, going, bind, ask, UnlessRefused, State, state, Outcome, finish}
use Rattle.dynamics.specs.Runs.{turn, step, runs, marked_run}
use Rattle.turns.specs.SumRuns.{Results, results, told_by, results_of, left_by, has_rows, Ran}
use Rattle.turns.specs.Told.{tally, stage_terms, state_in, state_of, RowsTell, stage_in, refusals, refusal_of, turned_of, ending_of, Ready, Fresh, Tells, Ends}
use Rattle.dynamics.proofs.CountedRuns.{Counted, runs_counted, run_fits}
use Rattle.turns.proofs.TurnLaws.{long, untouched}

-- ---- the ops from index i on

module _ (w : ℕ) (l : Limits) where
  runs_none : (ops : List Op) (s : State) → runs w l [] ops s ≡ going s
  unfolding runs
  runs_none [] s = refl
  runs_none (op ∷ ops) s = refl

  runs_over : (ms : List Bool) (ops : List Op) (s : State) (i : ℕ) → min (length ms) (length ops) ≤ i → runs w l (drop i ms) (drop i ops) s ≡ going s
  unfolding runs
  runs_over [] ops s zero h = runs_none ops s
  runs_over (m ∷ ms) [] s zero h = refl
  runs_over (m ∷ ms) (op ∷ ops) s zero h = absurd (omega arith)
  runs_over [] [] s (suc i) h = refl
  runs_over [] (op ∷ ops) s (suc i) h = runs_none (drop i ops) s
  runs_over (m ∷ ms) [] s (suc i) h = refl
  runs_over (m ∷ ms) (op ∷ ops) s (suc i) h = runs_over ms ops s i (omega arith)

  runs_step : (ms : List Bool) (ops : List Op) (s : State) (i : ℕ) (d : Op) → i < length ms → i < length ops
      → runs w l (drop i ms) (drop i ops) s ≡ bind (runs w l (drop (suc i) ms) (drop (suc i) ops) s) (step w l (get_or ms i false) (get_or ops i d))
  unfolding runs
  runs_step ms ops s i d h k = ap₂ (λ (a : List Bool) (b : List Op). runs w l a b s) (drop-cons ms i false h) (drop-cons ops i d k)

  -- a refusal at the ops from i on is one of the whole run
  runs_refused : (ms : List Bool) (ops : List Op) (s : State) (n i : ℕ) → runs w l (drop i ms) (drop i ops) s ≡ refused n → runs w l ms ops s ≡ refused n
  unfolding runs
  runs_refused ms ops s n zero e = e
  runs_refused [] [] s n (suc i) e = e
  runs_refused [] (op ∷ ops) s n (suc i) e = sym (runs_none (drop i ops) s) ∙ e
  runs_refused (m ∷ ms) [] s n (suc i) e = e
  runs_refused (m ∷ ms) (op ∷ ops) s n (suc i) e = ap (λ (x : Stage State). bind x (step w l m op)) (runs_refused ms ops s n i e)

-- ---- the loop, when the ops from i on have been taken

module _ (w : ℕ) (l : Limits) (ms : List Bool) (ops : List Op) (p : Progress) (ws₀ : List ℕ) (cs₀ : List Float) where
  abbrev start : State
  start = state_in w p ws₀ cs₀

  abbrev pub Taken : ℕ → Result Progress Refusal → List ℕ → List Float → Type 0
  Taken i r ws cs = Tells w l r ws₀ ws cs₀ cs (runs w l (drop i ms) (drop i ops) start)

  pub taken_none : (i : ℕ) → min (length ops) (length ms) ≤ i → Ready w l p.count ws₀ cs₀ → Taken i (Ok p) ws₀ cs₀
  taken_none i h ready = record { told = sym (runs_over w l ms ops start i (omega arith)); rows = untouched (2 * w) (2 * l.limit) ws₀ cs₀; ready = ready }

  module _ {i : ℕ} {at : Progress} {ws : List ℕ} {cs : List Float} (T : Taken i (Ok at) ws cs) (d : Op) (pos : 0 < i) (hm : i - 1 < length ms) (ho : i - 1 < length ops) where
    again : runs w l (drop (i - 1) ms) (drop (i - 1) ops) start ≡ step w l (get_or ms (i - 1) false) (get_or ops (i - 1) d) (state_in w at ws cs)
    again =
        let q : suc (i - 1) ≡ i = omega arith in
        runs_step w l ms ops start (i - 1) d hm ho
        ∙ ap (λ (j : ℕ). bind (runs w l (drop j ms) (drop j ops) start) (step w l (get_or ms (i - 1) false) (get_or ops (i - 1) d))) q
        ∙ ap (λ (s : Stage State). bind s (step w l (get_or ms (i - 1) false) (get_or ops (i - 1) d))) (sym T.told)

    -- an op with a mark
    pub taken_turn : {r : Result Progress Refusal} {ws' : List ℕ} {cs' : List Float} → get_or ms (i - 1) false ≡ true
        → Tells w l r ws ws' cs cs' (turn w l (get_or ops (i - 1) d) (state_in w at ws cs)) → Taken (i - 1) r ws' cs'
    taken_turn m U = record {
      told = U.told ∙ sym (again ∙ ap (λ (b : Bool). step w l b (get_or ops (i - 1) d) (state_in w at ws cs)) m);
      rows = hold_trans T.rows U.rows;
      ready = U.ready;
    }

    -- and one without
    pub taken_skip : get_or ms (i - 1) false ≡ false → Taken (i - 1) (Ok at) ws cs
    taken_skip m = record { told = sym (again ∙ ap (λ (b : Bool). step w l b (get_or ops (i - 1) d) (state_in w at ws cs)) m); rows = T.rows; ready = T.ready }

  pub taken_all : {i : ℕ} {r : Result Progress Refusal} {ws : List ℕ} {cs : List Float} → i ≤ 0 → Taken i r ws cs → Tells w l r ws₀ ws cs₀ cs (runs w l ms ops start)
  taken_all {i} h T = record { told = T.told ∙ (let z : i ≡ 0 = omega arith in ap (λ (j : ℕ). runs w l (drop j ms) (drop j ops) start) z); rows = T.rows; ready = T.ready }

  pub taken_refused : (i : ℕ) {e : Refusal} {ws : List ℕ} {cs : List Float} → Taken i (Err e) ws cs → Tells w l (Err e) ws₀ ws cs₀ cs (runs w l ms ops start)
  taken_refused i {e} T = record { told = sym (runs_refused w l ms ops start (number_of e) i (sym T.told)); rows = T.rows; ready = tt }

  -- what one op more can meet fits 64 bits
  pub taken_slack : (i : ℕ) {at : Progress} {ws : List ℕ} {cs : List Float} → Fresh w l p ops ws₀ cs₀ → Taken i (Ok at) ws cs → at.tally.touched + l.limit < 2 ^ 64
  taken_slack i {at} {ws} {cs} F T =
      let back : List Op = drop i ops in
      let c : Counted l (length back * l.limit + 0) (state_in w at ws cs) =
      subst⁻¹ (UnlessRefused (Counted l (length back * l.limit + 0))) T.told
      (runs_counted w l (drop i ms) back start 0 (record { few = subst⁻¹ (λ (m : ℕ). m ≤ l.limit) (long w p.count ws₀ cs₀) F.ready.few; met = let z = F.none in omega arith })) in
      let few : length back ≤ 4096 = let s = F.short in omega (arith, length-drop i ops, s) in
      let m = run_fits (length back) l.limit few F.low in
      let k = c.met in
      let low = F.low in
      omega (arith, k, m, low)

-- ---- the same of lent rows

-- the ops from i on have been taken, with the answer a
pub record RowsTaken (l : Limits) (ms : List Bool) (ops : List Op) (p : Progress) (s : Rows) (i : ℕ) (a : Result Progress Refusal) (r : Rows) : Type 0 where
  pub same : SameRows s r
  pub left : Taken s.w l ms ops p s.words.now s.coeffs.now i a r.words.now r.coeffs.now

module _ (l : Limits) (ms : List Bool) (ops : List Op) (p : Progress) (s : Rows) (i : ℕ) (at : Progress) (a : Result Progress Refusal) (r r' : Rows) where
  pub rows_turned : RowsTaken l ms ops p s i (Ok at) r → 0 < i → i - 1 < length ms → i - 1 < length ops → get_or ms (i - 1) false ≡ true
      → RowsTell l a (turn r.w l (get_or ops (i - 1) (Native Id 0 0)) (state_of at r)) r r' → RowsTaken l ms ops p s (i - 1) a r'
  rows_turned T pos hm ho m e = record {
    same = same_trans T.same e.same;
    left = taken_turn s.w l ms ops p s.words.now s.coeffs.now T.left (Native Id 0 0) pos hm ho m (rw T.same.width at e.left);
  }

-- ---- the whole run

module _ (w : ℕ) (l : Limits) (ms : List Bool) (ops : List Op) (s : State) {ws₀ ws : List ℕ} {cs₀ cs : List Float} where
  pub run_ends : {at : Progress} {end : Result Finished Refusal} {ws' : List ℕ} {cs' : List Float} → Tells w l (Ok at) ws₀ ws cs₀ cs (runs w l ms ops s)
      → Ends w l end ws ws' cs cs' (finish w l (state_in w at ws cs)) → Ends w l end ws₀ ws' cs₀ cs' (marked_run w l ms ops s)
  unfolding marked_run
  run_ends {at} {end} {ws'} {cs'} T E = subst (λ (x : Stage State). Ends w l end ws₀ ws' cs₀ cs' (bind x (finish w l))) T.told
      (record { answer = E.answer; rows = hold_trans T.rows E.rows; few = E.few })

  pub run_refused : {e : Refusal} → Tells w l (Err e) ws₀ ws cs₀ cs (runs w l ms ops s) → Ends w l (Err e) ws₀ ws cs₀ cs (marked_run w l ms ops s)
  unfolding marked_run
  run_refused {e} T = subst (λ (x : Stage State). Ends w l (Err e) ws₀ ws cs₀ cs (bind x (finish w l))) T.told
      (record { answer = refl; rows = T.rows; few = omega arith })

-- ---- an answer and the outcome that it tells of, one to one

-- a refusal's number gives it back
number_back : (e : Refusal) → refusal_of (number_of e) ≡ Some e
number_back Layout = refl
number_back Counts = refl
number_back RunLines = refl
number_back Reals = refl
number_back Qubits = refl
number_back Repeats = refl
number_back E.Room = refl
number_back NotFinite = refl
number_back TooMany = refl
number_back Angles = refl

-- what is found passes the test
found_passes : (p : Refusal → Bool) (es : List Refusal) → IfSome (find p es) (λ e. p e ≡ true)
found_passes p [] = tt
found_passes p (e ∷ es) = go (p e) refl (found_passes p es)
  where
    go : (b : Bool) → p e ≡ b → IfSome (find p es) (λ x. p x ≡ true) → IfSome (cond b (Some e) (find p es)) (λ x. p x ≡ true)
    go true h rest = h
    go false h rest = rest

-- the refusal of a number has that number
number_there : (n : ℕ) → IfSome (refusal_of n) (λ e. number_of e ≡ n)
number_there n = IfSome_then (refusal_of n) (found_passes (λ e. eqb (number_of e) n) refusals) (λ e h. eqb-true (number_of e) n h)

-- what holds of each refusal with a number holds of the answer that stands for the number
by_number : {X : Type 0} (n : ℕ) (P : Result X Refusal → Type 0) → ((e : Refusal) → number_of e ≡ n → P (Err e)) → IfSome (option_map Err (refusal_of n)) P
by_number n P h = go (refusal_of n) (number_there n)
  where
    go : (a : Option Refusal) → IfSome a (λ e. number_of e ≡ n) → IfSome (option_map Err a) P
    go None q = tt
    go (Some e) q = h e q

-- worked cases: no question has these numbers, so no answer stands for them
no_ending_0 : ending_of (refused 0) ≡ None
no_ending_0 = refl

no_ending_10 : ending_of (refused 10) ≡ None
no_ending_10 = refl

no_ending_12 : ending_of (refused 12) ≡ None
no_ending_12 = refl

pub turned_of_lem : (w : ℕ) (l : Limits) {r : Result Progress Refusal} {ws₀ ws : List ℕ} {cs₀ cs : List Float} {s : Stage State} → Tells w l r ws₀ ws cs₀ cs s → Some r ≡ turned_of s
turned_of_lem w l {r} {ws₀} {ws} {cs₀} {cs} T = go r ∙ ap turned_of T.told
  where
    go : (a : Result Progress Refusal) → Some a ≡ turned_of (stage_in w a ws cs)
    go (Err e) = ap (option_map Err) (sym (number_back e))
    go (Ok p) = λ k. Some (Ok (record { count = sym (long w p.count ws cs) k; tally = p.tally }))

-- the other way, where the rows hold the terms of the stage
module _ (w : ℕ) (ws : List ℕ) (cs : List Float) where
  abbrev Stands : Stage State → Result Progress Refusal → Type 0
  Stands s r = IfOk r (λ p. terms_in (2 * w) p.count ws cs ≡ stage_terms s) → stage_in w r ws cs ≡ s

  stands : (s : Stage State) → IfSome (turned_of s) (Stands s)
  stands (refused n) = by_number n (Stands (refused n)) (λ e h t. ap refused h)
  stands (going s) = λ t k. going (state (t k) s.peak s.discarded s.touched)

  pub told_stage : (s : Stage State) {r : Result Progress Refusal} → Some r ≡ turned_of s → IfOk r (λ p. terms_in (2 * w) p.count ws cs ≡ stage_terms s) → stage_in w r ws cs ≡ s
  told_stage s e = subst⁻¹ (λ (a : Option (Result Progress Refusal)). IfSome a (Stands s)) e (stands s)

pub ending_of_lem : (run : Stage Outcome) {end : Result Finished Refusal} → told_by end ≡ results_of run → Some end ≡ ending_of run
ending_of_lem run {end} e = sym (back end) ∙ ap told_end e ∙ forth run
  where
    told_end : Stage Results → Option (Result Finished Refusal)
    told_end (refused n) = option_map Err (refusal_of n)
    told_end (going x) = Some (Ok (record { mean = x.mean; count = x.count; tally = tally x.peak x.discarded x.touched }))

    back : (r : Result Finished Refusal) → told_end (told_by r) ≡ Some r
    back (Err f) = ap (option_map Err) (number_back f)
    back (Ok f) = refl

    forth : (s : Stage Outcome) → told_end (results_of s) ≡ ending_of s
    forth (refused n) = refl
    forth (going o) = refl

pub told_of : (run : Stage Outcome) {end : Result Finished Refusal} → Some end ≡ ending_of run → told_by end ≡ results_of run
told_of run e = subst⁻¹ (λ (a : Option (Result Finished Refusal)). IfSome a (λ r. told_by r ≡ results_of run)) e (go run)
  where
    go : (s : Stage Outcome) → IfSome (ending_of s) (λ r. told_by r ≡ results_of s)
    go (refused n) = by_number n (λ r. told_by r ≡ refused n) (λ f h. ap refused h)
    go (going o) = refl

-- a run that is refused, by its number
pub ends_refused : (e : Refusal) (run : Stage Outcome) → told_by (Err e) ≡ results_of run → refused (number_of e) ≡ run
ends_refused e (refused n) h = ap number h
  where
    number : Stage Results → Stage Outcome
    number (refused n) = refused n
    number (going x) = refused 0
ends_refused e (going o) h = cc

-- a run that is not, by its values
pub record Values (f : Finished) (o : Outcome) : Type 0 where
  pub mean : f.mean ≡ o.mean
  pub count : f.count ≡ length o.terms
  pub peak : f.tally.peak ≡ o.peak
  pub discarded : f.tally.discarded ≡ o.discarded
  pub touched : f.tally.touched ≡ o.touched

pub ends_going : (f : Finished) (run : Stage Outcome) → told_by (Ok f) ≡ results_of run → (o : Outcome) × (run ≡ going o) × Values f o
ends_going f (refused n) h = absurd cc
ends_going f (going o) h = (
  o,
  refl,
  record {
    mean = ap (λ (s : Stage Results). (values s).mean) h;
    count = ap (λ (s : Stage Results). (values s).count) h;
    peak = ap (λ (s : Stage Results). (values s).peak) h;
    discarded = ap (λ (s : Stage Results). (values s).discarded) h;
    touched = ap (λ (s : Stage Results). (values s).touched) h;
  },
)
  where
    values : Stage Results → Results
    values (refused n) = results f.mean f.count f.tally.peak f.tally.discarded f.tally.touched
    values (going x) = x

abbrev pub count_of : Result Finished Refusal → ℕ
count_of (Err e) = 0
count_of (Ok f) = f.count

-- how many terms a run's answer has
left_count : (end : Result Finished Refusal) (run : Stage Outcome) → told_by end ≡ results_of run → (n : ℕ) → n ≡ count_of end → n ≡ length (left_by run)
left_count (Err e) run h n c = c ∙ ap (λ (s : Stage Outcome). length (left_by s)) (ends_refused e run h)
left_count (Ok f) run h n c = let v = ends_going f run h in c ∙ v.2.count ∙ sym (ap (λ (s : Stage Outcome). length (left_by s)) v.1)

-- ---- what a public run is refused with before it starts, and what it leaves

-- the keys in the rows have 2 * w words
keyed_in : (w n : ℕ) (ws : List ℕ) (cs : List Float) → Room (2 * w) n ws cs → All (Keyed (2 * w)) (terms_in (2 * w) n ws cs)
keyed_in w n ws cs room =
    all_of (Keyed (2 * w)) (terms_in (2 * w) n ws cs) no_term
    (λ i h.
    let b : i < n = subst (λ (m : ℕ). i < m) (length_tab n (term_at (2 * w) ws cs)) h in
    subst⁻¹ (Keyed (2 * w)) (get_d_tab n (term_at (2 * w) ws cs) i no_term b) (length_key (2 * w) ws i (room_at room i b).0))

-- question 7 answered with yes
pub rows_for : (w limit : ℕ) (ws : List ℕ) (cs : List Float) {r : ℕ} → r ≡ rows_in w ws cs → limit ≤ r / 2 → 2 * limit ≤ rows_in w ws cs
rows_for w limit ws cs e h = leb-true (2 * limit) (rows_in w ws cs) (twice_yes w limit ws cs e h)

module _ (w : ℕ) (fits : Bool) (l : Limits) (run : Stage Outcome) (ws : List ℕ) (cs : List Float) (ix : List ℕ) where
  abbrev rows : ℕ
  rows = rows_in w ws cs

  abbrev Told : Bool → Bool → Result Finished Refusal → List ℕ → List Float → List ℕ → Type 0
  Told g h r ws' cs' ix' = Ran w (g && h) (ask 2 g (ask 7 h run)) r ws ws' cs cs' ix ix'

  pub ran_2 : fits ≡ false → Told fits (has_rows l rows) (Err Counts) ws cs ix
  ran_2 g = subst⁻¹ (λ (b : Bool). Told b (has_rows l rows) (Err Counts) ws cs ix) g (record { answer = refl; words = refl; coeffs = refl; index = refl; rows = λ e. absurd (false≢true e) })

  pub ran_7 : {r : ℕ} → fits ≡ true → r ≡ rows → r / 2 < l.limit → Told fits (has_rows l rows) (Err E.Room) ws cs ix
  ran_7 g e h = subst⁻¹ (λ (b : Bool). Told b (has_rows l rows) (Err E.Room) ws cs ix) g
      (subst⁻¹ (λ (b : Bool). Told true b (Err E.Room) ws cs ix) (twice_no w l.limit ws cs e h) (record { answer = refl; words = refl; coeffs = refl; index = refl; rows = λ e. absurd (false≢true e) }))

  pub ran_on : {r : ℕ} {end : Result Finished Refusal} {left : ℕ} {ws' ws'' : List ℕ} {cs' cs'' : List Float} {ix' : List ℕ} → fits ≡ true → r ≡ rows → l.limit ≤ r / 2
      → Ends w l end ws ws' cs cs' run → left ≡ count_of end → Cleared w left r ws' ws'' cs' cs'' → ix' ≡ replicate (length ix) 0
      → Told fits (has_rows l rows) end ws'' cs'' ix'
  ran_on {r} {end} {left} {ws'} {ws''} {cs'} {cs''} {ix'} g e h E n C zeros =
      let yes = twice_yes w l.limit ws cs e h in
      let room : 2 * l.limit ≤ rows = leb-true (2 * l.limit) rows yes in
      let wide : Holds (2 * w) rows (length (left_by run)) (left_by run) ws ws' cs cs' = hold_wide room E.rows in
      let some : left ≡ length (left_by run) = left_count end run E.answer left n in
      let cleared : Cleared w (length (left_by run)) rows ws' ws'' cs' cs'' = subst (λ (k : ℕ). Cleared w k rows ws' ws'' cs' cs'') some (subst (λ (k : ℕ). Cleared w left k ws' ws'' cs' cs'') e C) in
      let S : Stepped w rows rows 0 (left_by run) (length (left_by run)) ws ws'' cs cs'' = stepped_cleared w rows wide 0 (let f = E.few in omega (arith, f, room)) (le_refl rows) cleared in
      let full : leb rows rows ≡ true = le-leb rows rows (le_refl rows) in
      subst⁻¹ (λ (b : Bool). Told b (has_rows l rows) end ws'' cs'' ix') g
      (subst⁻¹ (λ (b : Bool). Told true b end ws'' cs'' ix') yes
      (record {
        answer = E.answer;
        words = S.words ∙ ap (λ (b : Bool). cond b (words_with w rows (left_by run) ws) ws) full;
        coeffs = S.coeffs ∙ ap (λ (b : Bool). cond b (coeffs_with rows (left_by run) cs) cs) full;
        index = zeros;
        rows = λ e. step_holds w rows rows 0 S full (le_refl rows) (let f = E.few in omega (arith, f, room))
            (subst (All (Keyed (2 * w))) E.rows.terms (keyed_in w (length (left_by run)) ws' cs' (room_less (let f = E.few in omega (arith, f, room)) (held_room E.rows (rows_room w rows ws cs (le_refl rows))))));
      }))
