-- What a run starts from: the word of Z at one qubit, and the rows at the start. Assumes nothing.
use mathlib.Core.Path.{◌≡◌, refl, sym, ap, ◌∙◌, subst, subst⁻¹}
use mathlib.Core.Bool.{Bool, true, false, cond, ◌&&◌}
use mathlib.Core.List.{List, [], ◌∷◌}
use Prim.Native.Nat.{ℕ, zero, suc, ◌+◌, ◌-◌, ◌*◌, ◌/◌, ◌%◌, ◌≤◌, ◌<◌}
use native.Mathlib.Nat.{zero-mul, le_trans, le_refl, mul-le-mul_right, div-mul-le_self, div-eq-sub-div}
use native.Mathlib.Omega.{arith}
use lib.Dec.{leb, ltb}
use lib.ListN.{length, get_or, set, take, drop, replicate, length-replicate, replicate-append-replicate}
use lib.Seq.{take-set-lt, take_at}
use lib.Ieee.{Float, nan}
use borrow.Author.Tests.{le-leb, lt-ltb}
use Rattle.std.specs.Prelude.{Ok}
use Rattle.numbers.specs.Constants.{zero64, one64}
use Rattle.words.specs.Keys.{Key, Words, flip_of, flip_at, z_at, no_letters}
use Rattle.words.proofs.KeyLaws.{flip_at_length}
use Rattle.words.proofs.RowSteps.{row_fits}
use Rattle.terms.specs.Lists.{All}
use Rattle.terms.specs.Term.{Term, no_term, OnWidth, Distinct}
use Rattle.terms.specs.Start.{term_of, merged}
use Rattle.terms.proofs.AllLaws.{all_at, all_of, all_imp}
use Rattle.terms.proofs.CountLaws.{merged_count}
use Rattle.terms.proofs.DistinctLaws.{merged_distinct, merged_width}
use Rattle.terms.proofs.ListLaws.{length_tab, get_d_tab}
use Rattle.words.specs.Rows.{key_at}
use Rattle.rows.specs.Rows.{term_at, terms_in, rows_in, words_with, coeffs_with, Room, Stepped, Holds}
use Rattle.rows.proofs.RowLaws.{length_key}
use Rattle.rows.proofs.HoldLaws.{hold_wide}
use Rattle.rows.proofs.StepLaws.{held_rows}
use Rattle.rows.proofs.ReadLaws.{Keyed, step_holds}
use Rattle.branches.specs.Started.{Started, lines_of}
use Rattle.branches.proofs.RotatedLaws.{terms_width}
use Rattle.ops.specs.declared.Limits.{Limits}
use Rattle.turns.specs.declared.Tally.{Tally}
use Rattle.turns.specs.declared.Progress.{Progress}
use Rattle.dynamics.specs.Turn.{Stage, State, refused, going, state}
use Rattle.dynamics.specs.Runs.{begin}
use Rattle.dynamics.specs.Outcome.{z_key}
use Rattle.turns.specs.Told.{tally, Tells}
use Rattle.turns.proofs.TurnLaws.{emptied}

-- ---- Z at one qubit

and_yes : (b : Bool) → b && true ≡ b
and_yes true = refl
and_yes false = refl

abbrev zeros : ℕ → List ℕ
zeros n = replicate n 0

zero_word : (n j : ℕ) → get_or (zeros n) j 0 ≡ 0
zero_word zero j = refl
zero_word (suc n) zero = refl
zero_word (suc n) (suc j) = zero_word n j

take_zeros : (n m : ℕ) → n ≤ m → take n (zeros m) ≡ zeros n
take_zeros n m h =
    let e : n + (m - n) ≡ m = omega arith in
    ap (λ (k : ℕ). take n (zeros k)) (sym e) ∙ ap (take n) (sym (replicate-append-replicate n (m - n) 0))
    ∙ take_at (zeros n) (zeros (m - n)) n (length-replicate n 0)

-- the first 2 * w words of the code's 8 are Z's word
module _ (w q : ℕ) (narrow : w ≤ 4) (there : q < 64 * w) where
  z_word : key_at (2 * w) (flip_at (zeros 8) (z_at w q)) 0 ≡ z_key w q
  unfolding flip_at
  z_word =
      let i : ℕ = z_at w q / 64 in
      let b : ℕ = z_at w q % 64 in
      let below : z_at w q / 64 < 2 * w = omega arith in
      ap (λ (k : ℕ). take (2 * w) (drop k (set (zeros 8) i (flip_of (get_or (zeros 8) i 0) b)))) (zero-mul (2 * w))
      ∙ take-set-lt (2 * w) (zeros 8) i (flip_of (get_or (zeros 8) i 0) b) below
      ∙ (λ k. set (take_zeros (2 * w) 8 (omega arith) k) i (flip_of ((zero_word 8 i ∙ sym (zero_word (2 * w) i)) k) b))

  z_line : {keys : List ℕ} → keys ≡ flip_at (zeros 8) (z_at w q) → ltb 0 (length keys / (2 * w)) ≡ true
  z_line e =
      let long : length (flip_at (zeros 8) (z_at w q)) ≡ 8 = flip_at_length (zeros 8) (z_at w q) in
      ap (λ (l : List ℕ). ltb 0 (length l / (2 * w))) e ∙ ap (λ (n : ℕ). ltb 0 (n / (2 * w))) long ∙ lt-ltb 0 (8 / (2 * w)) (subst⁻¹ (λ (n : ℕ). 0 < n) (div-eq-sub-div {m = 2 * w} {n = 8} (omega arith) (omega arith)) (omega arith))

  pub z_started : {keys : List ℕ} {r : ℕ} {ws ws' : List ℕ} {cs cs' : List Float} → keys ≡ flip_at (zeros 8) (z_at w q)
      → Started (leb 1 (rows_in w ws cs) && ltb 0 (length keys / (2 * w))) w 1 (term_of w (key_at (2 * w) keys 0) one64 ∷ []) r ws ws' cs cs'
      → Started (leb 1 (rows_in w ws cs)) w 1 (term_of w (z_key w q) one64 ∷ []) r ws ws' cs cs'
  z_started {keys} {r} {ws} {ws'} {cs} {cs'} e S =
      let yes : (leb 1 (rows_in w ws cs) && ltb 0 (length keys / (2 * w))) ≡ leb 1 (rows_in w ws cs) =
      ap (λ (b : Bool). leb 1 (rows_in w ws cs) && b) (z_line e) ∙ and_yes (leb 1 (rows_in w ws cs)) in
      let key : key_at (2 * w) keys 0 ≡ z_key w q = ap (λ (l : List ℕ). key_at (2 * w) l 0) e ∙ z_word in
      subst (λ (k : Key). Started (leb 1 (rows_in w ws cs)) w 1 (term_of w k one64 ∷ []) r ws ws' cs cs') key
      (subst (λ (b : Bool). Started b w 1 (term_of w (key_at (2 * w) keys 0) one64 ∷ []) r ws ws' cs cs') yes S)

-- ---- the rows at the start

-- the terms of a start, read back
module _ (w R : ℕ) (l : Limits) (p : ℕ) (d : Float) {room : Bool} {ts : List Term} {r : ℕ} {ws ws' : List ℕ} {cs cs' : List Float}
    (S : Started room w R ts r ws ws' cs cs') (yes : room ≡ true) (reach : R ≤ l.limit) (have : 2 * l.limit ≤ rows_in w ws cs)
    (few : length ts ≤ R) (keyed : All (Keyed (2 * w)) ts) (apart : Distinct ts) where
  rows_yes : leb R (rows_in w ws cs) ≡ true
  rows_yes = le-leb R (rows_in w ws cs) (omega arith)

  as_step : Stepped w R R 0 ts r ws ws' cs cs'
  as_step =
      let e : room ≡ leb R (rows_in w ws cs) = yes ∙ sym rows_yes in
      record {
        count = S.count ∙ ap (λ (b : Bool). cond b (length ts) 0) e;
        words = S.words ∙ ap (λ (b : Bool). cond b (words_with w R ts ws) ws) e;
        coeffs = S.coeffs ∙ ap (λ (b : Bool). cond b (coeffs_with R ts cs) cs) e;
      }

  started_count : r ≡ length ts
  started_count = S.count ∙ ap (λ (b : Bool). cond b (length ts) 0) yes

  held : Holds (2 * w) R r ts ws ws' cs cs'
  held = step_holds w R R 0 as_step rows_yes (omega arith) few keyed

  started_tells : {out : Progress} → out ≡ record { count = r; tally = tally p d 0 } → Tells w l (Ok out) ws ws' cs cs' (going (state ts p d 0))
  started_tells {out} e = subst⁻¹ (λ (o : Progress). Tells w l (Ok o) ws ws' cs cs' (going (state ts p d 0))) e
      (record {
        told = ap (λ (us : List Term). going (state us p d 0)) held.terms;
        rows = emptied (hold_wide (omega arith) held);
        ready = record {
          few = let c = started_count in omega (arith, c, few, reach);
          room = subst⁻¹ (λ (x : ℕ). 2 * l.limit ≤ x) (held_rows w held) have;
          sound = subst⁻¹ Distinct held.terms apart;
        };
      })

one_apart : (t : Term) → Distinct (t ∷ [])
unfolding Distinct
one_apart t i j a b e = omega arith

-- the words of the lines of a table
line_width : (w n : ℕ) (keys : List ℕ) → n ≤ length keys / (2 * w) → Words keys → (i : ℕ) → i < n → (x : Float) → OnWidth w (term_of w (key_at (2 * w) keys i) x)
unfolding term_of
line_width w n keys h ok i b x =
    let cs : List Float = replicate n nan in
    let room : Room (2 * w) n keys cs = record { words_room = le_trans (mul-le-mul_right (2 * w) h) (div-mul-le_self (length keys) (2 * w)); coeffs_room = rw length-replicate (le_refl _) } in
    let all = terms_width w n keys cs room ok in
    let at : OnWidth w (term_at (2 * w) keys cs i) =
    subst (OnWidth w) (get_d_tab n (term_at (2 * w) keys cs) i no_term b) (all_at (OnWidth w) (terms_in (2 * w) n keys cs) i no_term (rw length_tab b) all) in
    record { long = at.long; words = at.words }

-- the starts
module _ (w : ℕ) (l : Limits) {out : Progress} {r : ℕ} {ws ws' : List ℕ} {cs cs' : List Float} (have : 2 * l.limit ≤ rows_in w ws cs) where
  pub lines_tell : (keys : List ℕ) (weights : List Float) → let k = length weights in k ≤ l.limit → k ≤ length keys / (2 * w) → Words keys → out ≡ record { count = r; tally = tally r zero64 0 }
      → Started (leb k (rows_in w ws cs) && leb k (length keys / (2 * w))) w k (merged (lines_of w keys weights k)) r ws ws' cs cs'
      → Tells w l (Ok out) ws ws' cs cs' (going (begin (merged (lines_of w keys weights k))))
  lines_tell keys weights fits there ok eo S =
      let k : ℕ = length weights in
      let ts : List Term = lines_of w keys weights k in
      let f : ℕ → Term = λ i. term_of w (key_at (2 * w) keys i) (get_or weights i nan) in
      let long : length ts ≡ k = length_tab k f in
      let wide : All (OnWidth w) ts =
      all_of (OnWidth w) ts no_term (λ i h.
      let b : i < k = subst (λ (m : ℕ). i < m) long h in
      subst⁻¹ (OnWidth w) (get_d_tab k f i no_term b) (line_width w k keys there ok i b (get_or weights i nan))) in
      let few : length (merged ts) ≤ k = subst (λ (m : ℕ). length (merged ts) ≤ m) long (merged_count ts) in
      let keyed : All (Keyed (2 * w)) (merged ts) = all_imp (OnWidth w) (Keyed (2 * w)) (merged ts) (λ t x. x.long) (merged_width w ts wide) in
      let yes : (leb k (rows_in w ws cs) && leb k (length keys / (2 * w))) ≡ true =
      λ j. le-leb k (rows_in w ws cs) (omega arith) j && le-leb k (length keys / (2 * w)) there j in
      let count = started_count w k l 0 zero64 S yes fits have few keyed (merged_distinct ts) in
      started_tells w k l (length (merged ts)) zero64 S yes fits have few keyed (merged_distinct ts)
      (eo ∙ ap (λ (n : ℕ). record { count = r; tally = tally n zero64 0 }) count)

  pub alone_tells : (keys : List ℕ) (i : ℕ) → 1 ≤ l.limit → i < length keys / (2 * w) → out ≡ record { count = r; tally = tally r zero64 0 }
      → Started (leb 1 (rows_in w ws cs) && ltb i (length keys / (2 * w))) w 1 (term_of w (key_at (2 * w) keys i) one64 ∷ []) r ws ws' cs cs'
      → Tells w l (Ok out) ws ws' cs cs' (going (begin (term_of w (key_at (2 * w) keys i) one64 ∷ [])))
  unfolding term_of
  alone_tells keys i fits there eo S =
      let t : Term = term_of w (key_at (2 * w) keys i) one64 in
      let long : Keyed (2 * w) t = length_key (2 * w) keys i (row_fits (length keys) w i there) in
      let yes : (leb 1 (rows_in w ws cs) && ltb i (length keys / (2 * w))) ≡ true = λ j. le-leb 1 (rows_in w ws cs) (omega arith) j && lt-ltb i (length keys / (2 * w)) there j in
      let count = started_count w 1 l 0 zero64 S yes fits have (le_refl 1) (long, tt) (one_apart t) in
      started_tells w 1 l 1 zero64 S yes fits have (le_refl 1) (long, tt) (one_apart t) (eo ∙ ap (λ (n : ℕ). record { count = r; tally = tally n zero64 0 }) count)

  pub z_tells : (q : ℕ) (t : Tally) → 1 ≤ l.limit → out ≡ record { count = r; tally = tally t.peak t.discarded 0 } → Started (leb 1 (rows_in w ws cs)) w 1 (term_of w (z_key w q) one64 ∷ []) r ws ws' cs cs'
      → Tells w l (Ok out) ws ws' cs cs' (going (state (term_of w (z_key w q) one64 ∷ []) t.peak t.discarded 0))
  unfolding term_of
  z_tells q t fits eo S =
      let one : Term = term_of w (z_key w q) one64 in
      let long : Keyed (2 * w) one = flip_at_length (no_letters w) (z_at w q) ∙ length-replicate (2 * w) 0 in
      started_tells w 1 l t.peak t.discarded S (le-leb 1 (rows_in w ws cs) (omega arith)) fits have (le_refl 1) (long, tt) (one_apart one) eo

-- no op has met a term at a start
pub none_met : (w : ℕ) (l : Limits) {p : Progress} {ws₀ ws : List ℕ} {cs₀ cs : List Float} (ts : List Term) (k : ℕ) (d : Float)
    → Tells w l (Ok p) ws₀ ws cs₀ cs (going (state ts k d 0)) → p.tally.touched ≡ 0
none_met w l {p} ts k d T = ap met T.told
  where
    met : Stage State → ℕ
    met (refused n) = 0
    met (going s) = s.touched
