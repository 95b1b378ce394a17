-- The term of a line in a row, a turn of the loop over the lines, and what the public starts leave. Assumes nothing.
use mathlib.Core.Path.{◌≡◌, refl, sym, ap, ap₂, ◌∙◌, subst}
use mathlib.Core.Bool.{Bool, true, cond, ◌&&◌}
use mathlib.Core.List.{List, [], ◌∷◌, ◌++◌}
use Prim.Native.Nat.{ℕ, ◌+◌, ◌-◌, ◌*◌, ◌/◌, ◌%◌, ◌≤◌, ◌<◌}
use native.Mathlib.Numerals.{add-one}
use native.Mathlib.Omega.{arith}
use lib.Dec.{leb, ltb}
use lib.ListN.{length, get_or, replicate}
use lib.Ieee.{Float, nan, neg}
use borrow.Author.Tests.{lt-ltb, le-leb}
use Rattle.numbers.specs.Constants.{zero64}
use Rattle.words.proofs.RowSteps.{row_fits}
use Rattle.terms.specs.Lists.{tab}
use Rattle.words.specs.Letters.{ys_of}
use Rattle.terms.specs.Start.{term_of, coalesced, merged}
use Rattle.terms.specs.Term.{Term}
use Rattle.terms.proofs.ListLaws.{tab_snoc, length_tab}
use Rattle.words.specs.Rows.{key_at}
use Rattle.rows.specs.Rows.{terms_in, rows_in, keys_of, coeffs_of, words_with, coeffs_with, put_key, put_coeff, Stepped, Holds}
use Rattle.branches.specs.Started.{Started, lines_of}
use Rattle.rows.proofs.RowLaws.{length_key}
use Rattle.rows.proofs.HoldLaws.{hold_start, hold_push, hold_room, hold_count}
use Rattle.rows.proofs.StepLaws.{rows_room, held_rows, held_words, held_coeffs}

-- ---- one row

mod_mod : (n : ℕ) → n % 4 % 4 ≡ n % 4
mod_mod n = omega arith

pub line_room : (w line : ℕ) (keys : List ℕ) → line < length keys / (2 * w) → line * (2 * w) + 2 * w ≤ length keys
line_room w line keys h = row_fits (length keys) w line h

module _ (w row line : ℕ) (keys : List ℕ) (weight : Float) (ws : List ℕ) (cs : List Float) where
  pub line_row : {ws' : List ℕ} {cs' : List Float} {k : List ℕ} {q : ℕ} {u : Float} → k ≡ key_at (2 * w) keys line → ws' ≡ put_key (2 * w) ws row k
      → q ≡ ys_of w k % 4 → u ≡ cond (ltb 1 (q % 4)) (neg weight) weight → cs' ≡ put_coeff cs row u
      → (ws' ≡ put_key (2 * w) ws row (term_of w (key_at (2 * w) keys line) weight).key) × (cs' ≡ put_coeff cs row (term_of w (key_at (2 * w) keys line) weight).coeff)
  unfolding term_of
  line_row {q = q} ek ew eq eu ec =
      let part : q ≡ ys_of w (key_at (2 * w) keys line) % 4 = eq ∙ ap (λ (k : List ℕ). ys_of w k % 4) ek in (
        ew ∙ ap (put_key (2 * w) ws row) ek,
        ec ∙ ap (put_coeff cs row) (eu ∙ ap (λ (n : ℕ). cond (ltb 1 (n % 4)) (neg weight) weight) part ∙ ap (λ (n : ℕ). cond (ltb 1 n) (neg weight) weight) (mod_mod (ys_of w (key_at (2 * w) keys line)))),
      )

-- ---- a turn of the loop over the lines

term_long : (w line : ℕ) (keys : List ℕ) (weight : Float) → line < length keys / (2 * w) → length (term_of w (key_at (2 * w) keys line) weight).key ≡ 2 * w
unfolding term_of
term_long w line keys weight h = length_key (2 * w) keys line (line_room w line keys h)

pub lines_start : (w lines : ℕ) (keys : List ℕ) (weights : List Float) (ws : List ℕ) (cs : List Float) → Holds (2 * w) lines 0 (lines_of w keys weights 0) ws ws cs cs
unfolding tab
lines_start w lines keys weights ws cs = hold_start (2 * w) lines 0 ws cs

pub lines_turn : (w lines l : ℕ) (keys : List ℕ) (weights : List Float) {ws₀ ws ws' : List ℕ} {cs₀ cs cs' : List Float}
    → Holds (2 * w) lines l (lines_of w keys weights l) ws₀ ws cs₀ cs → lines ≤ rows_in w ws₀ cs₀ → lines ≤ length keys / (2 * w) → l < lines
    → (ws' ≡ put_key (2 * w) ws l (term_of w (key_at (2 * w) keys l) (get_or weights l nan)).key)
    × (cs' ≡ put_coeff cs l (term_of w (key_at (2 * w) keys l) (get_or weights l nan)).coeff)
    → Holds (2 * w) lines (l + 1) (lines_of w keys weights (l + 1)) ws₀ ws' cs₀ cs'
lines_turn w lines l keys weights {ws₀} {ws} {ws'} {cs₀} {cs} {cs'} H room there h e =
    let f : ℕ → Term = λ j. term_of w (key_at (2 * w) keys j) (get_or weights j nan) in
    let more : lines_of w keys weights (l + 1) ≡ lines_of w keys weights l ++ (f l ∷ []) = ap (λ (n : ℕ). tab n f) (add-one l) ∙ tab_snoc l f in
    rw (e.0, e.1, more)
    (hold_push H (hold_room H (rows_room w lines ws₀ cs₀ room)) h (f l) (term_long w l keys (get_or weights l nan) (omega arith)))

-- ---- the public starts

module _ (room : Bool) (w R : ℕ) (ts : List Term) (ws : List ℕ) (cs : List Float) where
  started : {ws' : List ℕ} {cs' : List Float} → room ≡ true → ws' ≡ words_with w R ts ws → cs' ≡ coeffs_with R ts cs → Started room w R ts (length ts) ws ws' cs cs'
  started e p q = record {
    count = ap (λ (b : Bool). cond b (length ts) 0) (sym e);
    words = p ∙ ap (λ (b : Bool). cond b (words_with w R ts ws) ws) (sym e);
    coeffs = q ∙ ap (λ (b : Bool). cond b (coeffs_with R ts cs) cs) (sym e);
  }

  started_held : {ws' : List ℕ} {cs' : List Float} → room ≡ true → R ≤ length cs → Holds (2 * w) R R ts ws ws' cs cs' → Started room w R ts R ws ws' cs cs'
  started_held {ws'} {cs'} e h H =
      subst (λ (r : ℕ). Started room w R ts r ws ws' cs cs') (hold_count H) (started e (held_words w H) (held_coeffs w H h))

module _ (w line : ℕ) (keys : List ℕ) (weight : Float) (ws : List ℕ) (cs : List Float) where
  abbrev one_line : Bool
  one_line = leb 1 (rows_in w ws cs) && ltb line (length keys / (2 * w))

  abbrev its : List Term
  its = term_of w (key_at (2 * w) keys line) weight ∷ []

  pub single_done : {r n : ℕ} {ws' : List ℕ} {cs' : List Float} → r ≡ rows_in w ws cs → 1 ≤ r → n ≡ length keys / (2 * w) → line < n
      → (ws' ≡ put_key (2 * w) ws 0 (term_of w (key_at (2 * w) keys line) weight).key) × (cs' ≡ put_coeff cs 0 (term_of w (key_at (2 * w) keys line) weight).coeff)
      → Started one_line w 1 its 1 ws ws' cs cs'
  unfolding tab
  single_done {ws' = ws'} {cs' = cs'} er hr en hn e =
      let row : 1 ≤ rows_in w ws cs = rw (← er) hr in
      let there : line < length keys / (2 * w) = rw (← en) hn in
      let room = rows_room w 1 ws cs row in
      let H : Holds (2 * w) 1 1 its ws ws' cs cs' =
      rw (e.0, e.1) (hold_push (hold_start (2 * w) 1 0 ws cs) room (omega arith) (term_of w (key_at (2 * w) keys line) weight) (term_long w line keys weight there)) in
      started_held one_line w 1 its ws cs (λ k. le-leb 1 (rows_in w ws cs) row k && lt-ltb line (length keys / (2 * w)) there k) room.coeffs_room H

-- ---- a sum of lines

merged_few : (l : List Term) → length l < 2 → merged l ≡ l
merged_few [] h = refl
merged_few (t ∷ []) h = refl
merged_few (t ∷ u ∷ l) h = absurd (omega arith)

merged_many : (l : List Term) → 2 ≤ length l → merged l ≡ coalesced l
merged_many [] h = absurd (omega arith)
merged_many (t ∷ []) h = absurd (omega arith)
merged_many (t ∷ u ∷ l) h = refl

module _ (w lines : ℕ) (keys : List ℕ) (weights : List Float) (ws : List ℕ) (cs : List Float) where
  abbrev all_lines : Bool
  all_lines = leb lines (rows_in w ws cs) && leb lines (length keys / (2 * w))

  abbrev terms : List Term
  terms = lines_of w keys weights lines

  lines_count : length terms ≡ lines
  lines_count = length_tab lines (λ l. term_of w (key_at (2 * w) keys l) (get_or weights l nan))

  module _ {ws₁ : List ℕ} {cs₁ : List Float} (row : lines ≤ rows_in w ws cs) (there : lines ≤ length keys / (2 * w))
      (H : Holds (2 * w) lines lines terms ws ws₁ cs cs₁) where
    yes : all_lines ≡ true
    yes = λ k. le-leb lines (rows_in w ws cs) row k && le-leb lines (length keys / (2 * w)) there k

    pub sum_few : lines < 2 → Started all_lines w lines (merged terms) lines ws ws₁ cs cs₁
    sum_few h =
        let same : merged terms ≡ terms = merged_few terms (rw lines_count h) in
        rw same (started_held all_lines w lines terms ws cs yes (rows_room w lines ws cs row).coeffs_room H)

    pub sum_many : {r : ℕ} {ws₂ : List ℕ} {cs₂ : List Float} → 2 ≤ lines → Stepped w lines lines lines (coalesced (terms_in (2 * w) lines ws₁ cs₁)) r ws₁ ws₂ cs₁ cs₂
        → Started all_lines w lines (merged terms) r ws ws₂ cs cs₂
    unfolding words_with coeffs_with
    sum_many {r} {ws₂} {cs₂} h S =
        let ts : List Term = merged terms in
        let same : coalesced (terms_in (2 * w) lines ws₁ cs₁) ≡ ts = ap coalesced H.terms ∙ sym (merged_many terms (rw lines_count h)) in
        let room : leb lines (rows_in w ws₁ cs₁) ≡ true = le-leb lines (rows_in w ws₁ cs₁) (rw (held_rows w H) row) in
        let count : r ≡ length ts = S.count ∙ ap₂ (λ (b : Bool) (l : List Term). cond b (length l) lines) room same in
        let words : ws₂ ≡ words_with w lines ts ws =
        S.words ∙ ap₂ (λ (b : Bool) (l : List Term). cond b (words_with w lines l ws₁) ws₁) room same
        ∙ ap (λ (l : List ℕ). keys_of ts ++ (replicate ((lines - length ts) * (2 * w)) 0 ++ l)) H.words_kept in
        let coeffs : cs₂ ≡ coeffs_with lines ts cs =
        S.coeffs ∙ ap₂ (λ (b : Bool) (l : List Term). cond b (coeffs_with lines l cs₁) cs₁) room same
        ∙ ap (λ (l : List Float). coeffs_of ts ++ (replicate (lines - length ts) zero64 ++ l)) H.coeffs_kept in
        subst (λ (n : ℕ). Started all_lines w lines ts n ws ws₂ cs cs₂) (sym count) (started all_lines w lines ts ws cs yes words coeffs)
