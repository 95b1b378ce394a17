-- From what a loop holds to what a public step leaves: with room the terms in order and the rest as it was, without room all as it was.
-- Assumes nothing.
use mathlib.Core.Path.{◌≡◌, refl, sym, ap, ◌∙◌, subst}
use mathlib.Core.Bool.{Bool, true, false, cond}
use mathlib.Core.List.{List, ◌++◌, map}
use Prim.Native.Nat.{ℕ, ◌-◌, ◌*◌, ◌/◌, ◌≤◌, ◌<◌, min}
use native.Mathlib.Nat.{le_refl, sub_self, mul-sub, mul_comm, le_trans, min-le_left, min-le_right}
use native.Mathlib.Omega.{arith}
use lib.Dec.{leb}
use lib.ListN.{length, take, drop, replicate, take-append-drop}
use lib.Ieee.{Float}
use borrow.Author.Tests.{le-leb, lt-leb, leb-true}
use Rattle.numbers.specs.Constants.{zero64}
use Rattle.terms.specs.Lists.{map_to}
use Rattle.terms.specs.Term.{Term}
use Rattle.terms.proofs.ListLaws.{map_to_all, length_tab}
use Rattle.words.proofs.RowSteps.{rows_fit}
use Rattle.rows.specs.Cleared.{filled}
use Rattle.rows.specs.Rows.{term_at, terms_in, rows_in, keys_of, coeffs_of, words_with, coeffs_with, Stepped, Grown, Holds, Room}
use Rattle.rows.proofs.HoldLaws.{hold_count, keys_of_terms, coeffs_of_terms}

-- ---- rows that two buffers hold whole

pub rows_room : (w n : ℕ) (ws : List ℕ) (cs : List Float) → n ≤ rows_in w ws cs → Room (2 * w) n ws cs
rows_room w n ws cs h =
    let a : n ≤ length cs = le_trans h (min-le_right _ _) in
    record { words_room = rows_fit n w (length ws) (le_trans h (min-le_left _ _)); coeffs_room = omega arith }

-- the test of a public step
pub room_yes : (w n : ℕ) (ws : List ℕ) (cs : List Float) {r : ℕ} → r ≡ rows_in w ws cs → n ≤ r → leb n (rows_in w ws cs) ≡ true
room_yes w n ws cs e h = le-leb n (rows_in w ws cs) (subst (λ (x : ℕ). n ≤ x) e h)

pub room_no : (w n : ℕ) (ws : List ℕ) (cs : List Float) {r : ℕ} → r ≡ rows_in w ws cs → r < n → leb n (rows_in w ws cs) ≡ false
room_no w n ws cs e h = lt-leb n (rows_in w ws cs) (subst (λ (x : ℕ). x < n) e h)

-- ---- the buffers as a step leaves them

pub filled_none : {A : Type 0} (z : A) (a : ℕ) (l : List A) → l ≡ filled z a a l
unfolding filled
filled_none z a l = sym (ap (λ (n : ℕ). take a l ++ (replicate n z ++ drop a l)) (sub_self a) ∙ take-append-drop a l)

pub rows_less : (s m n : ℕ) → n * s - m * s ≡ (n - m) * s
rows_less s m n = rw (mul_comm n s, mul_comm m s, mul_comm (n - m) s) (sym (mul-sub s n m))

-- m terms in n rows, and the rows past them cleared
module _ (w n : ℕ) {m : ℕ} {ts : List Term} {ws₀ ws : List ℕ} {cs₀ cs : List Float} (H : Holds (2 * w) n m ts ws₀ ws cs₀ cs) where
  pub words_cleared : {ws' : List ℕ} → ws' ≡ filled 0 (m * (2 * w)) (n * (2 * w)) ws → ws' ≡ words_with w n ts ws₀
  unfolding filled words_with
  words_cleared e = e
      ∙ (λ k. (sym (keys_of_terms (2 * w) m ws cs) ∙ ap keys_of H.terms) k ++ (replicate ((rows_less (2 * w) m n ∙ ap (λ (c : ℕ). (n - c) * (2 * w)) (sym (hold_count H))) k) 0 ++ H.words_kept k))

  pub coeffs_cleared : {cs' : List Float} → m ≤ n → n ≤ length cs₀ → cs' ≡ filled zero64 m n cs → cs' ≡ coeffs_with n ts cs₀
  unfolding filled coeffs_with
  coeffs_cleared le h e =
      let room : m ≤ length cs = rw H.coeffs_long (omega arith) in
      let free : n - m ≡ n - length ts = ap (λ (c : ℕ). n - c) (sym (hold_count H)) in
      e ∙ (λ k. (sym (coeffs_of_terms (2 * w) m ws cs room) ∙ ap coeffs_of H.terms) k ++ (replicate (free k) zero64 ++ H.coeffs_kept k))

-- no row past them
module _ (w : ℕ) {m : ℕ} {ts : List Term} {ws₀ ws : List ℕ} {cs₀ cs : List Float} (H : Holds (2 * w) m m ts ws₀ ws cs₀ cs) where
  pub held_words : ws ≡ words_with w m ts ws₀
  held_words = words_cleared w m H (filled_none 0 (m * (2 * w)) ws)

  pub held_coeffs : m ≤ length cs₀ → cs ≡ coeffs_with m ts cs₀
  held_coeffs h = coeffs_cleared w m H (le_refl m) h (filled_none zero64 m cs)

module _ (w need R n : ℕ) (ts : List Term) (ws : List ℕ) (cs : List Float) where
  stepped_by : {r : ℕ} {ws' : List ℕ} {cs' : List Float} (b : Bool) → leb need (rows_in w ws cs) ≡ b → r ≡ cond b (length ts) n
      → ws' ≡ cond b (words_with w R ts ws) ws → cs' ≡ cond b (coeffs_with R ts cs) cs → Stepped w need R n ts r ws ws' cs cs'
  stepped_by b e c p q = record { count = rw e c; words = rw e p; coeffs = rw e q }

  -- with room
  pub stepped : {ws' : List ℕ} {cs' : List Float} → leb need (rows_in w ws cs) ≡ true → ws' ≡ words_with w R ts ws → cs' ≡ coeffs_with R ts cs
      → Stepped w need R n ts (length ts) ws ws' cs cs'
  stepped e p q = stepped_by true e refl p q

  -- without room
  pub unstepped : leb need (rows_in w ws cs) ≡ false → Stepped w need R n ts n ws ws cs cs
  unstepped e = stepped_by false e refl refl refl

-- a step that reaches just its terms
pub stepped_held : (w need n : ℕ) {m : ℕ} {ts : List Term} {ws ws' : List ℕ} {cs cs' : List Float} → leb need (rows_in w ws cs) ≡ true
    → m ≤ length cs → Holds (2 * w) m m ts ws ws' cs cs' → Stepped w need m n ts m ws ws' cs cs'
stepped_held w need n {m} {ts} {ws} {ws'} {cs} {cs'} e h H =
    subst (λ (r : ℕ). Stepped w need m n ts r ws ws' cs cs') (hold_count H) (stepped w need m n ts ws cs e (held_words w H) (held_coeffs w H h))

-- a loop keeps the number of rows
pub held_rows : (w : ℕ) {s R m : ℕ} {ts : List Term} {ws₀ ws : List ℕ} {cs₀ cs : List Float} → Holds s R m ts ws₀ ws cs₀ cs
    → rows_in w ws cs ≡ rows_in w ws₀ cs₀
held_rows w H = λ k. min (H.words_long k / (2 * w)) (H.coeffs_long k)

-- a loop that has done every row
pub held_map : (F : Term → Term) (s R n i : ℕ) (ws₀ : List ℕ) (cs₀ : List Float) {ws : List ℕ} {cs : List Float}
    → Holds s R n (map_to F i (terms_in s n ws₀ cs₀)) ws₀ ws cs₀ cs → i ≤ n → n ≤ i → Holds s R n (map F (terms_in s n ws₀ cs₀)) ws₀ ws cs₀ cs
held_map F s R n i ws₀ cs₀ {ws} {cs} H a b =
    subst (λ (l : List Term). Holds s R n l ws₀ ws cs₀ cs) (map_to_all F (terms_in s n ws₀ cs₀) i (length_tab n (term_at s ws₀ cs₀) ∙ omega arith)) H

-- room for any number of rows, after a loop
pub held_room : {s R m Q : ℕ} {ts : List Term} {ws₀ ws : List ℕ} {cs₀ cs : List Float} → Holds s R m ts ws₀ ws cs₀ cs → Room s Q ws₀ cs₀ → Room s Q ws cs
held_room H r = record { words_room = rw H.words_long r.words_room; coeffs_room = rw H.coeffs_long r.coeffs_room }

-- the test of a step that may double the terms
pub twice_yes : (w n : ℕ) (ws : List ℕ) (cs : List Float) {r : ℕ} → r ≡ rows_in w ws cs → n ≤ r / 2 → leb (2 * n) (rows_in w ws cs) ≡ true
twice_yes w n ws cs e h = room_yes w (2 * n) ws cs e (omega arith)

pub twice_no : (w n : ℕ) (ws : List ℕ) (cs : List Float) {r : ℕ} → r ≡ rows_in w ws cs → r / 2 < n → leb (2 * n) (rows_in w ws cs) ≡ false
twice_no w n ws cs e h = room_no w (2 * n) ws cs e (omega arith)

-- what a step leaves that may double the terms
pub grown : (w n : ℕ) (us : List Term) {m : ℕ} {ws ws' : List ℕ} {cs cs' : List Float} → leb (2 * n) (rows_in w ws cs) ≡ true → m ≤ 2 * n
    → Holds (2 * w) m m us ws ws' cs cs' → Grown w n us m ws ws' cs cs'
grown w n us {m} {ws} {ws'} {cs} {cs'} e h H =
    let room = (rows_room w (2 * n) ws cs (leb-true (2 * n) _ e)).coeffs_room in
    subst (λ (k : ℕ). Stepped w (2 * n) k n us m ws ws' cs cs') (sym (hold_count H)) (stepped_held w (2 * n) n e (omega arith) H)
