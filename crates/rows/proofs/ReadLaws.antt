-- The terms read back from the rows that a public step leaves. Assumes nothing.
use mathlib.Core.Path.{◌≡◌, refl, sym, ap, ◌∙◌}
use mathlib.Core.Bool.{Bool, true, cond}
use mathlib.Core.List.{List, [], ◌∷◌, ◌++◌, append_assoc}
use Prim.Native.Nat.{ℕ, suc, ◌+◌, ◌-◌, ◌*◌, ◌≤◌}
use native.Mathlib.Nat.{suc-mul, zero-mul, mul-le-mul_right, add_comm}
use native.Mathlib.Omega.{arith}
use lib.Dec.{leb}
use lib.ListN.{length, get_or, take, drop, replicate, length-append, length-replicate, length-drop}
use lib.Seq.{take-append_seam, drop-append-add}
use lib.Ieee.{Float, nan}
use Rattle.numbers.specs.Constants.{zero64}
use Rattle.terms.specs.Lists.{tab, All}
use Rattle.terms.specs.Term.{Term}
use Rattle.terms.proofs.ListLaws.{tab_ext}
use Rattle.words.specs.Rows.{key_at}
use Rattle.rows.specs.Rows.{term_at, terms_in, rows_in, keys_of, coeffs_of, words_with, coeffs_with, Stepped, Holds}
use Rattle.rows.proofs.StepLaws.{rows_room}
use Rattle.rows.proofs.ClearLaws.{rows_less}

-- a term whose key has s words
abbrev pub Keyed : ℕ → Term → Type 0
Keyed s t = length t.key ≡ s

-- ---- the rows of a list of terms

first_key : (s : ℕ) (k x : List ℕ) → length k ≡ s → take s (drop (0 * s) (k ++ x)) ≡ k
first_key s k x e = ap (λ (n : ℕ). take s (drop n (k ++ x))) (zero-mul s) ∙ ap (λ (n : ℕ). take n (k ++ x)) (sym e) ∙ take-append_seam k x

next_key : (s i : ℕ) (k x : List ℕ) → length k ≡ s → key_at s (k ++ x) (suc i) ≡ key_at s x i
next_key s i k x e =
    ap (λ (n : ℕ). take s (drop n (k ++ x))) (suc-mul i s ∙ add_comm (i * s) s ∙ ap (λ (n : ℕ). n + i * s) (sym e)) ∙ ap (take s) (drop-append-add k x (i * s))

pub terms_read : (s : ℕ) (ts : List Term) (x : List ℕ) (y : List Float) → All (Keyed s) ts → terms_in s (length ts) (keys_of ts ++ x) (coeffs_of ts ++ y) ≡ ts
unfolding tab keys_of coeffs_of
terms_read s [] x y h = refl
terms_read s (t ∷ ts) x y h =
    let ws : List ℕ = (t.key ++ keys_of ts) ++ x in
    let cs : List Float = t.coeff ∷ (coeffs_of ts ++ y) in
    let whole : ws ≡ t.key ++ (keys_of ts ++ x) = append_assoc t.key (keys_of ts) x in
    let first : key_at s ws 0 ≡ t.key = ap (λ (l : List ℕ). key_at s l 0) whole ∙ first_key s t.key (keys_of ts ++ x) h.0 in
    let rest : tab (length ts) (λ i. term_at s ws cs (suc i)) ≡ ts =
    tab_ext (length ts) (λ i. term_at s ws cs (suc i)) (term_at s (keys_of ts ++ x) (coeffs_of ts ++ y))
    (λ i l k. record {
      key = (ap (λ (m : List ℕ). key_at s m (suc i)) whole ∙ next_key s i t.key (keys_of ts ++ x) h.0) k;
      coeff = get_or (coeffs_of ts ++ y) i nan;
    })
    ∙ terms_read s ts x y h.1 in
    λ k. record { key = first k; coeff = t.coeff } ∷ rest k

-- ---- their lengths

pub length_keys_of : (s : ℕ) (ts : List Term) → All (Keyed s) ts → length (keys_of ts) ≡ length ts * s
unfolding keys_of
length_keys_of s [] h = sym (zero-mul s)
length_keys_of s (t ∷ ts) h = length-append t.key (keys_of ts) ∙ (λ k. h.0 k + length_keys_of s ts h.1 k) ∙ add_comm s (length ts * s) ∙ sym (suc-mul (length ts) s)

pub length_coeffs_of : (ts : List Term) → length (coeffs_of ts) ≡ length ts
unfolding coeffs_of
length_coeffs_of [] = refl
length_coeffs_of (t ∷ ts) = ap suc (length_coeffs_of ts)

-- a list, filled up to place b, and the rest of another list
abbrev padded : {A : Type 0} → A → List A → List A → ℕ → List A
padded z l m b = l ++ (replicate (b - length l) z ++ drop b m)

module _ {A : Type 0} (z : A) (l m : List A) (b : ℕ) (fits : length l ≤ b) (long : b ≤ length m) where
  pub length_padded : length (padded z l m b) ≡ length m
  length_padded =
      length-append l (replicate (b - length l) z ++ drop b m) ∙ ap (λ (n : ℕ). length l + n) (length-append (replicate (b - length l) z) (drop b m))
      ∙ simp (length-replicate, length-drop) (omega arith)

  pub drop_padded : drop b (padded z l m b) ≡ drop b m
  drop_padded =
      let p : b ≡ length l + (b - length l) = omega arith in
      let q : b - length l ≡ length (replicate (b - length l) z) + 0 = rw length-replicate (omega arith) in
      ap (λ (n : ℕ). drop n (padded z l m b)) p ∙ drop-append-add l (replicate (b - length l) z ++ drop b m) (b - length l)
      ∙ ap (λ (n : ℕ). drop n (replicate (b - length l) z ++ drop b m)) q ∙ drop-append-add (replicate (b - length l) z) (drop b m) 0

-- ---- what a public step leaves, where it has room

module _ (w need R n : ℕ) {ts : List Term} {r : ℕ} {ws ws' : List ℕ} {cs cs' : List Float} (S : Stepped w need R n ts r ws ws' cs cs')
    (room : leb need (rows_in w ws cs) ≡ true) (reach : R ≤ rows_in w ws cs) (few : length ts ≤ R) (keyed : All (Keyed (2 * w)) ts) where
  abbrev s : ℕ
  s = 2 * w

  pub step_count : r ≡ length ts
  step_count = S.count ∙ ap (λ (b : Bool). cond b (length ts) n) room

  free : (R - length ts) * s ≡ R * s - length (keys_of ts)
  free = sym (rows_less s (length ts) R) ∙ ap (λ (k : ℕ). R * s - k) (sym (length_keys_of s ts keyed))

  free2 : R - length ts ≡ R - length (coeffs_of ts)
  free2 = let h = length_coeffs_of ts in omega arith

  words_are : ws' ≡ padded 0 (keys_of ts) ws (R * s)
  unfolding words_with
  words_are = S.words ∙ ap (λ (b : Bool). cond b (words_with w R ts ws) ws) room ∙ ap (λ (k : ℕ). keys_of ts ++ (replicate k 0 ++ drop (R * s) ws)) free

  coeffs_are : cs' ≡ padded zero64 (coeffs_of ts) cs R
  unfolding coeffs_with
  coeffs_are = S.coeffs ∙ ap (λ (b : Bool). cond b (coeffs_with R ts cs) cs) room ∙ ap (λ (k : ℕ). coeffs_of ts ++ (replicate k zero64 ++ drop R cs)) free2

  pub step_holds : Holds s R r ts ws ws' cs cs'
  step_holds =
      let fit = rows_room w R ws cs reach in
      let a : length (keys_of ts) ≤ R * s = rw (length_keys_of s ts keyed) (mul-le-mul_right s few) in
      let b : length (coeffs_of ts) ≤ R = rw (length_coeffs_of ts) (omega arith) in
      record {
        terms = (λ k. terms_in s (step_count k) (words_are k) (coeffs_are k)) ∙ terms_read s ts _ _ keyed;
        words_kept = ap (drop (R * s)) words_are ∙ drop_padded 0 (keys_of ts) ws (R * s) a fit.words_room;
        coeffs_kept = ap (drop R) coeffs_are ∙ drop_padded zero64 (coeffs_of ts) cs R b fit.coeffs_room;
        words_long = ap length words_are ∙ length_padded 0 (keys_of ts) ws (R * s) a fit.words_room;
        coeffs_long = ap length coeffs_are ∙ length_padded zero64 (coeffs_of ts) cs R b fit.coeffs_room;
      }
