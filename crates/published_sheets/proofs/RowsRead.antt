-- The rows that a run leaves, read back: its terms in order, then zero rows. Assumes nothing.
use mathlib.Core.Path.{◌≡◌, refl, sym, ap, ◌∙◌}
use Prim.Native.Nat.{ℕ, zero, suc, ◌+◌, ◌-◌, ◌*◌, ◌≤◌}
use native.Mathlib.Nat.{suc-mul, zero-mul, add_comm}
use native.Mathlib.Omega.{arith}
use mathlib.Core.List.{List, [], ◌∷◌, ◌++◌, append_assoc}
use lib.ListN.{length, drop, replicate, length-append, length-replicate, replicate-append-replicate}
use lib.Ieee.{Float}
use Rattle.numbers.specs.Constants.{zero64}
use Rattle.terms.specs.Lists.{All}
use Rattle.terms.specs.Term.{Term, term}
use Rattle.terms.proofs.AllLaws.{all_append}
use Rattle.rows.specs.Rows.{terms_in, keys_of, coeffs_of, words_with, coeffs_with}
use Rattle.rows.proofs.ReadLaws.{Keyed, terms_read}

-- ---- terms as rows
keys_append : (ts us : List Term) → keys_of (ts ++ us) ≡ keys_of ts ++ keys_of us
unfolding keys_of
keys_append [] us = refl
keys_append (t ∷ ts) us = ap (λ (l : List ℕ). t.key ++ l) (keys_append ts us) ∙ sym (append_assoc t.key (keys_of ts) (keys_of us))

coeffs_append : (ts us : List Term) → coeffs_of (ts ++ us) ≡ coeffs_of ts ++ coeffs_of us
unfolding coeffs_of
coeffs_append [] us = refl
coeffs_append (t ∷ ts) us = ap (λ (l : List Float). t.coeff ∷ l) (coeffs_append ts us)

-- a zero row
abbrev pub blank : ℕ → Term
blank w = term (replicate (2 * w) 0) zero64

keys_blank : (w n : ℕ) → keys_of (replicate n (blank w)) ≡ replicate (n * (2 * w)) 0
unfolding keys_of
keys_blank w zero = sym (ap (λ (k : ℕ). replicate k 0) (zero-mul (2 * w)))
keys_blank w (suc n) =
    ap (λ (l : List ℕ). replicate (2 * w) 0 ++ l) (keys_blank w n) ∙ replicate-append-replicate (2 * w) (n * (2 * w)) 0
    ∙ ap (λ (k : ℕ). replicate k 0) (add_comm (2 * w) (n * (2 * w)) ∙ sym (suc-mul n (2 * w)))

coeffs_blank : (w n : ℕ) → coeffs_of (replicate n (blank w)) ≡ replicate n zero64
unfolding coeffs_of
coeffs_blank w zero = refl
coeffs_blank w (suc n) = ap (λ (l : List Float). zero64 ∷ l) (coeffs_blank w n)

blank_keyed : (w n : ℕ) → All (Keyed (2 * w)) (replicate n (blank w))
blank_keyed w zero = tt
blank_keyed w (suc n) = (length-replicate (2 * w) 0, blank_keyed w n)

module _ (w n : ℕ) (ts : List Term) (few : length ts ≤ n) (keyed : All (Keyed (2 * w)) ts) where
  -- n rows in all
  abbrev free : ℕ
  free = n - length ts

  abbrev whole : List Term
  whole = ts ++ replicate free (blank w)

  whole_long : length whole ≡ n
  whole_long = length-append ts (replicate free (blank w)) ∙ ap (λ (k : ℕ). length ts + k) (length-replicate free (blank w)) ∙ omega arith

  words_whole : (ws : List ℕ) → words_with w n ts ws ≡ keys_of whole ++ drop (n * (2 * w)) ws
  unfolding words_with
  words_whole ws =
      sym (append_assoc (keys_of ts) (replicate (free * (2 * w)) 0) (drop (n * (2 * w)) ws))
      ∙ ap (λ (l : List ℕ). l ++ drop (n * (2 * w)) ws) (sym (keys_append ts (replicate free (blank w)) ∙ ap (λ (l : List ℕ). keys_of ts ++ l) (keys_blank w free)))

  coeffs_whole : (cs : List Float) → coeffs_with n ts cs ≡ coeffs_of whole ++ drop n cs
  unfolding coeffs_with
  coeffs_whole cs =
      sym (append_assoc (coeffs_of ts) (replicate free zero64) (drop n cs))
      ∙ ap (λ (l : List Float). l ++ drop n cs) (sym (coeffs_append ts (replicate free (blank w)) ∙ ap (λ (l : List Float). coeffs_of ts ++ l) (coeffs_blank w free)))

  pub rows_back : (ws : List ℕ) (cs : List Float) → terms_in (2 * w) n (words_with w n ts ws) (coeffs_with n ts cs) ≡ whole
  rows_back ws cs =
      (λ k. terms_in (2 * w) (sym whole_long k) (words_whole ws k) (coeffs_whole cs k))
      ∙ terms_read (2 * w) whole (drop (n * (2 * w)) ws) (drop n cs) (all_append (Keyed (2 * w)) ts (replicate free (blank w)) keyed (blank_keyed w free))
