-- The tests of targets that the words have. Assumes nothing.
use mathlib.Core.Path.{◌≡◌, sym, ◌∙◌}
use mathlib.Core.Bool.{true, false, not, ◌&&◌}
use mathlib.Core.Logic.{◌⊎◌, inl, inr}
use mathlib.Core.List.{[], ◌∷◌}
use Prim.Native.Nat.{ℕ, ◌*◌, ◌/◌, ◌≤◌, ◌<◌}
use native.Mathlib.Omega.{arith}
use lib.Dec.{ltb, eqb}
use borrow.Author.Tests.{lt-ltb, le-ltb}
use Rattle.terms.proofs.CaseLaws.{lt_or_le}
use Rattle.ops.specs.Ops.{on_words}

-- the code's test of one target
pub qubit_test : (w q : ℕ) → ltb (q / 64) w ≡ ltb q (64 * w)
qubit_test w q = go (lt_or_le q (64 * w))
  where
    go : (q < 64 * w) ⊎ (64 * w ≤ q) → ltb (q / 64) w ≡ ltb q (64 * w)
    go (inl h) = lt-ltb (q / 64) w (omega arith) ∙ sym (lt-ltb q (64 * w) h)
    go (inr h) = le-ltb (q / 64) w (omega arith) ∙ sym (le-ltb q (64 * w) h)

pub qubit_on : (w q : ℕ) → ltb (q / 64) w ≡ on_words w (q ∷ [])
unfolding on_words
qubit_on w q = qubit_test w q

module _ (w a b : ℕ) where
  pub pair_yes : on_words w (a ∷ []) ≡ true → on_words w (b ∷ []) ≡ true → on_words w (a ∷ b ∷ []) ≡ not (eqb a b)
  unfolding on_words
  pair_yes p q = λ k. p k && (q k && not (eqb a b))

  pub pair_second : on_words w (a ∷ []) ≡ true → on_words w (b ∷ []) ≡ false → on_words w (a ∷ b ∷ []) ≡ false
  unfolding on_words
  pair_second p q = λ k. p k && (q k && not (eqb a b))

  pub pair_first : on_words w (a ∷ []) ≡ false → on_words w (a ∷ b ∷ []) ≡ false
  unfolding on_words
  pair_first p = λ k. p k && (ltb b (64 * w) && not (eqb a b))
