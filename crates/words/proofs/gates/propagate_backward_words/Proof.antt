-- The answers stand by position. Each of the last cites the arm that the paper's order has at its place: controlled-NOT, Hadamard, phase, then the other gates
-- (2026-05). No other arm has that field, so that a match in another order is refused.
use borrow.Author.Rules.{rules}
use native.Mathlib.Omega.{arith}
use Rattle.words.proofs.GateLaws.{conj_key_flipped}
use Rattle.words.proofs.gates.propagate_backward_words.Statement.{statement}
use Rattle.words.proofs.gates.propagate_backward_words.Tie as tie

pub propagate_backward_words_spec : {M : Type 1} → statement M
propagate_backward_words_spec =
    tie.close
    (tie.spec
    (λ c. search rules) _ (λ c. search rules) _ _ _ (λ c. search rules) _ (λ c. search rules) _
    (λ c. search rules) (λ c. grind (arith, conj_key_flipped, c.in-Cx.is))
    (λ c. search rules) (λ c. grind (arith, conj_key_flipped, c.in-H.is))
    (λ c. search rules) (λ c. grind (arith, conj_key_flipped, c.in-S.is))
    (λ c. search rules) (λ c. grind (arith, conj_key_flipped, c.in-Sx.is))
    (λ c. search rules) (λ c. grind (arith, conj_key_flipped, c.in-Cz.is))
    (λ c. search rules) (λ c. grind (arith, conj_key_flipped, c.in-Swap.is))
    (λ c. grind (arith, conj_key_flipped, c.in-Id.is)))
