-- The answers stand by position. Each of the last cites the arm that the paper's order has at its place: controlled-NOT, Hadamard, phase, then the other gates
-- (2026-05). No other arm has that field, so that a match in another order is refused.
use borrow.Author.Rules.{rules}
use native.Mathlib.Omega.{arith}
use Rattle.words.proofs.gates.clifford_conjugation_phase.Statement.{statement}
use Rattle.words.proofs.gates.clifford_conjugation_phase.Tie as tie

pub clifford_conjugation_phase_spec : {M : Type 1} → statement M
clifford_conjugation_phase_spec =
    tie.close
    (tie.spec
    (λ c. search rules)
    (λ c. search rules) _ _ _
    (λ c. search rules) _ _
    (λ c. search rules) _ _
    (λ c. search rules) _ _
    (λ c. search rules) _ _
    (λ c. search rules) _ _ _
    (λ c. search rules) _ _
    (λ c. search rules) _ _ _
    (λ c. search rules) _ _
    (λ c. grind (arith, c.in-Cx.is))
    (λ c. grind (arith, c.in-H.is))
    (λ c. grind (arith, c.in-S.is))
    (λ c. grind (arith, c.in-Sdg.is))
    (λ c. grind (arith, c.in-Sx.is))
    (λ c. grind (arith, c.in-Sxdg.is))
    (λ c. grind (arith, c.in-Cz.is))
    (λ c. grind (arith, c.in-Swap.is))
    (λ c. grind (arith, c.in-X.is))
    (λ c. grind (arith, c.in-Y.is))
    (λ c. grind (arith, c.in-Z.is)))
