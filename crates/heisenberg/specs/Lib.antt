-- The published rules, in the Heisenberg picture: a unitary U takes a word P to U† P U.
--   TableauRow      a gate on a whole word: Aaronson and Gottesman's row     Expectation   the mean: ⟨0…0| · |0…0⟩
--   PhaseRotation   a rotation: cos θ · P + sin θ · (S† P S)                 ComplexForm   the same of complex coefficients
--   PauliProduct    iσP is S† P S, and who is met                            Cases         worked values
pub mod TableauRow
pub mod PauliProduct
pub mod PhaseRotation
pub mod Expectation
pub mod ComplexForm
pub mod Cases
