-- The six channels from their operation elements (M. A. Nielsen and I. L. Chuang, "Quantum Computation and Quantum Information", section 8.3).
--   Arithmetic   numbers by their operations; complex numbers and 2 × 2 matrices over them
--   Formula      a formula, as binary64 computes it
--   Exact        exact numbers, and a formula's value there
--   Operators    the Pauli matrices, and what a list of operation elements makes of an observable
--   Channels     the six channels, and their multipliers
--   Letters      the letter of a word at a qubit
--   Cases        worked values
pub mod Arithmetic
pub mod Formula
pub mod Exact
pub mod Operators
pub mod Channels
pub mod Letters
pub mod Cases
