-- From the operation elements to the definition of the channels in terms.
--   Heisenberg            `published`, `published2`: the sum of E† P E for every channel and letter, in any exact numbers
--   ByLetter              `pauli_rounded` .. `depol2_rounded`: the rounded formulas are `action_of`; `channeled_published`: a channel's step on terms, by letters
--   Polynomial, Reading   formulas as polynomials in the parameters, for computing
--   RingLaws, ReadingLaws, Homomorphisms   the values of polynomials, of formulas and of matrices
--   Seven                 `exactly`: the field of seven elements is an instance of Exact, finite so that its laws are computed; `published` there
pub mod Polynomial
pub mod Reading
pub mod RingLaws
pub mod Homomorphisms
pub mod ReadingLaws
pub mod Heisenberg
pub mod ByLetter
pub mod Seven
