-- The two forms name the same coefficients.
--   SameTerms   a number and the coefficient that it stands for: signs, sums, products
--   SameSteps   the steps                                 SameRuns    turns and runs
--   PartedRuns  one part of every coefficient is zero     SizeLaws    the size is exact
--   Cases       document 01's cases A to J
mod ComplexLaws
pub mod SameTerms
pub mod SameSteps
pub mod SameRuns
pub mod PartedRuns
pub mod SizeLaws
pub mod Cases
