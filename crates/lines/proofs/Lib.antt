pub mod NameLaws
pub mod LineCases
pub mod FactorLaws
pub mod DistinctLaws
pub mod WordLaws
pub mod BinaryLaws
