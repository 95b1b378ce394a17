pub mod ComparedLaws
pub mod TopLaws
pub mod TopCases
pub mod AngleLaws
pub mod AngleCases
