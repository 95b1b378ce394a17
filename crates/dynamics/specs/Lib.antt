pub mod Acts
pub mod Turn
pub mod Runs
pub mod Outcome
