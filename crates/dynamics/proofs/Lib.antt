-- Laws of ops, turns and runs.
pub mod StageLaws
pub mod KeptLaws
pub mod ActLaws
pub mod FiniteLaws
pub mod Alike
pub mod Cone
pub mod CountedRuns
