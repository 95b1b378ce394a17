pub mod Verdict
pub mod Questions
pub mod Asking
