pub mod Fields
pub mod TermLines
pub mod OpLines
