pub mod Keys
pub mod Letters
pub mod Gates
pub mod Rows
pub mod Tableau
pub mod Cases
