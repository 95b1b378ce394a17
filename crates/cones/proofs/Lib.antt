-- Demand 3 and 2026-10, of values.
pub mod Covered
pub mod Demand
pub mod WideAgrees
pub mod Cases
pub mod ConeCases
pub mod WideCases
