-- Laws of the runs.
pub mod ConeCode
pub mod WideCode
pub mod RunsDemand
