pub mod ConeRuns
pub mod RunsCone
