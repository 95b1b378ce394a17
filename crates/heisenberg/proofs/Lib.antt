-- The definitions are the published rules.
--   RowUpdates       a gate on a whole word       MeanLaws       the mean
--   PauliProducts    iσP is S† P S                ComplexForms   rotations and mean, of complex coefficients
--   PhaseRotations   a rotation
mod CountLaws
mod PhaseKeys
pub mod RowUpdates
pub mod PauliProducts
pub mod PhaseRotations
pub mod MeanLaws
pub mod ComplexForms
