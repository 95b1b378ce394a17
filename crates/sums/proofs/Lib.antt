mod GateRows
mod TruncateLaws
pub mod MeanLaws
