-- The laws that the crates above may cite, and behind them what only this crate's proofs use.
pub mod WriteLaws
mod TextLaws
mod Cases
