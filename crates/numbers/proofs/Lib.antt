-- The laws that the crates above may cite, and behind them what only this crate's proofs use.
pub mod ValueLaws
pub mod CloseLaws
pub mod SignLaws
pub mod UnitLaws
pub mod TestLaws
pub mod BitLaws
pub mod RootLaws
pub mod RootNearest
pub mod StdRoot
pub mod ShownLaws
pub mod FairLaws
pub mod CutLaws
pub mod NormLaws
mod Squares
mod Rounded
