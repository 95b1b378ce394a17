mod ProbeLaws
mod ChainLaws
mod HashLaws
mod WalkLaws
mod FileLaws
mod PairLaws
mod TableLaws
mod IndexLaws
mod PartnerLaws
mod RotationRows
pub mod RotatedLaws
mod ScalingLaws
mod ChannelRows
mod IndexRows
mod ShareLaws
mod StartLaws
