pub mod Rotated
pub mod Letters
pub mod Probe
pub mod Chains
pub mod Pairs
pub mod Started
pub mod Scaling
pub mod Index
