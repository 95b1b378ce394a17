pub mod SumRuns
pub mod AllRuns
pub mod Told
pub mod Folding
pub mod Means
pub mod Lent
