-- Laws of turns and runs in lent memory.
pub mod ApplyLaws
pub mod TurnLaws
pub mod RunLaws
pub mod EndLaws
pub mod StartLaws
pub mod SumCounts
pub mod FoldLaws
pub mod MarkRuns
pub mod SumLaws
pub mod AllRunLaws
pub mod LentMemory
