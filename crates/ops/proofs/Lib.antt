-- Laws of targets and marks.
pub mod TargetLaws
pub mod SizeLaws
pub mod MarkLaws
pub mod CoverLaws
pub mod BinaryLaws
