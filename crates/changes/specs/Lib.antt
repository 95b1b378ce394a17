-- What each change request moved: the answers now, beside the definition of the answers before it.
pub mod Compared
pub mod TopLine
pub mod NoAngle
