pub mod Ops
pub mod Marks
pub mod Task
pub mod Binary
pub mod Refusals
pub mod SameOps
pub mod LineTable
pub mod Sets
