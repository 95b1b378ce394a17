pub mod Answer
pub mod SheetCone
pub mod Screen
pub mod Running
