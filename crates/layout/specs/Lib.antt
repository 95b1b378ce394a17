pub mod Layout
pub mod Cursor
pub mod Loaded
