-- `run=wide` beside `run=path`, of byte strings.
pub mod SheetWide
