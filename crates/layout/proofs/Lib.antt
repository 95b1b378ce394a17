-- Laws of the lines of a sheet.
pub mod CursorLaws
pub mod LaidLaws
pub mod LoadLaws
pub mod LineLaws
pub mod HeadLaws
