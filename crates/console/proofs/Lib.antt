pub mod TextLaws
pub mod WriteLaws
