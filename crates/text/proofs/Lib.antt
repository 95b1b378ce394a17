pub mod PartLaws
pub mod ReadLaws
pub mod SpellLaws
