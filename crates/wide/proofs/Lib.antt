-- Laws of the wide run of byte strings.
pub mod WideBytes
pub mod WideCases
