pub mod WalkLaws
pub mod AskLaws
pub mod LineLaws
pub mod VerdictLaws
