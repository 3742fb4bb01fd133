pub mod Reading
pub mod Patterns
pub mod Texts
