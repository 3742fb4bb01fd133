pub mod Reached
pub mod Trimmed
pub mod Flawless
pub mod Full
pub mod Trees
pub mod Filed
