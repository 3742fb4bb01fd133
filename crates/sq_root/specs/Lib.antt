pub mod Flagged
pub mod Places
pub mod Roots
pub mod PlaceLaws
