pub mod Areas
pub mod Viewed
pub mod Alike
pub mod Residues
