pub mod Blocks
pub mod Settings
pub mod Values
pub mod Plans
