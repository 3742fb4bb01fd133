pub mod Puts
pub mod Deeds
pub mod Loops
pub mod Reaches
