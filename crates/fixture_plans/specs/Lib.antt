pub mod Lanes
pub mod Mixed
pub mod Turns
