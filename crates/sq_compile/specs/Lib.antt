pub mod Capacity
pub mod Room
pub mod Compiled
pub mod Passes
