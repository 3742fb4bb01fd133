pub mod Sweeping
pub mod Pairing
pub mod Counting
pub mod Walking
pub mod Entering
pub mod Acted
