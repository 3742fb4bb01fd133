pub mod Names
pub mod Lists
pub mod Terms
pub mod Room
pub mod Bounds
pub mod Reaches
pub mod Rivals
pub mod Lacks
