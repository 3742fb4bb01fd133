pub mod Pairs
pub mod Tops
pub mod Sweep
pub mod Walked
pub mod Entered
pub mod Shown
pub mod Acted
