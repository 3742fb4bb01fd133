pub mod Opened
pub mod Cuts
pub mod Counting
pub mod Walks
pub mod Entered
mod ExampleLoops
mod ExampleProduct
