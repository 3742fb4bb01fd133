pub mod Nodes
pub mod Buffers
pub mod Extents
pub mod Arrays
pub mod Leaves
pub mod Heads
