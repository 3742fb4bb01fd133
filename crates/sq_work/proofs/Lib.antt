pub mod Frames
pub mod Serial
pub mod Computed
