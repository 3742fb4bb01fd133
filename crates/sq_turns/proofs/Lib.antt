pub mod Meeting
pub mod Putting
pub mod Spotting
pub mod Linking
pub mod Loading
pub mod Blocking
pub mod Paths
pub mod Planning
