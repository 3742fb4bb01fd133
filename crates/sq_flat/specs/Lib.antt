pub mod Blocks
pub mod Memory
pub mod Works
pub mod Ready
pub mod Checked
pub mod Held
pub mod Ends
