pub mod Equations
pub mod Trimming
pub mod Rooms
pub mod Independent
pub mod Numbering
pub mod Good
pub mod Orders
pub mod First
