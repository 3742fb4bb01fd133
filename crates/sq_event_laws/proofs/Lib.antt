pub mod Statements
pub mod Forms
pub mod Codes
pub mod Running
pub mod Counting
