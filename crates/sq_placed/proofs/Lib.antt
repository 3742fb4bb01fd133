pub mod Opened
pub mod Pipes
pub mod SameWorks
pub mod Plain
pub mod ExampleRow
