pub mod Arrays
pub mod Launching
pub mod Starts
