pub mod Together
pub mod Places
pub mod Flat
pub mod Shares
pub mod Sweeps
pub mod Backwards
pub mod Least
pub mod Firsts
