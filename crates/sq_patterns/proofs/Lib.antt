pub mod Fitting
pub mod Owing
pub mod Places
pub mod Readings
pub mod Ready
pub mod Matching
pub mod Turns
