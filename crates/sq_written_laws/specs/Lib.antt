pub mod Alike
pub mod Again
pub mod Places
pub mod Moved
