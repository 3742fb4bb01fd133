pub mod Conflicts
pub mod Dependence
pub mod Puts
