pub mod Wrapping
pub mod Inside
pub mod Carried
