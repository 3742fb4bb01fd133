pub mod One
pub mod First
