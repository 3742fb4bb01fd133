pub mod Colors
pub mod Keys
pub mod Reached
pub mod EventFlaws
