pub mod Adding
pub mod Figures
pub mod Reports
pub mod Laws
pub mod Examples
pub mod Answers
pub mod Demo
