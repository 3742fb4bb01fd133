pub mod Texts
pub mod Tree
pub mod Machine
pub mod FormsFound
pub mod Laws
