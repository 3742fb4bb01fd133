pub mod Among
pub mod Bytes
pub mod Coordinates
pub mod Laying
pub mod Apart
