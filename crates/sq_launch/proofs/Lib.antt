pub mod Placing
mod Rooms
mod Starts
mod Texting
