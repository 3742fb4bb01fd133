pub mod Walk
pub mod Named
pub mod Place
pub mod Ends
pub mod Laws
