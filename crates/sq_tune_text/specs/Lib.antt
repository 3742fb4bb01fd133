pub mod Text
pub mod Traffic
pub mod Walk
