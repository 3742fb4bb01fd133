pub mod Rising
pub mod Performing
pub mod Choosing
pub mod Carrying
pub mod Reaching
pub mod Forwarding
