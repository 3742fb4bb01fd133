pub mod Nodes
mod Stepping
mod Endings
mod Spots
mod Performed
mod Carrying
mod Calling
mod Taking
mod Performing
mod Logging
mod Unders
mod Totals
mod Prepared
mod Lines
