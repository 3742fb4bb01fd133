mod Counted
mod Examples
mod Filling
mod Lists
pub mod Pieces
mod Sums
mod Texts
