pub mod Lists
pub mod Words64
pub mod Forms
pub mod Walks
pub mod Worst
