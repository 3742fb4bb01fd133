pub mod Keeping
pub mod Lacking
pub mod Told
mod Flagged
mod Landing
mod Marks
mod Enough
mod Ending
mod Doubled
mod Rooms
pub mod Compiles
mod Passing
mod Alike
