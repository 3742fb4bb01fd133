mod Counts
mod Lines
mod Whole
mod Ends
