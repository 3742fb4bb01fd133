mod Puts
mod Walked
mod Sums
