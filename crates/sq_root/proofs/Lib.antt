mod Parts
mod Fitting
mod Keeping
mod Picking
