mod Digits
mod Fronts
