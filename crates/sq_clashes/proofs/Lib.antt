mod Items
mod Inside
mod Coloring
mod Covering
mod Reached
mod Rowing
mod Finding
