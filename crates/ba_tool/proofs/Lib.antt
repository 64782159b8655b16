mod Bounded
mod Coming
mod Ending
mod Due
