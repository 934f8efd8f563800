mod Imports
mod Loops
mod ReadsFront
mod Puts
