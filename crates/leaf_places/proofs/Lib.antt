mod Imports
mod Leading
mod Numbers
mod Shorts
mod Placing
pub mod Auto
