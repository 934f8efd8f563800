-- Words of contracts within the project, which no promise reaches.
pub mod Choices
pub mod Curve
pub mod Pools
pub mod SideCosts
pub mod Steady
pub mod Trials
pub mod Warm
