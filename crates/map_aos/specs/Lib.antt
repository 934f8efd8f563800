pub mod Aos
pub mod AosLaws
