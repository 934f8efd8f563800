mod Imports
pub mod Divided
pub mod MortonLemmas
pub mod PairLemmas
pub mod SlotLemmas
pub mod SpreadLemmas
pub mod Auto
