pub mod Sides
pub mod SidesLaws
pub mod MoreLaws
pub mod SplitLaws
pub mod SizesLaws
pub mod SplitPlacesLaws
pub mod Inner
