pub mod Imports
pub mod SubViews
pub mod Stencils
pub mod Plans
pub mod RoundsLaws
pub mod Inner
