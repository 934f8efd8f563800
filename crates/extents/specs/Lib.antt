pub mod Indices
pub mod IndicesLaws
pub mod Shapes
pub mod Stored
pub mod RowLaws
pub mod ShapeLaws
pub mod Windows
pub mod WindowLaws
