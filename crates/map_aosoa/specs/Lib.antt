pub mod Aosoa
pub mod AosoaLaws
