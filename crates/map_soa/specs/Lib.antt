pub mod Soa
pub mod SoaLaws
