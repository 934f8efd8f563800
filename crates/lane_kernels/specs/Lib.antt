pub mod Reductions
pub mod Kernels
pub mod Logs
pub mod Inner
