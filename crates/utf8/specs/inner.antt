pub mod Windows
pub mod Width
pub mod Scalar
