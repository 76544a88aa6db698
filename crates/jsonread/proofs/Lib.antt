pub mod Copying
pub mod Writing
pub mod Whole
