pub mod Copying
pub mod Whole
pub mod Writing
