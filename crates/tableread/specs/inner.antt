pub mod Prints
pub mod Known
