pub mod Copy
pub mod Whole
