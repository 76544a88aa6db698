pub mod Plain
pub mod Turns
pub mod Carried
pub mod Whole
pub mod Entry
