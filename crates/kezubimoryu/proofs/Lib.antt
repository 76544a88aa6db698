pub mod Refusals
pub mod Itself
