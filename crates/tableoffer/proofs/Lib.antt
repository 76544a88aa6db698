pub mod Deciding
pub mod Meaning
pub mod Whole
