pub mod Answers
pub mod Size
pub mod Spots
