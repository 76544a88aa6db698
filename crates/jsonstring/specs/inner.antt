pub mod Answers
pub mod Loose
pub mod Plain
