pub mod Answers
pub mod Simple
