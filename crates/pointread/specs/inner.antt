pub mod Answers
pub mod Tables
pub mod Walk
pub mod Once
