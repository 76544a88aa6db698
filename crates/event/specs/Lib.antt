pub mod Event
pub mod Answers
pub mod inner
