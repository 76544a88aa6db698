pub mod Again
pub mod Answers
pub mod Tally
pub mod Places
pub mod Numbers
pub mod Passed
