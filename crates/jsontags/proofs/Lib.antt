pub mod Texts
pub mod Again
pub mod Room
