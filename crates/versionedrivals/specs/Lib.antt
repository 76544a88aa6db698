pub mod Rivals
pub mod inner
