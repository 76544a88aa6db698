pub mod Strict
pub mod inner
