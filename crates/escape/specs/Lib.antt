pub mod Escape
pub mod inner
