pub mod Counted
pub mod inner
