pub mod Nson
pub mod Carries
pub mod Read
pub mod Entries
pub mod inner
