pub mod Canonical
pub mod Front
