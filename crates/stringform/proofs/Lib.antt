pub mod Laws
mod Steps
pub mod Telling
