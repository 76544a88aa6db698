pub mod Read
pub mod Telling
