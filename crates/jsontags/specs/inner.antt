pub mod Comma
