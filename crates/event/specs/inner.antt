pub mod Told
pub mod Tells
