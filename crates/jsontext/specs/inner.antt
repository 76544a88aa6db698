pub mod Escape
pub mod Walk
pub mod Numbers
