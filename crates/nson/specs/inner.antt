pub mod Places
pub mod Decision
pub mod Needs
pub mod Numbers
