pub mod Known
pub mod Tells
pub mod Members
