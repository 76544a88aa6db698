pub mod Marking
pub mod Choosing
pub mod Order
pub mod Telling
