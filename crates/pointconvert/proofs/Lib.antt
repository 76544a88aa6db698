pub mod Turns
pub mod Event
pub mod Converting
