pub mod Turns
pub mod Passes
pub mod Knowing
pub mod Entries
pub mod Searching
pub mod Held
pub mod Within
pub mod Whole
