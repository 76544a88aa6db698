pub mod Starting
pub mod Moving
pub mod Viewing
pub mod Accepted
pub mod Telling
pub mod Seen
pub mod ThereAndBack
pub mod Example
