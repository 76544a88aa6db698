pub mod Versioned
pub mod Views
pub mod Moves
pub mod Seen
pub mod ThereAndBack
pub mod inner
